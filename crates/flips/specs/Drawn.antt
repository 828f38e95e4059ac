-- What flips make of a drawing, one after the other.
use Rattle.std.specs.Prelude.{◌≡◌, ℕ, Bool, true, ◌&&◌, if◌then◌else◌, List, [], ◌∷◌, length, Ok, Err, Result, All}
use Rattle.algebra.specs.Parity.{◌⊻◌}
use Rattle.refusals.specs.declared.Refusal.{Refusal}
use Rattle.refusals.specs.declared.Refusal.TheVariants.{NoSand}
use Rattle.block.specs.declared.cells.Run.{Run}
use Rattle.block.specs.Drawing.{number, changed, in_box, in_row}

-- the drawing d with all flips made, in order
abbrev pub drawn : ℕ → (ℕ → Bool) → List Run → ℕ → Bool
drawn n d [] = d
drawn n d (w ∷ ws) = drawn n (changed n d w) ws

-- every drawing on the way fits, where F tells what fits; it is false where some drawing on the way does not fit
abbrev pub all_fit : ℕ → ((ℕ → Bool) → Bool) → (ℕ → Bool) → List Run → Bool
all_fit n F d [] = true
all_fit n F d (w ∷ ws) = F (changed n d w) && all_fit n F (changed n d w) ws

-- what making all flips answers: how many they are, or refusal 12 where some drawing on the way does not fit
abbrev pub flips_answer : ℕ → ((ℕ → Bool) → Bool) → (ℕ → Bool) → List Run → Result ℕ Refusal
flips_answer n F d ws = if all_fit n F d ws then Ok (length ws) else Err NoSand

-- from d to e each cell of the box is changed exactly where it is told solid
abbrev pub ChangedWhere : ℕ → (ℕ → ℕ → ℕ → Bool) → (ℕ → Bool) → (ℕ → Bool) → Type 0
ChangedWhere n solid d e = (x y z : ℕ) → in_box n x y z ≡ true → e (number n x y z) ≡ (d (number n x y z) ⊻ solid x y z)

-- ---- a word of the code on the way

-- every flip lies in the box
abbrev pub InBox : ℕ → List Run → Type 0
InBox n ws = All (λ w. in_row n w ≡ true) ws
