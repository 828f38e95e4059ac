-- Drawings: which cells of a box of n × n × n cells are solid, by their numbers.
use Rattle.std.specs.Prelude.{ℕ, ◌+◌, ◌*◌, Bool, false, not, ◌&&◌, if◌then◌else◌, Some, None, Ok, Err, Option, Result, nat_le, nat_lt}
use Rattle.refusals.specs.declared.Refusal.{Refusal}
use Rattle.refusals.specs.declared.Refusal.TheVariants.{OffBox, NoSand}
use Rattle.block.specs.declared.cells.Cell.{Cell}
use Rattle.block.specs.declared.cells.Run.{Run}

-- the number of the cell (x, y, z)
abbrev pub number : ℕ → ℕ → ℕ → ℕ → ℕ
number n x y z = x + n * y + n * n * z

-- no cell is solid
abbrev pub blank : ℕ → Bool
blank k = false

-- the drawing d with the cells from the number lo up to, and without, hi changed
unfoldable pub turned : (ℕ → Bool) → ℕ → ℕ → ℕ → Bool
turned d lo hi k = if nat_le lo k then (if nat_lt k hi then not (d k) else d k) else d k

-- the drawing d with the cells of a run changed
abbrev pub changed : ℕ → (ℕ → Bool) → Run → ℕ → Bool
changed n d w = turned d (number n w.start w.y w.z) (number n w.end w.y w.z)

-- the cell (x, y, z) lies in the box
abbrev pub in_box : ℕ → ℕ → ℕ → ℕ → Bool
in_box n x y z = nat_lt x n && nat_lt y n && nat_lt z n

-- the row of the run lies in the box, and start < end ≤ n
abbrev pub in_row : ℕ → Run → Bool
in_row n w = nat_lt w.y n && nat_lt w.z n && nat_lt w.start w.end && nat_le w.end n

-- what a look at a cell answers
abbrev pub looked : ℕ → (ℕ → Bool) → Cell → Result Bool Refusal
looked n d c = if in_box n c.x c.y c.z then Ok (d (number n c.x c.y c.z)) else Err OffBox

-- why a flip is refused, if it is, where F tells what fits
abbrev pub flip_refusal : ℕ → ((ℕ → Bool) → Bool) → (ℕ → Bool) → Run → Option Refusal
flip_refusal n F d w = if in_row n w then (if F (changed n d w) then None else Some NoSand) else Some OffBox

-- the refusal that a call answers, if it does
abbrev pub refusal_of : {A : Type 0} → Result A Refusal → Option Refusal
refusal_of (Ok a) = None
refusal_of (Err r) = Some r
