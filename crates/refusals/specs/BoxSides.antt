-- The side of the box, and what making one from a number answers.
use Rattle.std.specs.Prelude.{◌≡◌, ℕ, Bool, false, ℤ, pos, negsuc, None, Ok, Err, Result}
use Rattle.refusals.specs.declared.Refusal.{Refusal}
use Rattle.refusals.specs.declared.Refusal.TheVariants.{OddSide}
use Rattle.refusals.specs.declared.box_side.BoxSide.{BoxSide}
use Rattle.refusals.specs.declared.box_side.BoxSide.TheVariants.{Two, Four, Eight, Sixteen, ThirtyTwo, SixtyFour}
use Rattle.refusals.specs.Sides.{is_side}

-- how many cells the side has
abbrev pub cells_of : BoxSide → ℕ
cells_of Two = 2
cells_of Four = 4
cells_of Eight = 8
cells_of Sixteen = 16
cells_of ThirtyTwo = 32
cells_of SixtyFour = 64

-- a whole number that is one of the six sides
abbrev pub names_side : ℤ → Bool
names_side (pos n) = is_side n
names_side (negsuc n) = false

-- the side of so many cells, or the refusal of an odd side, which comes from no line
abbrev pub Made : ℤ → Result BoxSide Refusal → Type 0
Made n (Ok s) = pos (cells_of s) ≡ n
Made n (Err r) = (names_side n ≡ false) × (r ≡ OddSide None)
