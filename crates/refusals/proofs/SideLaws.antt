-- A side of the box is one of the six.
use Rattle.std.proofs.Common.{◌≡◌, true, refl}
use Rattle.refusals.specs.declared.box_side.BoxSide.{BoxSide}
use Rattle.refusals.specs.declared.box_side.BoxSide.TheVariants.{Two, Four, Eight, Sixteen, ThirtyTwo, SixtyFour}
use Rattle.refusals.specs.BoxSides.{cells_of}
use Rattle.refusals.specs.Sides.{is_side}

pub cells_of_one : (s : BoxSide) → is_side (cells_of s) ≡ true
cells_of_one Two = refl
cells_of_one Four = refl
cells_of_one Eight = refl
cells_of_one Sixteen = refl
cells_of_one ThirtyTwo = refl
cells_of_one SixtyFour = refl
