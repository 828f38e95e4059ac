-- What a span block means.
use Rattle.std.specs.Prelude.{ℕ, ◌*◌, Bool, List, length}
use Rattle.refusals.specs.BoxSides.{cells_of}
use Rattle.block.specs.Keeps.{Keeps}
use Rattle.toggles.specs.Present.{SameShelf, lent, present}
use Rattle.spans.specs.declared.Spans.{Spans}
use Rattle.spans.specs.Changes.{ChangePlaces, suffice}
use Rattle.spans.specs.Shown.{shown}

-- how many cells it has along each axis
abbrev pub edge_of : Spans → ℕ
edge_of b = cells_of b.side

-- how many cells it has
abbrev pub volume_of : Spans → ℕ
volume_of b = edge_of b * edge_of b * edge_of b

-- what stands in the places that it is lent
abbrev pub lent_to : Spans → List ℕ
lent_to b = lent b.list

-- the places that it keeps, which stand at the front of those
abbrev pub places_of : Spans → List ℕ
places_of b = present b.list

-- which cells are solid
abbrev pub drawing_of : Spans → ℕ → Bool
drawing_of b = shown (volume_of b) (places_of b)

-- which drawings fit: those with at most as many change places as it is lent places
abbrev pub fits_in : Spans → (ℕ → Bool) → Bool
fits_in b = suffice (edge_of b) (length (lent_to b))

-- the places that it keeps are the change places of its drawing
abbrev pub Sound : Spans → Type 0
Sound b = ChangePlaces (volume_of b) (drawing_of b) (places_of b)

-- the second is lent the same places as the first, as many as before
abbrev pub Tied : Spans → Spans → Type 0
Tied b c = SameShelf b.list c.list

-- what every call keeps: that it is sound, the lent places, the side and what fits
abbrev pub Kept : Spans → Spans → Type 0
Kept = Keeps Sound Tied edge_of fits_in
