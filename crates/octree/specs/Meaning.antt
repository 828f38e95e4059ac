-- What an octree means as a block.
use Rattle.std.specs.Prelude.{◌≡◌, ℕ, Bool, List, length}
use Rattle.refusals.specs.BoxSides.{cells_of}
use Rattle.block.specs.Keeps.{Keeps}
use Rattle.octree.specs.declared.Octree.{Octree}
use Rattle.octree.specs.declared.cells.Group.{Group}
use Rattle.octree.specs.Regions.{room}
use Rattle.octree.specs.Trees.{shown, Whole}

-- how many cells it has along each axis
abbrev pub edge_of : Octree → ℕ
edge_of o = cells_of o.side

-- the groups that it is lent
abbrev pub groups_of : Octree → List Group
groups_of o = o.store.groups.now

-- which cells are solid
abbrev pub drawing_of : Octree → ℕ → Bool
drawing_of o = shown (edge_of o) (groups_of o) o.root

-- which drawings fit: those that need at most as many groups as it is lent
abbrev pub fits_in : Octree → (ℕ → Bool) → Bool
fits_in o = room (edge_of o) (length (groups_of o))

-- what making an octree gives, and every call keeps
abbrev pub Sound : Octree → Type 0
Sound o = Whole (edge_of o) o.store o.root

-- the second octree has the groups of the same loan
abbrev pub Tied : Octree → Octree → Type 0
Tied o p = p.store.groups.ghost_name ≡ o.store.groups.ghost_name

-- what every call keeps
abbrev pub Kept : Octree → Octree → Type 0
Kept = Keeps Sound Tied edge_of fits_in
