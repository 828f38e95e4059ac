-- What a dense board means.
use Rattle.std.specs.Prelude.{◌≡◌, ℕ, ◌*◌, ⊤, Bool, true, List, length}
use Rattle.refusals.specs.BoxSides.{cells_of}
use Rattle.block.specs.Keeps.{Keeps}
use Rattle.dense.specs.declared.Dense.{Dense}
use Rattle.dense.specs.Cells.{shown, room, spare}

-- how many cells it has along each axis
abbrev pub edge_of : Dense → ℕ
edge_of b = cells_of b.side

-- how many cells it has
abbrev pub volume_of : Dense → ℕ
volume_of b = edge_of b * edge_of b * edge_of b

-- the bytes that it is lent
abbrev pub bytes_of : Dense → List ℕ
bytes_of b = b.cells.now

-- which cells are solid
abbrev pub drawing_of : Dense → ℕ → Bool
drawing_of b = shown (edge_of b) (bytes_of b)

-- which drawings fit
abbrev pub fits_in : Dense → (ℕ → Bool) → Bool
fits_in b = room (edge_of b) (bytes_of b)

-- every drawing fits
abbrev pub HoldsAll : Dense → Type 0
HoldsAll b = (d : ℕ → Bool) → fits_in b d ≡ true

-- The second board has the side of the first and the same lent bytes, as many as before, and those that no cell lies in are as they were.
pub record Tied (b c : Dense) : Type 0 where
  pub same_edge : edge_of c ≡ edge_of b
  pub same_loan : c.cells.ghost_name ≡ b.cells.ghost_name
  pub same_length : length (bytes_of c) ≡ length (bytes_of b)
  pub same_spare : spare (edge_of b) (bytes_of c) ≡ spare (edge_of b) (bytes_of b)

-- what every call keeps: the side, the lent bytes and what fits
abbrev pub Kept : Dense → Dense → Type 0
Kept = Keeps (λ _. ⊤) Tied edge_of fits_in
