-- Which cells a skin has, and what it is to mark them on a board.
use Rattle.std.specs.Prelude.{◌≡◌, ℕ, Bool, true, false, ◌||◌, List, Ok, Err, Result}
use Rattle.refusals.specs.declared.Refusal.{Refusal}
use Rattle.refusals.specs.declared.Refusal.TheVariants.{ShortBoard}
use Rattle.geometry.specs.declared.mesh.Point.{Point}
use Rattle.geometry.specs.declared.mesh.Triangle.{Triangle}
use Rattle.geometry.specs.Cells.{cell_at, thick, thin}
use Rattle.geometry.specs.Read.{half}
use Rattle.mesh.specs.Chains.{some}
use Rattle.block.specs.Drawing.{in_box, number}
use Rattle.dense.specs.declared.Dense.{Dense}
use Rattle.dense.specs.Board.{Kept, bytes_of, drawing_of, edge_of}
use Rattle.dense.specs.Cells.{enough}
use Rattle.skins.specs.declared.Skin.{Skin}
use Rattle.skins.specs.declared.Skin.TheVariants.{Thick, Thin}

-- the triangle makes the cell thick, or thin
abbrev pub makes : Skin → Point → Triangle → Bool
makes Thick c t = thick half c t
makes Thin c t = thin half c t

abbrev pub made_at : Skin → Triangle → ℕ → ℕ → ℕ → Bool
made_at s t x y z = makes s (cell_at x y z) t

-- one of the triangles makes the cell (x, y, z) so
abbrev pub some_make : Skin → List Triangle → ℕ → ℕ → ℕ → Bool
some_make s ts x y z = some (makes s (cell_at x y z)) ts

-- the board b is the board a with those cells of the box marked that pass the test; the other cells, the side, what fits and the bytes that
-- no cell lies in are as they were
pub record Marked (a b : Dense) (test : ℕ → ℕ → ℕ → Bool) : Type 0 where
  pub kept : Kept a b
  pub cells : (x y z : ℕ) → in_box (edge_of a) x y z ≡ true
      → drawing_of b (number (edge_of a) x y z) ≡ (drawing_of a (number (edge_of a) x y z) || test x y z)

-- what marking the skin of the triangles on the board a answers, and leaves as the board b
abbrev pub Skinned : {T : Type 0} → Dense → Skin → List Triangle → Dense → Result T Refusal → Type 0
Skinned a s ts b (Ok v) = (enough (edge_of a) (bytes_of a) ≡ true) × Marked a b (some_make s ts)
Skinned a s ts b (Err r) = (enough (edge_of a) (bytes_of a) ≡ false) × (r ≡ ShortBoard) × (b ≡ a)
