-- The entries of a shape: triangles, and holes, where there is none.
use Rattle.std.specs.Prelude.{ℕ, List, None, Option, slice_index_or}
use Rattle.geometry.specs.declared.mesh.Triangle.{Triangle}

-- the entry of a number, counted from 0, and past the end a hole
abbrev pub entry_at : List (Option Triangle) → ℕ → Option Triangle
entry_at es i = slice_index_or es i None
