-- The flips of a source of rows: by rising z, then y, in each row the longest runs of solid cells by rising x.
use Rattle.std.specs.Prelude.{ℕ, ◌/◌, ◌%◌, Bool, List, map}
use Rattle.std.specs.List.{range_with_len, flat_map}
use Rattle.geometry.specs.declared.facet.extent.Span.{Span}
use Rattle.block.specs.declared.cells.Run.{Run}
use Rattle.rows.specs.Runs.{runs}

-- the runs of the row (y, z) of n cells
abbrev pub row_runs : ℕ → (ℕ → ℕ → ℕ → Bool) → ℕ → ℕ → List Span
row_runs n solid y z = runs (λ x. solid x y z) 0 n

-- a run of the row (y, z) as a flip
abbrev pub flip_at : ℕ → ℕ → Span → Run
flip_at y z r = record { y = y; z = z; start = r.start; end = r.end }

-- the flips of the row (y, z)
unfoldable pub row_flips : ℕ → (ℕ → ℕ → ℕ → Bool) → ℕ → ℕ → List Run
row_flips n solid y z = map (flip_at y z) (row_runs n solid y z)

-- the flips of all rows of the box, by rising z, then y
unfoldable pub flips_of : ℕ → (ℕ → ℕ → ℕ → Bool) → List Run
flips_of n solid = flat_map (λ z. flat_map (λ y. row_flips n solid y z) (range_with_len 0 n)) (range_with_len 0 n)

-- ---- a word of the code on the way

-- the flips of the first rows, where the row (y, z) has the number y + n z
unfoldable pub first_rows : ℕ → (ℕ → ℕ → ℕ → Bool) → ℕ → List Run
first_rows n solid count = flat_map (λ i. row_flips n solid (i % n) (i / n)) (range_with_len 0 count)
