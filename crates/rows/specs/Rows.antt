-- The rows of a list of triangles, and the runs of solid cells.
use Rattle.std.specs.Prelude.{◌≡◌, ℕ, ◌+◌, ◌<◌, ◌≤◌, Bool, true, false, not, List, [], ◌∷◌, map, length, take, drop, ◌*◌, ◌/◌, ◌%◌, Some, None, Option, slice_index_or}
use Rattle.geometry.specs.declared.facet.extent.Span.{Span}
use Rattle.algebra.specs.Parity.{◌⊻◌}
use Rattle.geometry.specs.declared.facet.Facet.{Facet}
use Rattle.geometry.specs.Geometry.{inside}
use Rattle.geometry.specs.Cells.{cell_at, centre, first_crossed}
use Rattle.geometry.specs.Read.{half, triangle_of}

-- each cell of the row (y, z) is told solid exactly where its centre is inside by the count of crossings
abbrev pub RowOf : List Facet → ℕ → ℕ → List Bool → Type 0
RowOf fs y z cells = (x : ℕ) → x < length cells → slice_index_or cells x false ≡ inside (centre half (cell_at x y z)) (map triangle_of fs)

-- the first m rows of a box of n cells a side, one after another, as far as there is place for them: each cell is told solid as above,
-- and the row of the number k is that with y = k % n and z = k / n
abbrev pub RowsOf : List Facet → ℕ → ℕ → List Bool → Type 0
RowsOf fs n m cells = (k : ℕ) → k < m → k * n + n ≤ length cells → RowOf fs (k % n) (k / n) (take n (drop (k * n) cells))

-- the cells behind the first m rows are as they were, and so are those that are too few for one row more
pub record SameBehind (n m : ℕ) (old new : List Bool) : Type 0 where
  pub behind : (k : ℕ) → m ≤ k → drop (k * n) new ≡ drop (k * n) old
  pub too_few : (k : ℕ) → length old < k * n + n → drop (k * n) new ≡ drop (k * n) old

-- ---- runs

-- the cells from a up to, and without, b are all v
abbrev pub AllAre : List Bool → Bool → ℕ → ℕ → Type 0
AllAre cells v a b = (j : ℕ) → a ≤ j → j < b → slice_index_or cells j false ≡ v

-- a longest run that has no solid cell between `from` and its start: all its cells are solid, and the cell behind it is empty or there
-- is none
pub record Longest (cells : List Bool) (from start end : ℕ) : Type 0 where
  pub after : from ≤ start
  pub some : start < end
  pub within : end ≤ length cells
  pub before : AllAre cells false from start
  pub solid : AllAre cells true start end
  pub behind : end < length cells → slice_index_or cells end false ≡ false

-- the first run from a place on, or none where every cell from there on is empty
abbrev pub FirstRun : List Bool → ℕ → Option Span → Type 0
FirstRun cells from None = AllAre cells false from (length cells)
FirstRun cells from (Some r) = Longest cells from r.start r.end

-- ---- words of the code on the way

-- k is the first place from `from` on whose cell is v
abbrev pub IsFirstPlace : List Bool → Bool → ℕ → ℕ → Type 0
IsFirstPlace cells v from k =
    (from ≤ k) × (k < length cells) × (slice_index_or cells k false ≡ v) × AllAre cells (not v) from k

-- whether an odd number of the elements pass the test
abbrev pub odd : {A : Type 0} → (A → Bool) → List A → Bool
odd p [] = false
odd p (x ∷ xs) = p x ⊻ odd p xs

abbrev pub first_at : ℕ → ℕ → ℕ → Facet → ℕ
first_at y z n f = first_crossed half y z n (triangle_of f)

-- whether an odd number of the first n cells are set
abbrev pub odd_first : ℕ → List Bool → Bool
odd_first n cells = odd (λ b. b) (take n cells)
