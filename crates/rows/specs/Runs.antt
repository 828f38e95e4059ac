-- The longest runs of solid cells in a row of n cells, where solid tells which cells are.
use Rattle.std.specs.Prelude.{◌≡◌, ℕ, zero, suc, ◌+◌, ◌-◌, ◌<◌, ◌≤◌, Bool, true, false, if◌then◌else◌, List, [], ◌∷◌, length, ◌==◌, slice_index_or}
use Rattle.geometry.specs.declared.facet.extent.Span.{Span}
use Rattle.rows.specs.declared.RowRuns.{RowRuns}

-- a longest run: all its cells are solid, and the cell on either side of it is not, or lies outside the row
pub record LongestRun (n : ℕ) (solid : ℕ → Bool) (r : Span) : Type 0 where
  pub some : r.start < r.end
  pub within : r.end ≤ n
  pub cells : (x : ℕ) → r.start ≤ x → x < r.end → solid x ≡ true
  pub before : (x : ℕ) → x + 1 ≡ r.start → solid x ≡ false
  pub behind : r.end < n → solid r.end ≡ false

-- the run at a place of a list
abbrev pub run_in : List Span → ℕ → Span
run_in rs i = slice_index_or rs i (record { start = 0; end = 0 })

-- the list has the longest runs, every one of them and nothing else, by rising x
pub record LongestRuns (n : ℕ) (solid : ℕ → Bool) (rs : List Span) : Type 0 where
  pub each : (i : ℕ) → i < length rs → LongestRun n solid (run_in rs i)
  pub every : (r : Span) → LongestRun n solid r → (i : ℕ) × ((i < length rs) × (run_in rs i ≡ r))
  pub rising : (i : ℕ) → i + 1 < length rs → (run_in rs i).start < (run_in rs (i + 1)).start

-- ---- the list that does

-- a solid cell at x lengthens the run that starts right behind it, else it is a run of its own
abbrev pub led : ℕ → List Span → List Span
led x [] = record { start = x; end = x + 1 } ∷ []
led x (r ∷ rs) = if r.start == x + 1 then record { start = x; end = r.end } ∷ rs else record { start = x; end = x + 1 } ∷ r ∷ rs

-- the runs of the k cells from x on
abbrev pub runs : (ℕ → Bool) → ℕ → ℕ → List Span
runs solid x zero = []
runs solid x (suc k) = if solid x then led x (runs solid (x + 1) k) else runs solid (x + 1) k

-- the runs of a row whose cells are told one by one, and those of its cells from a place on
abbrev pub told_runs : List Bool → List Span
told_runs cells = runs (λ x. slice_index_or cells x false) 0 (length cells)

abbrev pub told_from : List Bool → ℕ → List Span
told_from cells from = runs (λ x. slice_index_or cells x false) from (length cells - from)

-- the runs that are still to come
abbrev pub runs_left : RowRuns → List Span
runs_left r = told_from r.cells.now r.from
