use Rattle.std.proofs.Common.{◌≡◌, ℕ, ◌+◌, ◌<◌, ◌≤◌, false, get_or}
use Rattle.rows.specs.Rows.{odd_first}
use Rattle.rows.proofs.sum_up.Given as goal

abbrev pub invariant-loop-cell : goal.invariant-loop-cell
invariant-loop-cell l = (l.odd ≡ odd_first l.cell-index l.initial.cells)
    × ((x : ℕ) → x < l.cell-index → get_or l.cells x false ≡ odd_first (x + 1) l.initial.cells)
    × ((x : ℕ) → l.cell-index ≤ x → get_or l.cells x false ≡ get_or l.initial.cells x false)
