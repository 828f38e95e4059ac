use Rattle.std.proofs.Common.{◌≡◌, ℕ, ◌*◌, ◌≤◌, drop}
use Rattle.block.specs.Drawing.{turned}
use Rattle.dense.specs.Cells.{cell_in}
use Rattle.dense.proofs.bits.turn_run.Given as goal

abbrev pub invariant-loop-k : goal.invariant-loop-k
invariant-loop-k l = (cell_in l.cells ≡ turned (cell_in l.initial.cells) l.fn.run.start l.k) × ((m : ℕ) → l.fn.run.end ≤ 8 * m → drop m l.cells ≡ drop m l.initial.cells)
