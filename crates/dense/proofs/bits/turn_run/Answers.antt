use Rattle.std.proofs.Common.{ℕ, ◌+◌, ◌*◌, ◌/◌, ◌<◌, ◌≤◌, Bool, length, drop, sym, refl, ap, ◌∙◌, arith, drop-set-lt}
use Rattle.block.specs.Drawing.{turned}
use Rattle.block.proofs.Turns.{turned_none, turned_joins}
use Rattle.dense.specs.Cells.{cell_in}
use Rattle.dense.proofs.BitLaws.{cells_turned}
use Rattle.dense.proofs.bits.turn_run.Goals as goal

pub loop-k-init : goal.loop-k-init
loop-k-init c = (sym (turned_none (cell_in c.args.cells.now) c.args.run.start), λ m h. refl)

pub loop-k-preserved : goal.loop-k-preserved
loop-k-preserved c =
    let k = c.loop-k.k in
    let bs = c.loop-k.cells in
    let within : k < 8 * length bs = omega arith in
    let up : k ≤ k + 1 = omega arith in (
      ap cell_in c.turn_cell.ensures
          ∙ cells_turned bs k within
          ∙ ap (λ (d : ℕ → Bool). turned d k (k + 1)) c.loop-k.invariant.0
          ∙ turned_joins (cell_in c.args.cells.now) c.args.run.start k (k + 1) c.loop-k.auto.k up,
      λ m h. let low : k / 8 < m = omega arith in ap (drop m) c.turn_cell.ensures ∙ drop-set-lt m bs (k / 8) _ low ∙ c.loop-k.invariant.1 m h,
    )
