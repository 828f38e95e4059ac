use Rattle.rows.proofs.RowLaws.{count_more}
use Rattle.rows.proofs.sum_up.Goals as goal

pub loop-cell-preserved : goal.loop-cell-preserved
loop-cell-preserved c =
    let i = c.loop-cell.invariant in
    count_more c.args.cells.now c.loop-cell.cells c.loop-cell.cell-index c.loop-cell.odd c.loop-cell.auto.cells c.loop-cell-test.true i.0 i.1 i.2
