use Rattle.std.proofs.Common.{false, length, get_or, arith}
use Rattle.rows.proofs.RowLaws.{mark_more}
use Rattle.rows.proofs.mark_first.Goals as goal

pub loop-facet-preserved : goal.loop-facet-preserved
loop-facet-preserved c x h =
    mark_more c.args.facets.now c.loop-facet.facet-index c.args.row.y c.args.row.z (length c.args.cells.now) x
    c.first_crossed.result c.facet-item.result (get_or c.loop-facet.cells x false) _ c.loop-facet-test.true c.facet-item.is
    c.first_crossed.ensures (c.change.ensures x (omega (arith, c.loop-facet.auto.cells))) (c.loop-facet.invariant x h)
