use Rattle.std.proofs.Common.{length, ◌∙◌, arith}
use Rattle.rows.proofs.RowLaws.{up_to, inside_is}
use Rattle.rows.proofs.solid_row.Goals as goal

pub returns : goal.returns
returns c x h =
    let n = length c.args.cells.now in
    c.sum_up.ensures x (omega arith)
    ∙ up_to c.args.facets.now c.args.row.y c.args.row.z n c.mark_first.new.cells (λ k l. c.mark_first.ensures k (omega arith)) x (omega arith)
    ∙ inside_is c.args.row.y c.args.row.z n c.args.facets.now x (omega arith)
