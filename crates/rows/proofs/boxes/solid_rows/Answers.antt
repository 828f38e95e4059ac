use Rattle.std.proofs.Common.{◌+◌, List, Bool, sym, ◌∙◌, subst, arith}
use Rattle.std.proofs.lemmas.Grind.{common_steps}
use Rattle.rows.specs.Rows.{RowsOf, SameBehind}
use Rattle.rows.proofs.BoxLaws.{rows_more, rows_full, behind_more, behind_full}
use Rattle.rows.proofs.boxes.solid_rows.Goals as goal
use Rattle.rows.proofs.boxes.solid_rows.Goals.{then-start-n, else-start-n}

pub loop-number-preserved : goal.loop-number-preserved
loop-number-preserved c =
    let fs = c.args.facets.now in
    let n = c.args.side in
    let m = c.loop-number.number in
    let old = c.args.cells.now in
    elim c.if-start-n.branch [
      | then-start-n w ↦ subst (λ (cells : List Bool). RowsOf fs n (m + 1) cells × SameBehind n (m + 1) old cells) (sym w.cells-is) (
        rows_more fs n m c.loop-number.cells w.solid_row.new.cells w.if-start-n.true (w.solid_row.auto.cells ∙ grind (arith, common_steps)) c.loop-number.invariant.0 w.solid_row.ensures,
        behind_more n m old c.loop-number.cells w.solid_row.new.cells c.loop-number.auto.cells w.if-start-n.true (w.solid_row.auto.cells ∙ grind (arith, common_steps)) c.loop-number.invariant.1,
      )
      | else-start-n w ↦ subst (λ (cells : List Bool). RowsOf fs n (m + 1) cells × SameBehind n (m + 1) old cells) (sym w.cells-is) (
        rows_full fs n m c.loop-number.cells w.if-start-n.false c.loop-number.invariant.0,
        behind_full n m old c.loop-number.cells c.loop-number.invariant.1,
      )
    ]
