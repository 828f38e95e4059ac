use Rattle.std.proofs.Common.{◌≡◌, ◌+◌, ◌-◌, ◌*◌, ◌<◌, ◌≤◌, ap, ◌∙◌, arith}
use Rattle.flips.specs.Flips.{first_rows}
use Rattle.flips.specs.Drawn.{drawn}
use Rattle.flips.proofs.Kept.{kept_on}
use Rattle.flips.proofs.Rows.{numbered, rows_none}
use Rattle.flips.proofs.RowSteps.{cut_in_box, row_undone}
use Rattle.flips.proofs.undo_rows.Goals as goal

pub undo_flips-requires-clause-in_box : goal.undo_flips-requires-clause-in_box
undo_flips-requires-clause-in_box g c =
    let n = g.B.Block.edge c.args.block.now in
    let solid = g.S.RowSource.solid c.args.source.now in
    let i = c.loop-i.i - 1 in
    let in_box : i < n * n = omega arith in
    let side = c.side-side.ensures in
    let same = c.as_slice.ensures.value in
    let told = c.row_flips.ensures in
    let cut : c.as_slice.result.now ≡ numbered n solid i = cc in
    cut_in_box n solid i c.as_slice.result.now cut c.loop-i.invariant.kept.same_side in_box

pub loop-i-preserved : goal.loop-i-preserved
loop-i-preserved g c =
    let n = g.B.Block.edge c.args.block.now in
    let solid = g.S.RowSource.solid c.args.source.now in
    let i = c.loop-i.i - 1 in
    let inv = c.loop-i.invariant in
    let undone = c.undo_flips.ensures in
    let up : c.loop-i.i ≡ i + 1 = omega arith in
    let low : i + 1 ≤ c.args.count = omega arith in
    let side = c.side-side.ensures in
    let same = c.as_slice.ensures.value in
    let told = c.row_flips.ensures in
    let cut : c.as_slice.result.now ≡ numbered n solid i = cc in
    record {
      kept = kept_on g.B.Block.ties_on c.args.block.now c.loop-i.block c.undo_flips.new.block inv.kept undone.kept;
      back = λ d fit way now.
          row_undone n solid (g.B.Block.fits c.args.block.now) d i c.as_slice.result.now
          cut inv.kept.same_side inv.kept.same_fits (g.B.Block.drawing c.loop-i.block) (g.B.Block.drawing c.undo_flips.new.block) c.args.count low fit way
          (inv.back d fit way now ∙ ap (λ j. drawn n d (first_rows n solid j)) up) undone.back;
    }

pub returns-clause-back : goal.returns-clause-back
returns-clause-back g c =
    let n = g.B.Block.edge c.args.block.now in
    let solid = g.S.RowSource.solid c.args.source.now in
    let none : c.loop-i.i ≡ 0 = omega arith in
    λ d fit way now. c.loop-i.invariant.back d fit way now ∙ ap (λ j. drawn n d (first_rows n solid j)) none ∙ ap (drawn n d) (rows_none n solid)
