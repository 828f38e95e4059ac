use Rattle.std.proofs.Common.{◌≡◌, ℕ, ◌*◌, ◌<◌, Bool, false, cond, length, is_ok, Some, None, Err, sym, ap, ◌∙◌, subst, arith}
use Rattle.std.proofs.lemmas.Bool.{cond-false}
use Rattle.refusals.specs.declared.Refusal.TheVariants.{NoSand}
use Rattle.block.specs.Drawing.{refusal_of}
use Rattle.rows.proofs.RunLaws.{runs_longest}
use Rattle.flips.specs.Drawn.{drawn, all_fit, ChangedWhere}
use Rattle.flips.proofs.Kept.{kept_same, kept_on}
use Rattle.flips.proofs.Made.{done_if}
use Rattle.flips.proofs.Cells.{flips_change}
use Rattle.flips.proofs.Rows.{numbered, rows_none}
use Rattle.flips.proofs.RowSteps.{cut_in_box, count_more, row_made, row_not, all_made, none_made}
use Rattle.flips.proofs.flip_rows.Goals as goal

pub loop-i-init : goal.loop-i-init
loop-i-init g c =
    let b = c.args.block.now in
    let n = g.B.Block.edge b in
    let d = g.B.Block.drawing b in
    let none = rows_none n (g.S.RowSource.solid c.args.source.now) in
    record {
      kept = kept_same b c.requires (g.B.Block.ties_same b);
      drawn = ap (drawn n d) (sym none);
      fit = ap (all_fit n (g.B.Block.fits b) d) none;
      counted = ap length (sym none);
      few = omega arith;
    }

pub make_flips-requires-clause-in_box : goal.make_flips-requires-clause-in_box
make_flips-requires-clause-in_box g c =
    let n = g.B.Block.edge c.args.block.now in
    let solid = g.S.RowSource.solid c.args.source.now in
    let i = c.loop-i.i in
    let in_box : i < n * n = subst (λ (m : ℕ). i < m) (c.row_count-i-end.ensures ∙ ap (λ m. m * m) c.side-side.ensures) c.loop-i-test.true in
    let side = c.side-side.ensures in
    let same = c.as_slice.ensures.value in
    let row = c.row_flips.ensures in
    let cut : c.as_slice.result.now ≡ numbered n solid i = cc in
    cut_in_box n solid i c.as_slice.result.now cut c.loop-i.invariant.kept.same_side in_box

pub loop-i-preserved : goal.loop-i-preserved
loop-i-preserved g c =
    let n = g.B.Block.edge c.args.block.now in
    let solid = g.S.RowSource.solid c.args.source.now in
    let i = c.loop-i.i in
    let ws = c.as_slice.result.now in
    let inv = c.loop-i.invariant in
    let told = c.make_flips.ensures in
    let side = c.side-side.ensures in
    let same = c.as_slice.ensures.value in
    let row = c.row_flips.ensures in
    let cut : ws ≡ numbered n solid i = cc in
    let done = ap is_ok c.in_default.is in
    let made = row_made n solid (g.B.Block.fits c.args.block.now) (g.B.Block.drawing c.args.block.now) i ws cut inv.kept.same_side inv.kept.same_fits
    (g.B.Block.drawing c.loop-i.block) inv.drawn inv.fit (sym (done_if c.make_flips.result _ told.refused) ∙ done) in
    let long : length ws ≡ c.len-count.result = ap length c.as_slice.ensures.value ∙ sym c.len-count.ensures.value in
    record {
      kept = kept_on g.B.Block.ties_on c.args.block.now c.loop-i.block c.make_flips.new.block inv.kept told.kept;
      drawn = told.drawn ∙ ap (λ (b : Bool). cond b (drawn (g.B.Block.edge c.loop-i.block) (g.B.Block.drawing c.loop-i.block) ws) (g.B.Block.drawing c.loop-i.block)) done ∙ made.0;
      fit = made.1;
      counted = omega (arith, count_more n solid i ws cut c.loop-i.count c.len-count.result inv.counted long);
      few = omega (arith, inv.few, c.len-count.ensures.fits);
    }

pub returns-in-Err-clause-kept : goal.returns-in-Err-clause-kept
returns-in-Err-clause-kept g c =
    kept_on g.B.Block.ties_on c.args.block.now c.make_flips.new.block c.undo_rows.new.block
    (kept_on g.B.Block.ties_on c.args.block.now c.loop-i.block c.make_flips.new.block c.loop-i.invariant.kept c.make_flips.ensures.kept) c.undo_rows.ensures.kept

pub returns-in-Err-clause-answer : goal.returns-in-Err-clause-answer
returns-in-Err-clause-answer g c =
    let n = g.B.Block.edge c.args.block.now in
    let solid = g.S.RowSource.solid c.args.source.now in
    let F = g.B.Block.fits c.args.block.now in
    let d = g.B.Block.drawing c.args.block.now in
    let i = c.loop-i.i in
    let ws = c.as_slice.result.now in
    let inv = c.loop-i.invariant in
    let told = c.make_flips.ensures.refused in
    let in_box : i < n * n = subst (λ (m : ℕ). i < m) (c.row_count-i-end.ensures ∙ ap (λ m. m * m) c.side-side.ensures) c.loop-i-test.true in
    let side = c.side-side.ensures in
    let same = c.as_slice.ensures.value in
    let row = c.row_flips.ensures in
    let cut : ws ≡ numbered n solid i = cc in
    let off : all_fit (g.B.Block.edge c.loop-i.block) (g.B.Block.fits c.loop-i.block) (g.B.Block.drawing c.loop-i.block) ws ≡ false = sym (done_if c.make_flips.result _ told) ∙ ap is_ok c.in-Err.is in
    let full : Some c.in-Err.why ≡ Some NoSand = sym (ap refusal_of c.in-Err.is) ∙ told ∙ cond-false (all_fit (g.B.Block.edge c.loop-i.block) (g.B.Block.fits c.loop-i.block) (g.B.Block.drawing c.loop-i.block) ws) None (Some NoSand) off in
    let why : c.in-Err.why ≡ NoSand = cc in
    ap Err why ∙ none_made n solid F d (row_not n solid F d i ws cut inv.kept.same_side inv.kept.same_fits (g.B.Block.drawing c.loop-i.block) inv.drawn in_box off)

pub returns-in-Err-clause-longest : goal.returns-in-Err-clause-longest
returns-in-Err-clause-longest g c = λ y z. runs_longest (g.B.Block.edge c.args.block.now) (λ x. g.S.RowSource.solid c.args.source.now x y z)

pub returns-clause-answer : goal.returns-clause-answer
returns-clause-answer g c =
    let inv = c.loop-i.invariant in
    let end : c.loop-i.i ≡ c.row_count-i-end.result = omega (arith, c.loop-i.auto.i-end, c.loop-i-test.false) in
    let whole = all_made (g.B.Block.edge c.args.block.now) (g.S.RowSource.solid c.args.source.now) (g.B.Block.fits c.args.block.now) (g.B.Block.drawing c.args.block.now) c.loop-i.i c.loop-i.count
    (g.B.Block.drawing c.loop-i.block) (end ∙ c.row_count-i-end.ensures ∙ ap (λ m. m * m) c.side-side.ensures) inv.drawn inv.fit inv.counted in
    let answer = whole.0 in cc

pub returns-clause-drawn : goal.returns-clause-drawn
returns-clause-drawn g c =
    let inv = c.loop-i.invariant in
    let end : c.loop-i.i ≡ c.row_count-i-end.result = omega (arith, c.loop-i.auto.i-end, c.loop-i-test.false) in
    let whole = all_made (g.B.Block.edge c.args.block.now) (g.S.RowSource.solid c.args.source.now) (g.B.Block.fits c.args.block.now) (g.B.Block.drawing c.args.block.now) c.loop-i.i c.loop-i.count
    (g.B.Block.drawing c.loop-i.block) (end ∙ c.row_count-i-end.ensures ∙ ap (λ m. m * m) c.side-side.ensures) inv.drawn inv.fit inv.counted in
    let drawing = whole.1 in cc

pub returns-clause-cells : goal.returns-clause-cells
returns-clause-cells g c done =
    let n = g.B.Block.edge c.args.block.now in
    let solid = g.S.RowSource.solid c.args.source.now in
    let d = g.B.Block.drawing c.args.block.now in
    subst (ChangedWhere n solid d) (sym (returns-clause-drawn g c)) (flips_change n solid d)

pub returns-clause-longest : goal.returns-clause-longest
returns-clause-longest g c = λ y z. runs_longest (g.B.Block.edge c.args.block.now) (λ x. g.S.RowSource.solid c.args.source.now x y z)
