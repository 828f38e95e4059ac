use Rattle.std.proofs.Common.{sym, ap, ◌∙◌, is_ok, Some, None}
use Rattle.std.proofs.lemmas.Bool.{cond-false}
use Rattle.refusals.specs.declared.Refusal.TheVariants.{NoSand}
use Rattle.block.specs.declared.cells.Run.{Run}
use Rattle.block.specs.Drawing.{refusal_of}
use Rattle.flips.specs.Drawn.{all_fit}
use Rattle.flips.proofs.Kept.{kept_on}
use Rattle.flips.proofs.Made.{made_more, made_not}
use Rattle.flips.proofs.list.make_flips.Goals as goal

abbrev none : Run
none = record { y = 0; z = 0; start = 0; end = 0 }

pub returns-in-Err-clause-kept : goal.returns-in-Err-clause-kept
returns-in-Err-clause-kept g c =
    kept_on g.B.Block.ties_on c.args.block.now c.flip.new.self c.undo_flips.new.block
    (kept_on g.B.Block.ties_on c.args.block.now c.loop-made.block c.flip.new.self c.loop-made.invariant.kept c.flip.ensures.kept) c.undo_flips.ensures.kept

pub returns-in-Err-clause-refused : goal.returns-in-Err-clause-refused
returns-in-Err-clause-refused g c =
    let n = g.B.Block.edge c.args.block.now in
    let F = g.B.Block.fits c.args.block.now in
    let d = g.B.Block.drawing c.args.block.now in
    let ws = c.args.flips.now in
    let i = c.loop-made.made in
    let inv = c.loop-made.invariant in
    let told = c.flip.ensures in
    let not = made_not n F d ws i _ none c.loop-made-test.true (cc) c.requires.in_box (g.B.Block.drawing c.flip.new.self) c.flip.result
    inv.kept.same_side inv.kept.same_fits (told.refused, told.drawn) inv.drawn (ap is_ok c.in-Err.is) in
    sym (ap refusal_of c.in-Err.is) ∙ not.2 ∙ sym (cond-false (all_fit n F d ws) None (Some NoSand) not.1)

pub loop-made-preserved : goal.loop-made-preserved
loop-made-preserved g c =
    let n = g.B.Block.edge c.args.block.now in
    let F = g.B.Block.fits c.args.block.now in
    let d = g.B.Block.drawing c.args.block.now in
    let ws = c.args.flips.now in
    let i = c.loop-made.made in
    let inv = c.loop-made.invariant in
    let told = c.flip.ensures in
    let more = made_more n F d ws i _ none c.loop-made-test.true (cc) c.requires.in_box (g.B.Block.drawing c.flip.new.self) c.flip.result
    inv.kept.same_side inv.kept.same_fits (told.refused, told.drawn) inv.drawn inv.fit (ap is_ok c.in_default.is) in
    record {
      kept = kept_on g.B.Block.ties_on c.args.block.now c.loop-made.block c.flip.new.self inv.kept told.kept;
      drawn = more.0;
      fit = more.1;
    }
