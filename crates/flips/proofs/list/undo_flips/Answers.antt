use Rattle.std.proofs.Common.{◌≡◌, ◌+◌, ◌-◌, ◌<◌, length, take, ap, ◌∙◌, arith}
use Rattle.block.specs.declared.cells.Run.{Run}
use Rattle.flips.specs.Drawn.{drawn}
use Rattle.flips.proofs.Kept.{kept_on}
use Rattle.flips.proofs.Made.{made_again}
use Rattle.flips.proofs.list.undo_flips.Goals as goal

abbrev none : Run
none = record { y = 0; z = 0; start = 0; end = 0 }

pub loop-i-preserved : goal.loop-i-preserved
loop-i-preserved g c =
    let n = g.B.Block.edge c.args.block.now in
    let F = g.B.Block.fits c.args.block.now in
    let ws = c.args.flips.now in
    let i = c.loop-i.i - 1 in
    let inv = c.loop-i.invariant in
    let told = c.flip.ensures in
    let up : c.loop-i.i ≡ i + 1 = omega arith in
    let within : i < length ws = omega arith in
    record {
      kept = kept_on g.B.Block.ties_on c.args.block.now c.loop-i.block c.flip.new.self inv.kept told.kept;
      back = λ d fit way now.
          made_again n F d ws i _ none within (cc) c.requires.in_box (g.B.Block.drawing c.flip.new.self) c.flip.result
          inv.kept.same_side inv.kept.same_fits (told.refused, told.drawn) (inv.back d fit way now ∙ ap (λ k. drawn n d (take k ws)) up) fit way;
    }
