use Rattle.std.proofs.Common.{◌&&◌, eqb, arith}
use Rattle.geometry.specs.Extents.{in_span}
use Rattle.skins.specs.Coats.{made_by}
use Rattle.skins.proofs.Marks.{marked_as, marked_none, marked_on}
use Rattle.skins.proofs.Ranges.{second_more, second_none}
use Rattle.skins.proofs.mark_layer.Goals as goal

pub loop-y-init : goal.loop-y-init
loop-y-init c =
    (omega arith, marked_as (λ u v w _. second_none c.args.ys.start v (in_span c.args.xs u) (eqb w c.args.z && made_by c.args.coat.now u v w)) (marked_none c.args.board.now))

pub loop-y-preserved : goal.loop-y-preserved
loop-y-preserved c =
    (omega arith, marked_on (λ u v w. second_more c.args.ys.start c.loop-y.y v c.loop-y.auto.y (in_span c.args.xs u) (eqb w c.args.z && made_by c.args.coat.now u v w)) c.loop-y.invariant.1 c.mark_row.ensures)
