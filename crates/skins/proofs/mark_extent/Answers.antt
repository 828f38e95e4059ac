use Rattle.std.proofs.Common.{arith}
use Rattle.geometry.specs.Extents.{in_span}
use Rattle.skins.specs.Coats.{made_by}
use Rattle.skins.proofs.Marks.{marked_on}
use Rattle.skins.proofs.Ranges.{third_more}
use Rattle.skins.proofs.mark_extent.Goals as goal

pub loop-z-preserved : goal.loop-z-preserved
loop-z-preserved c =
    (omega arith, marked_on (λ u v w. third_more c.args.extent.z.start c.loop-z.z w c.loop-z.auto.z (in_span c.args.extent.x u) (in_span c.args.extent.y v) (made_by c.args.coat.now u v w)) c.loop-z.invariant.1 c.mark_layer.ensures)
