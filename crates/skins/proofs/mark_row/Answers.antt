use Rattle.std.proofs.Common.{◌&&◌, eqb, arith}
use Rattle.skins.specs.Coats.{made_by}
use Rattle.skins.proofs.Marks.{marked_on}
use Rattle.skins.proofs.Ranges.{first_more}
use Rattle.skins.proofs.mark_row.Goals as goal

pub loop-x-preserved : goal.loop-x-preserved
loop-x-preserved c =
    (omega arith, marked_on (λ u v w. first_more c.args.xs.start c.loop-x.x u c.loop-x.auto.x (eqb v c.args.y && (eqb w c.args.z && made_by c.args.coat.now u v w))) c.loop-x.invariant.1 c.mark_cell.ensures)
