use Rattle.octree.proofs.Reading.{look_step}
use Rattle.octree.proofs.tree.+look.Goals as goal

pub returns-in-Split : goal.returns-in-Split
returns-in-Split t c =
    look_step c.args.store.now.groups.now c.below-below.result.number c.args.level.number c.width-half.result c.child_of-child.result c.args.region c.children-children.result c.args.cell c.inner.result c.look.result
    c.below-below.ensures c.width-half.ensures c.children-children.ensures c.child_of-child.ensures.child c.inner.ensures c.look.ensures
