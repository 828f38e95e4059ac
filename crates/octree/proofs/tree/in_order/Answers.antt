use Rattle.std.proofs.Common.{refl}
use Rattle.octree.proofs.Planning.{low_first, high_first, part_lies_in}
use Rattle.octree.proofs.tree.in_order.Goals as goal

pub plan-higher-requires-clause-lies : goal.plan-higher-requires-clause-lies
plan-higher-requires-clause-lies c = part_lies_in c.args.level.number _ c.args.run _ c.halves.result.1 refl c.halves.ensures.1 c.requires.lies

pub returns-then-lower-higher : goal.returns-then-lower-higher
returns-then-lower-higher c = low_first c.args.store.now.groups.now c.args.level.number c.args.children c.args.run c.halves.result.0 c.halves.result.1 c.plan-lower.result c.plan-higher.result c.halves.ensures c.plan-lower.ensures c.plan-higher.ensures c.if-lower-higher.true

pub returns-else-lower-higher : goal.returns-else-lower-higher
returns-else-lower-higher c = high_first c.args.store.now.groups.now c.args.level.number c.args.children c.args.run c.halves.result.0 c.halves.result.1 c.plan-lower.result c.plan-higher.result c.halves.ensures c.plan-lower.ensures c.plan-higher.ensures c.if-lower-higher.false
