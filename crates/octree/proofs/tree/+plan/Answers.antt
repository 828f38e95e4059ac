use Rattle.std.proofs.Common.{◌≡◌, length, ap, ◌∙◌, arith, rules}
use Rattle.octree.specs.OnTheWay.{wants}
use Rattle.octree.proofs.Reading.{readable_part}
use Rattle.octree.proofs.Planning.{plan_none, plan_step, part_lies_in}
use Rattle.octree.proofs.tree.+plan.Goals as goal

pub returns-then-run : goal.returns-then-run
returns-then-run t c = plan_none c.args.store.now.groups.now c.args.level.number c.args.region c.args.run c.kind.result c.requires.readable.tight c.if-run.true c.kind.ensures

pub plan-lower-requires : goal.plan-lower-requires
plan-lower-requires t c = (
  omega arith,
  (
    readable_part c.args.store.now.groups.now c.below-below.result.number c.args.level.number c.args.region c.children-children.result c.below-below.ensures c.children-children.ensures c.requires.readable c.halves.result.0.child c.halves.result.0.within,
    part_lies_in c.below-below.result.number c.args.level.number c.args.run _ c.halves.result.0 c.below-below.ensures c.halves.ensures.0 c.requires.lies,
  ),
)

pub plan-higher-requires : goal.plan-higher-requires
plan-higher-requires t c = (
  omega arith,
  (
    readable_part c.args.store.now.groups.now c.below-below.result.number c.args.level.number c.args.region c.children-children.result c.below-below.ensures c.children-children.ensures c.requires.readable c.halves.result.1.child c.halves.result.1.within,
    part_lies_in c.below-below.result.number c.args.level.number c.args.run _ c.halves.result.1 c.below-below.ensures c.halves.ensures.1 c.requires.lies,
  ),
)

pub returns : goal.returns
returns t c =
    let e : length c.kinds-kinds.result ≡ 8 = search rules in
    plan_step c.args.store.now.groups.now c.below-below.result.number c.args.level.number c.args.region c.args.run c.halves.result.0 c.halves.result.1 c.children-children.result c.plan-lower.result c.plan-higher.result c.kinds-kinds.result c.blended-kind.result c.groups.result c.groups-2.result
    c.below-below.ensures c.requires.readable.tight c.halves.ensures c.children-children.ensures e c.kinds-kinds.ensures c.plan-lower.ensures c.plan-higher.ensures c.blended-kind.ensures (c.groups.ensures.wants ∙ ap wants c.kind-2.ensures) c.groups-2.ensures.wants
