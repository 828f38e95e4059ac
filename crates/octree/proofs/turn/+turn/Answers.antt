use Rattle.std.proofs.Common.{arith, rules}
use Rattle.octree.proofs.Reading.{readable_part}
use Rattle.octree.proofs.Turning.{ready_readable, first_ready, second_ready, settle_apart, settle_some, turned}
use Rattle.octree.proofs.turn.+turn.Goals as goal

pub in_order-requires-clause-readable : goal.in_order-requires-clause-readable
in_order-requires-clause-readable t c = readable_part c.args.store.now.groups.now c.below-below.result.number c.args.level.number c.args.region c.children-children.result c.below-below.ensures c.children-children.ensures (ready_readable c.args.store.now c.args.level.number c.args.region c.args.run c.requires)

pub turn-requires : goal.turn-requires
turn-requires t c = (
  omega arith,
  first_ready c.args.store.now c.args.level.number c.below-below.result.number c.args.region c.args.run c.in_order.result.0 c.in_order.result.1 c.children-children.result c.below-below.ensures c.children-children.ensures (search rules) c.requires c.in_order.ensures,
)

pub turn-requires-2 : goal.turn-requires-2
turn-requires-2 t c = (
  omega arith,
  second_ready c.args.store.now c.args.level.number c.below-below.result.number c.args.region c.args.run c.in_order.result.0 c.in_order.result.1 c.children-children.result c.below-below.ensures c.children-children.ensures (search rules) c.requires c.in_order.ensures
      c.turn.new.store c.turn.result c.turn.ensures,
)

pub settle-requires : goal.settle-requires
settle-requires t c = record {
  apart = settle_apart c.args.store.now c.args.level.number c.below-below.result.number c.args.region c.args.run c.in_order.result.0 c.in_order.result.1 c.children-children.result c.below-below.ensures c.children-children.ensures (search rules) c.requires c.in_order.ensures
      c.turn.new.store c.turn.result c.turn.ensures c.turn-2.new.store c.turn-2.result c.turn-2.ensures;
  some = settle_some c.args.store.now c.args.level.number c.below-below.result.number c.args.region c.args.run c.in_order.result.0 c.in_order.result.1 c.children-children.result c.below-below.ensures c.children-children.ensures (search rules) c.requires c.in_order.ensures
      c.turn.new.store c.turn.result c.turn.ensures c.turn-2.new.store c.turn-2.result c.turn-2.ensures;
}

pub returns : goal.returns
returns t c =
    turned c.args.store.now c.args.level.number c.below-below.result.number c.args.region c.args.run c.in_order.result.0 c.in_order.result.1 c.children-children.result c.below-below.ensures c.children-children.ensures (search rules) c.requires c.in_order.ensures
    c.turn.new.store c.turn.result c.turn.ensures c.turn-2.new.store c.turn-2.result c.turn-2.ensures c.settle.new.self c.settle.result c.settle.ensures
