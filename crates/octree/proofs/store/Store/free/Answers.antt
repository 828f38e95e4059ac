use Rattle.std.proofs.Common.{refl, arith}
use Rattle.octree.specs.declared.cells.Child.TheVariants.{Split}
use Rattle.octree.proofs.Stock.{own_within, freed_again}
use Rattle.octree.proofs.store.Store.free.Goals as goal

pub group-group-requires : goal.group-group-requires
group-group-requires c = own_within c.args.self.now (Split c.args.id) c.requires

pub bounds-self-id : goal.bounds-self-id
bounds-self-id c = own_within c.args.self.now (Split c.args.id) c.requires

pub returns : goal.returns
returns c = freed_again c.args.self.now _ c.args.id c.from.result c.group-group.result.children c.requires (omega arith) c.from.ensures refl refl refl (omega arith) refl
