use Rattle.std.proofs.Common.{sym, subst}
use Rattle.octree.specs.declared.cells.Child.{Child}
use Rattle.octree.specs.OnTheWay.{Apart, Taken}
use Rattle.octree.proofs.Stock.{taken_own}
use Rattle.octree.proofs.store.Store.group_for.Goals as goal

pub returns-in-Split : goal.returns-in-Split
returns-in-Split c =
    subst (λ (r : Child). Taken c.args.self.now r c.in-Split.id c.args.self.now) (sym c.in-Split.is)
    (taken_own c.args.self.now c.in-Split.id (subst (λ (r : Child). Apart c.args.self.now r) c.in-Split.is c.requires.apart))
