use Rattle.std.proofs.Common.{refl, ◌∙◌}
use Rattle.octree.specs.declared.cells.Child.TheVariants.{Empty, Solid}
use Rattle.octree.proofs.Settles.{blend_ext, settled_leaf, settled_split}
use Rattle.octree.proofs.store.Store.settle.Goals as goal

pub returns-in-AllEmpty : goal.returns-in-AllEmpty
returns-in-AllEmpty c = settled_leaf c.args.self.now c.release.new.self c.args.region Empty c.args.children refl (c.in-AllEmpty.ensures ∙ blend_ext _ _ c.kinds.ensures) c.release.ensures

pub returns-in-AllSolid : goal.returns-in-AllSolid
returns-in-AllSolid c = settled_leaf c.args.self.now c.release-in-AllSolid.new.self c.args.region Solid c.args.children refl (c.in-AllSolid.ensures ∙ blend_ext _ _ c.kinds.ensures) c.release-in-AllSolid.ensures

pub returns-in-Mixed : goal.returns-in-Mixed
returns-in-Mixed c = settled_split c.args.self.now c.group_for-id.new.self c.args.region c.group_for-id.result c.args.children _ c.requires.apart (c.in-Mixed.ensures ∙ blend_ext _ _ c.kinds.ensures) c.group_for-id.ensures refl
