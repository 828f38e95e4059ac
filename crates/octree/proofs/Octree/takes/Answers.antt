use Rattle.std.proofs.Common.{◌∙◌}
use Rattle.octree.proofs.Wholes.{whole_takes}
use Rattle.octree.proofs.Octree.takes.Goals as goal

pub returns : goal.returns
returns c = c.cover.ensures ∙ whole_takes c.args.self.now c.requires.sound c.of_box.result.number c.of_box.ensures c.args.run c.requires.inside c.plan-change.result c.plan-change.ensures
