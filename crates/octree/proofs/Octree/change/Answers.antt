use Rattle.octree.proofs.Wholes.{whole_ready, whole_kept}
use Rattle.octree.proofs.Octree.change.Goals as goal

pub turn-self-requires : goal.turn-self-requires
turn-self-requires c = whole_ready c.args.self.now c.requires.sound c.of_box.result.number c.of_box.ensures c.args.run c.requires.inside c.requires.fits

pub returns-clause-kept : goal.returns-clause-kept
returns-clause-kept c = whole_kept c.args.self.now c.requires.sound c.of_box.result.number c.of_box.ensures c.args.run c.requires.inside c.turn-self.new.store c.turn-self.result c.turn-self.ensures
