use Rattle.octree.proofs.Wholes.{fresh_whole}
use Rattle.octree.proofs.Octree.new.Goals as goal

pub returns-clause-sound : goal.returns-clause-sound
returns-clause-sound c = fresh_whole c.args.side c.new.result c.new.ensures.mark c.new.ensures.freed c.new.ensures.last
