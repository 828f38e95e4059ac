use Rattle.octree.proofs.tree.+look.Given as goal

abbrev pub decreases-look : goal.decreases-look
decreases-look l = l.level.number
