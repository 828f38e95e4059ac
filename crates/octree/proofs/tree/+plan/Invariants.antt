use Rattle.octree.proofs.tree.+plan.Given as goal

abbrev pub decreases-plan : goal.decreases-plan
decreases-plan l = l.level.number
