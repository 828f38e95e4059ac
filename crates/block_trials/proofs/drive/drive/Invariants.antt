use Rattle.block_trials.proofs.drive.drive.Given as goal

abbrev pub invariant-loop : goal.invariant-loop
invariant-loop g l = g.B.Block.sound l.block
