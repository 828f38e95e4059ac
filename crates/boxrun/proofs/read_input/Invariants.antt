use Rattle.std.proofs.Common.{◌-◌, vec_len}
use Rattle.boxrun.proofs.read_input.Given as goal

abbrev pub decreases-loop-input : goal.decreases-loop-input
decreases-loop-input l = 16385 - vec_len l.text
