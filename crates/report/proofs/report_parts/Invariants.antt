use Rattle.std.proofs.Common.{◌≡◌, length}
use Rattle.report.proofs.report_parts.Given as goal

abbrev pub invariant-loop-number : goal.invariant-loop-number
invariant-loop-number l = (length l.points ≡ 256) × (length l.faces ≡ 256)
