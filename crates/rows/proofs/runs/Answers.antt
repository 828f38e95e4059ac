use Rattle.std.proofs.Common.{arith}
use Rattle.rows.proofs.RunLaws.{told_all, told_longest}
use Rattle.rows.proofs.runs.Goals as goal

pub returns-clause-longest : goal.returns-clause-longest
returns-clause-longest c = told_longest c.args.cells.now _ (grind (arith, told_all))
