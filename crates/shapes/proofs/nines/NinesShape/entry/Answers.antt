use Rattle.std.proofs.Common.{arith}
use Rattle.std.proofs.lemmas.Grind.{common_steps}
use Rattle.shapes.proofs.EntryLaws.{entry_at_by_nine}
use Rattle.shapes.proofs.nines.NinesShape.entry.Goals as goal

pub returns-in_err-get : goal.returns-in_err-get
returns-in_err-get c = rw (entry_at_by_nine c.args.self.now.numbers.now c.as_chunks.result.0.now c.args.i c.as_chunks.ensures.front) (grind (arith, common_steps))

pub returns : goal.returns
returns c = rw (entry_at_by_nine c.args.self.now.numbers.now c.as_chunks.result.0.now c.args.i c.as_chunks.ensures.front) (grind (arith, common_steps))
