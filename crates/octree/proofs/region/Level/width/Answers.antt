use Rattle.std.proofs.Common.{sym, ◌∙◌, arith}
use Rattle.std.proofs.lemmas.Nat.{one_shl}
use Rattle.octree.proofs.Places.{width_pow}
use Rattle.octree.proofs.region.Level.width.Goals as goal

pub returns : goal.returns
returns c = one_shl c.args.self.number 64 (omega (arith, c.args.self.low)) ∙ sym (width_pow c.args.self.number)
