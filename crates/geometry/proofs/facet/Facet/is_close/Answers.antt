use Rattle.std.proofs.Common.{arith}
use Rattle.std.proofs.lemmas.Int.{to_z-of_z}
use Rattle.geometry.proofs.Signs.{size_is}
use Rattle.geometry.proofs.facet.Facet.is_close.Goals as goal

pub returns : goal.returns
returns c = grind (arith, to_z-of_z, size_is)
