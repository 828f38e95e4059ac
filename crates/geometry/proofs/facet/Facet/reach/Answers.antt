use Rattle.std.proofs.Common.{arith}
use Rattle.std.proofs.lemmas.Int.{to_z-of_z}
use Rattle.geometry.proofs.Signs.{least_below, greatest_above}
use Rattle.geometry.proofs.facet.Facet.reach.Goals as goal

pub returns-clause-least : goal.returns-clause-least
returns-clause-least c = λ h. grind (arith, to_z-of_z, least_below)

pub returns-clause-greatest : goal.returns-clause-greatest
returns-clause-greatest c = λ h. grind (arith, to_z-of_z, greatest_above)
