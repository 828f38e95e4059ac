use Rattle.std.proofs.Common.{arith}
use Rattle.std.proofs.lemmas.Int.{to_z-of_z}
use Rattle.geometry.proofs.Crossing.{floors, floor_fits}
use Rattle.geometry.proofs.facet.crossing.floor_div.Goals as goal

pub returns : goal.returns
returns c =
    let f = floors c.args.a c.args.d c.requires in
    let s = floor_fits c.args.a c.args.d c.requires c.ranges.a in
    grind (arith, to_z-of_z)
