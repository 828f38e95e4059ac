use Rattle.std.proofs.Common.{arith}
use Rattle.std.proofs.lemmas.Int.{ints, to_z-of_z}
use Rattle.geometry.proofs.Crossing.{first_at_once, first_clipped}
use Rattle.geometry.proofs.facet.crossing.first_at.Goals as goal

pub returns-then-before-ge0 : goal.returns-then-before-ge0
returns-then-before-ge0 c =
    first_at_once c.args.start c.args.step c.floor_div-before.result c.args.n c.requires
    (grind (arith, to_z-of_z)) (omega (arith, ints))

pub returns : goal.returns
returns c =
    let e = first_clipped c.args.start c.args.step c.floor_div-before.result c.args.n c.requires
    (grind (arith, to_z-of_z)) (omega (arith, ints)) in
    grind (arith, to_z-of_z)
