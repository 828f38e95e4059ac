use Rattle.std.proofs.Common.{arith}
use Rattle.std.proofs.lemmas.Int.{to_z-of_z}
use Rattle.geometry.specs.Points.{point_of}
use Rattle.geometry.proofs.Crossing.{edge_along}
use Rattle.geometry.proofs.axis.Axis.edge.Goals as goal

pub returns : goal.returns
returns c =
    let e = edge_along c.args.self (point_of c.args.u) (point_of c.args.v) (point_of c.args.q) in
    grind (arith, to_z-of_z)
