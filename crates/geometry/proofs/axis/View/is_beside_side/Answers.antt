use Rattle.std.proofs.Common.{arith}
use Rattle.std.proofs.lemmas.Int.{ints, to_z-of_z}
use Rattle.geometry.specs.Cells.{cell_at}
use Rattle.geometry.specs.Points.{point_of}
use Rattle.geometry.specs.Read.{half}
use Rattle.geometry.proofs.Corner.{beside_far}
use Rattle.geometry.proofs.axis.View.is_beside_side.Goals as goal

pub returns : goal.returns
returns c =
    let e = beside_far half (omega (arith, ints)) c.args.self.way (point_of c.args.u) (point_of c.args.v) (cell_at c.args.c.x c.args.c.y c.args.c.z) c.args.self.axis in
    grind (arith, to_z-of_z)
