use Rattle.std.proofs.Common.{sym, arith}
use Rattle.std.proofs.lemmas.Int.{to_z-of_z}
use Rattle.geometry.specs.Points.{point_of}
use Rattle.geometry.proofs.Crossing.{level, upward, downward}
use Rattle.geometry.proofs.facet.crossing.side_counts.Goals as goal

pub returns-then-a-z : goal.returns-then-a-z
returns-then-a-z c = sym (level (point_of c.args.p) (point_of c.args.a) (point_of c.args.b) (grind (arith, to_z-of_z)))

pub returns-then-a-z-2 : goal.returns-then-a-z-2
returns-then-a-z-2 c =
    let e = upward (point_of c.args.p) (point_of c.args.a) (point_of c.args.b) (grind (arith, to_z-of_z)) (grind (arith, to_z-of_z)) in
    grind (arith, to_z-of_z)

pub returns-else-a-z-2 : goal.returns-else-a-z-2
returns-else-a-z-2 c =
    let e = downward (point_of c.args.p) (point_of c.args.a) (point_of c.args.b) (grind (arith, to_z-of_z)) (grind (arith, to_z-of_z)) in
    grind (arith, to_z-of_z)
