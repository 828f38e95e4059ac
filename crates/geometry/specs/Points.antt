-- What the numbers of the code in range stand for.
use Rattle.std.specs.Prelude.{ℤ}
use Rattle.geometry.specs.declared.mesh.Point.{Point}
use Rattle.geometry.specs.declared.bounded.Coordinate.{Coordinate}
use Rattle.geometry.specs.declared.bounded.Bounded.{Bounded}
use Rattle.geometry.specs.declared.arith.Normal.{Normal}

abbrev pub coordinate_of : Coordinate → ℤ
coordinate_of c = c.value

abbrev pub point_of : Bounded → Point
point_of b = record { x = b.x.value; y = b.y.value; z = b.z.value }

abbrev pub normal_point : Normal → Point
normal_point n = record { x = n.x.value; y = n.y.value; z = n.z.value }
