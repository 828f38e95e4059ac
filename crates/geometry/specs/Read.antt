-- What the code's values stand for, and its one width.
use Rattle.std.specs.Prelude.{Bool, if◌then◌else◌, ℤ, pos, ◌-ℤ◌}
use Rattle.geometry.specs.declared.mesh.Point.{Point}
use Rattle.geometry.specs.declared.mesh.Triangle.{Triangle}
use Rattle.geometry.specs.declared.facet.Facet.{Facet}
use Rattle.geometry.specs.declared.axis.Axis.{Axis}
use Rattle.geometry.specs.declared.axis.Axis.TheVariants.{X, Y, Z}
use Rattle.geometry.specs.Cells.{low, high}
use Rattle.geometry.specs.Numbers.{◌·◌}
use Rattle.geometry.specs.Points.{point_of}

-- half the width of a cell, the code's HALF_WIDTH; everything else takes it as a parameter
abbrev pub half : ℤ
half = pos 8

abbrev pub triangle_of : Facet → Triangle
triangle_of f = record { v0 = point_of f.v0; v1 = point_of f.v1; v2 = point_of f.v2 }

-- ---- words of the code on the way

-- the coordinate on an axis, and the two across it
abbrev pub along : Axis → Point → ℤ
along X p = p.x
along Y p = p.y
along Z p = p.z

abbrev pub first_of : Axis → Point → ℤ
first_of X p = p.y
first_of Y p = p.z
first_of Z p = p.x

abbrev pub second_of : Axis → Point → ℤ
second_of X p = p.z
second_of Y p = p.x
second_of Z p = p.y

-- `edge` of points that are seen as (ua, ub), (va, vb) and (qa, qb)
unfoldable pub flat_edge : ℤ → ℤ → ℤ → ℤ → ℤ → ℤ → ℤ
flat_edge ua ub va vb qa qb = (va -ℤ ua) · (qb -ℤ ub) -ℤ (vb -ℤ ub) · (qa -ℤ ua)

-- an end of the span of cell k on an axis, the high one if the flag is set
abbrev pub end_of : ℤ → Bool → ℤ → ℤ
end_of h up k = if up then high h k else low h k

-- the corner of the cell k at the high end of the axes whose flag is set
abbrev pub corner_of : ℤ → Point → Bool → Bool → Bool → Point
corner_of h k x y z = record { x = end_of h x k.x; y = end_of h y k.y; z = end_of h z k.z }
