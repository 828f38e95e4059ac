-- Points with faces that name them.
use Rattle.std.specs.Prelude.{zero, suc, List, map, ℤ, pos, negsuc, Some, None, Option}
use Rattle.std.specs.List.{slice_get}
use Rattle.geometry.specs.declared.mesh.Point.{Point}
use Rattle.geometry.specs.declared.mesh.Face.{Face}
use Rattle.geometry.specs.declared.mesh.Triangle.{Triangle}

-- the point of a number, counted from 1
abbrev pub point_named : List Point → ℤ → Option Point
point_named ps (pos zero) = None
point_named ps (pos (suc k)) = slice_get ps k
point_named ps (negsuc k) = None

abbrev pub joined : Option Point → Option Point → Option Point → Option Triangle
joined (Some a) (Some b) (Some c) = Some (record { v0 = a; v1 = b; v2 = c })
joined (Some a) (Some b) None = None
joined (Some a) None c = None
joined None b c = None

-- the triangle that a face names, or none where it names a missing point
abbrev pub triangle_named : List Point → Face → Option Triangle
triangle_named ps f = joined (point_named ps f.a) (point_named ps f.b) (point_named ps f.c)

abbrev pub named_entries : List Point → List Face → List (Option Triangle)
named_entries ps fs = map (triangle_named ps) fs
