-- The tetrahedra between an apex and the triangles of a list, and how many of them hold a point, by the crossings of their four faces.
use Rattle.std.specs.Prelude.{Bool, false, List, [], ◌∷◌}
use Rattle.algebra.specs.Parity.{◌⊻◌}
use Rattle.geometry.specs.declared.mesh.Point.{Point}
use Rattle.geometry.specs.declared.mesh.Triangle.{Triangle}
use Rattle.geometry.specs.Geometry.{crosses}

-- an odd number of the faces of the tetrahedron with the apex o and the base t cross at p or before
abbrev pub holds : Point → Point → Triangle → Bool
holds p o t =
    crosses p t ⊻ crosses p (record { v0 = o; v1 = t.v0; v2 = t.v1 }) ⊻ crosses p (record { v0 = o; v1 = t.v1; v2 = t.v2 })
    ⊻ crosses p (record { v0 = o; v1 = t.v2; v2 = t.v0 })

-- an odd number of the tetrahedra from the apex o hold p
abbrev pub held : Point → Point → List Triangle → Bool
held p o [] = false
held p o (t ∷ ts) = holds p o t ⊻ held p o ts
