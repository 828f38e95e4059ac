-- A cuboid between two corners, as twelve triangles.
use Rattle.std.specs.Prelude.{List, [], ◌∷◌, ◌++◌, ℤ, Some, Option}
use Rattle.geometry.specs.declared.mesh.Point.{Point}
use Rattle.geometry.specs.declared.mesh.Triangle.{Triangle}

-- the point with this value on the axis across the face, and with u and v on the two free axes, the earlier one first
abbrev pub on_x : ℤ → ℤ → ℤ → Point
on_x at u v = record { x = at; y = u; z = v }

abbrev pub on_y : ℤ → ℤ → ℤ → Point
on_y at u v = record { x = u; y = at; z = v }

abbrev pub on_z : ℤ → ℤ → ℤ → Point
on_z at u v = record { x = u; y = v; z = at }

-- a face from u, v at the first corner to u', v' at the second: P has the first corner's values, Q the second's, R the second's on the
-- earlier axis only, S on the later only; the triangles are P R Q and P S Q
abbrev pub face : (ℤ → ℤ → Point) → ℤ → ℤ → ℤ → ℤ → List (Option Triangle)
face at u v u' v' =
    Some (record { v0 = at u v; v1 = at u' v; v2 = at u' v' }) ∷ Some (record { v0 = at u v; v1 = at u v'; v2 = at u' v' }) ∷ []

-- x, y and z in turn, and on each the face at the first corner's value, then the second's
abbrev pub cuboid_entries : Point → Point → List (Option Triangle)
cuboid_entries p q =
    face (on_x p.x) p.y p.z q.y q.z ++ face (on_x q.x) p.y p.z q.y q.z
    ++ face (on_y p.y) p.x p.z q.x q.z ++ face (on_y q.y) p.x p.z q.x q.z
    ++ face (on_z p.z) p.x p.y q.x q.y ++ face (on_z q.z) p.x p.y q.x q.y
