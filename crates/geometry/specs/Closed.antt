-- When the sides of a list of triangles close: no two different points are joined by an odd number of them. Points with equal
-- coordinates are one point, and the direction of a side does not matter.
use Rattle.std.specs.Prelude.{◌≡◌, Bool, true, false, if◌then◌else◌, ◌&&◌, List, [], ◌∷◌, ℤ, ◌-ℤ◌, ◌≢◌}
use Rattle.algebra.specs.Parity.{◌⊻◌}
use Rattle.geometry.specs.declared.mesh.Point.{Point}
use Rattle.geometry.specs.declared.mesh.Triangle.{Triangle}
use Rattle.geometry.specs.Geometry.{is_zero}

abbrev pub eq_z : ℤ → ℤ → Bool
eq_z a b = is_zero (a -ℤ b)

-- a and b are one point
abbrev pub eq_p : Point → Point → Bool
eq_p a b = eq_z a.x b.x && eq_z a.y b.y && eq_z a.z b.z

-- the side from c to d joins a and b, in either direction
abbrev pub joins : Point → Point → Point → Point → Bool
joins a b c d = if eq_p a c && eq_p b d then true else (eq_p a d && eq_p b c)

-- over the three sides of each triangle, whether f holds an odd number of times
abbrev pub odd_sides : (Point → Point → Bool) → List Triangle → Bool
odd_sides f [] = false
odd_sides f (t ∷ ts) = (f t.v0 t.v1 ⊻ f t.v1 t.v2 ⊻ f t.v2 t.v0) ⊻ odd_sides f ts

-- no two different points are joined by an odd number of sides
abbrev pub Closed : List Triangle → Type 0
Closed ts = (a b : Point) → (a ≢ b) → odd_sides (joins a b) ts ≡ false
