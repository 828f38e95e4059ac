-- Triangles with whole-number corners against a point p and the row through it, the line along x. A `Point` here has any integers for
-- coordinates, without bound.
use Rattle.std.specs.Prelude.{zero, suc, Bool, true, false, not, ◌&&◌, List, [], ◌∷◌, ℤ, pos, negsuc, ◌+ℤ◌, ◌-ℤ◌, ◌*ℤ◌, int_le, int_lt}
use Rattle.algebra.specs.Parity.{◌⊻◌}
use Rattle.geometry.specs.declared.mesh.Point.{Point}
use Rattle.geometry.specs.declared.mesh.Triangle.{Triangle}

abbrev pub is_zero : ℤ → Bool
is_zero (pos zero) = true
is_zero (pos (suc n)) = false
is_zero (negsuc n) = false

-- the normal: the cross product of the first two sides
unfoldable pub normal_of : Triangle → Point
normal_of t =
    let a = t.v0 in let b = t.v1 in let c = t.v2 in
    record {
      x = (b.y -ℤ a.y) *ℤ (c.z -ℤ b.z) -ℤ (b.z -ℤ a.z) *ℤ (c.y -ℤ b.y);
      y = (b.z -ℤ a.z) *ℤ (c.x -ℤ b.x) -ℤ (b.x -ℤ a.x) *ℤ (c.z -ℤ b.z);
      z = (b.x -ℤ a.x) *ℤ (c.y -ℤ b.y) -ℤ (b.y -ℤ a.y) *ℤ (c.x -ℤ b.x);
    }

-- in the plane of the axes a and b: which side of the line from u to v the point q is on, and how far, times the length of u v
unfoldable pub edge : (Point → ℤ) → (Point → ℤ) → Point → Point → Point → ℤ
edge a b u v q = (a v -ℤ a u) *ℤ (b q -ℤ b u) -ℤ (b v -ℤ b u) *ℤ (a q -ℤ a u)

-- the side from a to b passes the height of p: exactly one end is at or below it
abbrev pub passes : Point → Point → Point → Bool
passes p a b = int_le a.z p.z ⊻ int_le b.z p.z

-- the side's y at the height of p, less p's y, times the square of the side's rise
abbrev pub ahead : Point → Point → Point → ℤ
ahead p a b = edge (λ q. q.y) (λ q. q.z) a b p *ℤ (b.z -ℤ a.z)

-- the side passes the height of p, and its y there is greater than p's
abbrev pub counts : Point → Point → Point → Bool
counts p a b = passes p a b && int_lt (pos 0) (ahead p a b)

-- an odd number of the sides count, and the plane of the triangle does not lie along the row
abbrev pub covers : Point → Triangle → Bool
covers p t = not (is_zero (normal_of t).x) && (counts p t.v0 t.v1 ⊻ counts p t.v1 t.v2 ⊻ counts p t.v2 t.v0)

-- n · (p − v0): 0 on the plane of the triangle, and n.x times the way along the row from the plane to p
unfoldable pub plane : Point → Triangle → ℤ
plane p t =
    (normal_of t).x *ℤ (p.x -ℤ t.v0.x) +ℤ (normal_of t).y *ℤ (p.y -ℤ t.v0.y) +ℤ (normal_of t).z *ℤ (p.z -ℤ t.v0.z)

-- the triangle covers the row of p, and its plane meets the row at p or before
abbrev pub crosses : Point → Triangle → Bool
crosses p t = covers p t && int_le (pos 0) (plane p t *ℤ (normal_of t).x)

-- an odd number of the triangles cross at p or before
abbrev pub inside : Point → List Triangle → Bool
inside p [] = false
inside p (t ∷ ts) = crosses p t ⊻ inside p ts
