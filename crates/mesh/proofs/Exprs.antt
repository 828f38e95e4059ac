-- Triangles for the solver of polynomial equations: the expressions of a normal, a plane and a side, and the variables that stand for
-- the coordinates of corners and points.
use Rattle.std.proofs.Common.{List, ◌∷◌, ℤ, pos}
use Rattle.geometry.specs.declared.mesh.Point.{Point}
use Rattle.geometry.specs.declared.mesh.Triangle.{Triangle}
use Rattle.algebra.proofs.Ring.{Expr, var, num, ◌⊕◌, ◌⊖◌, ◌⊗◌}

abbrev pub Zero : Expr
Zero = num (pos 0)

abbrev pub One : Expr
One = num (pos 1)

-- ---- in the plane of two axes, a and b

-- twice the area of the triangle u, v, w
abbrev pub area_e : Expr → Expr → Expr → Expr → Expr → Expr → Expr
area_e au bu av bv aw bw = (av ⊖ au) ⊗ (bw ⊖ bv) ⊖ (bv ⊖ bu) ⊗ (aw ⊖ av)

-- the side of the line from u to v on which q lies
abbrev pub edge_e : Expr → Expr → Expr → Expr → Expr → Expr → Expr
edge_e au bu av bv aq bq = (av ⊖ au) ⊗ (bq ⊖ bu) ⊖ (bv ⊖ bu) ⊗ (aq ⊖ au)

-- a mean of three values, times the total weight
abbrev pub mean_e : Expr → Expr → Expr → Expr → Expr → Expr → Expr
mean_e a b c u v w = a ⊗ u ⊕ b ⊗ v ⊕ c ⊗ w

-- ---- in space

pub record Spot : Type 0 where
  pub x : Expr
  pub y : Expr
  pub z : Expr

abbrev pub normal_e : Spot → Spot → Spot → Spot
normal_e u v w = record {
  x = area_e u.y u.z v.y v.z w.y w.z;
  y = area_e u.z u.x v.z v.x w.z w.x;
  z = area_e u.x u.y v.x v.y w.x w.y;
}

-- the plane of the triangle u, v, w at p
abbrev pub plane_e : Spot → Spot → Spot → Spot → Expr
plane_e p u v w =
    (normal_e u v w).x ⊗ (p.x ⊖ u.x) ⊕ (normal_e u v w).y ⊗ (p.y ⊖ u.y) ⊕ (normal_e u v w).z ⊗ (p.z ⊖ u.z)

-- ---- variables: nine for the corners, then three for a point

abbrev pub V0 : Spot
V0 = record { x = var 0; y = var 1; z = var 2 }

abbrev pub V1 : Spot
V1 = record { x = var 3; y = var 4; z = var 5 }

abbrev pub V2 : Spot
V2 = record { x = var 6; y = var 7; z = var 8 }

abbrev pub PT : Spot
PT = record { x = var 9; y = var 10; z = var 11 }

abbrev pub corners : Triangle → List ℤ → List ℤ
corners t more =
    t.v0.x ∷ t.v0.y ∷ t.v0.z ∷ t.v1.x ∷ t.v1.y ∷ t.v1.z ∷ t.v2.x ∷ t.v2.y ∷ t.v2.z ∷ more

abbrev pub point : Point → List ℤ → List ℤ
point p more = p.x ∷ p.y ∷ p.z ∷ more
