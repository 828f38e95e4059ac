-- The three sides of a triangle at a mean of its corners, seen along an axis: each has the weight of the corner across, times twice the
-- triangle's area. So, with the sign of the area, none is negative.
use Rattle.std.proofs.Common.{◌≡◌, List, [], ◌∷◌, ℤ, pos, ◌-ℤ◌, ◌*ℤ◌, ◌≤ℤ◌, sym, refl, ap, ◌∙◌, subst}
use Rattle.algebra.proofs.Ring.{Expr, var, ◌⊕◌, ◌⊖◌, ◌⊗◌, ring}
use Rattle.algebra.proofs.Order.{mul_nonneg}
use Rattle.geometry.specs.declared.mesh.Point.{Point}
use Rattle.geometry.specs.declared.mesh.Triangle.{Triangle}
use Rattle.geometry.specs.Cells.{sign}
use Rattle.mesh.specs.Means.{Weights, total, mean}
use Rattle.mesh.proofs.Exprs.{area_e, mean_e}
use Rattle.mesh.proofs.Signs.{size_some}
use Rattle.mesh.proofs.Split.{area}

-- twice the area of the triangle in the plane of the axes a and b: the normal's component along the third axis
abbrev pub area_of : (Point → ℤ) → (Point → ℤ) → Triangle → ℤ
area_of a b t = area (a t.v0) (b t.v0) (a t.v1) (b t.v1) (a t.v2) (b t.v2)

-- the side from u to v at a mean of the corners, times the total weight
abbrev pub edge_mean : (Point → ℤ) → (Point → ℤ) → Point → Point → Weights → Triangle → ℤ
edge_mean a b u v w t = (a v -ℤ a u) *ℤ (mean b w t -ℤ total w *ℤ b u) -ℤ (b v -ℤ b u) *ℤ (mean a w t -ℤ total w *ℤ a u)

module _ (a b : Point → ℤ) (w : Weights) (t : Triangle) where
  abbrev vars : List ℤ
  vars = a t.v0 ∷ b t.v0 ∷ a t.v1 ∷ b t.v1 ∷ a t.v2 ∷ b t.v2 ∷ w.a ∷ w.b ∷ w.c ∷ []

  abbrev whole_e : Expr
  whole_e = area_e (var 0) (var 1) (var 2) (var 3) (var 4) (var 5)

  abbrev edge_mean_e : Expr → Expr → Expr → Expr → Expr
  edge_mean_e au bu av bv =
      (av ⊖ au) ⊗ (mean_e (var 6) (var 7) (var 8) (var 1) (var 3) (var 5) ⊖ (var 6 ⊕ var 7 ⊕ var 8) ⊗ bu)
      ⊖ (bv ⊖ bu) ⊗ (mean_e (var 6) (var 7) (var 8) (var 0) (var 2) (var 4) ⊖ (var 6 ⊕ var 7 ⊕ var 8) ⊗ au)

  pub edge01 : edge_mean a b t.v0 t.v1 w t ≡ area_of a b t *ℤ w.c
  edge01 = ring vars (edge_mean_e (var 0) (var 1) (var 2) (var 3)) (whole_e ⊗ var 8) refl

  pub edge12 : edge_mean a b t.v1 t.v2 w t ≡ area_of a b t *ℤ w.a
  edge12 = ring vars (edge_mean_e (var 2) (var 3) (var 4) (var 5)) (whole_e ⊗ var 6) refl

  pub edge20 : edge_mean a b t.v2 t.v0 w t ≡ area_of a b t *ℤ w.b
  edge20 = ring vars (edge_mean_e (var 4) (var 5) (var 0) (var 1)) (whole_e ⊗ var 7) refl

some_of : (n m e : ℤ) → e ≡ n *ℤ m → pos 0 ≤ℤ m → pos 0 ≤ℤ (sign n *ℤ e)
some_of n m e is h =
    subst (λ x. pos 0 ≤ℤ x)
    (ring (sign n ∷ n ∷ m ∷ []) ((var 0 ⊗ var 1) ⊗ var 2) (var 0 ⊗ (var 1 ⊗ var 2)) refl ∙ ap (λ x. sign n *ℤ x) (sym is))
    (mul_nonneg (sign n *ℤ n) m (size_some n) h)

module _ (a b : Point → ℤ) (w : Weights) (t : Triangle) where
  pub edge01_some : pos 0 ≤ℤ (sign (area_of a b t) *ℤ edge_mean a b t.v0 t.v1 w t)
  edge01_some = some_of (area_of a b t) w.c _ (edge01 a b w t) w.c_some

  pub edge12_some : pos 0 ≤ℤ (sign (area_of a b t) *ℤ edge_mean a b t.v1 t.v2 w t)
  edge12_some = some_of (area_of a b t) w.a _ (edge12 a b w t) w.a_some

  pub edge20_some : pos 0 ≤ℤ (sign (area_of a b t) *ℤ edge_mean a b t.v2 t.v0 w t)
  edge20_some = some_of (area_of a b t) w.b _ (edge20 a b w t) w.b_some
