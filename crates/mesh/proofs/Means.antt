-- Means of numbers and of a triangle's corners, times the total weight; and the plane of a triangle by a mean of its corners.
use Rattle.std.proofs.Common.{◌≡◌, [], ◌∷◌, ℤ, pos, ◌+ℤ◌, ◌-ℤ◌, ◌*ℤ◌, refl}
use Rattle.algebra.proofs.Ring.{var, ◌⊕◌, ◌⊖◌, ◌⊗◌, ring}
use Rattle.geometry.specs.declared.mesh.Point.{Point}
use Rattle.geometry.specs.declared.mesh.Triangle.{Triangle}
use Rattle.geometry.specs.Geometry.{normal_of, plane}
use Rattle.mesh.specs.Means.{Weights, total, mean}
use Rattle.mesh.proofs.Exprs.{Zero, mean_e, normal_e, plane_e, V0, V1, V2, PT, corners, point}

-- the weights b and −a level the values a and b, and so do −b and a
pub levels : (a b : ℤ) → b *ℤ a +ℤ (pos 0 -ℤ a) *ℤ b ≡ pos 0
levels a b = ring (a ∷ b ∷ []) (var 1 ⊗ var 0 ⊕ (Zero ⊖ var 0) ⊗ var 1) Zero refl

pub levels_turned : (a b : ℤ) → (pos 0 -ℤ b) *ℤ a +ℤ a *ℤ b ≡ pos 0
levels_turned a b = ring (a ∷ b ∷ []) ((Zero ⊖ var 1) ⊗ var 0 ⊕ var 0 ⊗ var 1) Zero refl

-- h before c and h after it, times T
pub times_less : (T c h : ℤ) → T *ℤ (c -ℤ h) ≡ T *ℤ c -ℤ h *ℤ T
times_less T c h = ring (T ∷ c ∷ h ∷ []) (var 0 ⊗ (var 1 ⊖ var 2)) (var 0 ⊗ var 1 ⊖ var 2 ⊗ var 0) refl

pub times_more : (T c h : ℤ) → T *ℤ (c +ℤ h) ≡ T *ℤ c +ℤ h *ℤ T
times_more T c h = ring (T ∷ c ∷ h ∷ []) (var 0 ⊗ (var 1 ⊕ var 2)) (var 0 ⊗ var 1 ⊕ var 2 ⊗ var 0) refl

-- a mean of values that are each k less
pub mean_less : (w : Weights) (u v x k : ℤ)
    → w.a *ℤ (u -ℤ k) +ℤ w.b *ℤ (v -ℤ k) +ℤ w.c *ℤ (x -ℤ k) ≡ (w.a *ℤ u +ℤ w.b *ℤ v +ℤ w.c *ℤ x) -ℤ total w *ℤ k
mean_less w u v x k =
    ring (w.a ∷ w.b ∷ w.c ∷ u ∷ v ∷ x ∷ k ∷ [])
    (var 0 ⊗ (var 3 ⊖ var 6) ⊕ var 1 ⊗ (var 4 ⊖ var 6) ⊕ var 2 ⊗ (var 5 ⊖ var 6))
    ((var 0 ⊗ var 3 ⊕ var 1 ⊗ var 4 ⊕ var 2 ⊗ var 5) ⊖ (var 0 ⊕ var 1 ⊕ var 2) ⊗ var 6) refl

-- n · (q − v0) is n · (q − the mean), since the mean lies on the plane; both times the total weight
pub plane_mean : (w : Weights) (t : Triangle) (q : Point)
    → plane q t *ℤ total w
    ≡ (normal_of t).x *ℤ (total w *ℤ q.x -ℤ mean (λ p. p.x) w t)
    +ℤ (normal_of t).y *ℤ (total w *ℤ q.y -ℤ mean (λ p. p.y) w t)
    +ℤ (normal_of t).z *ℤ (total w *ℤ q.z -ℤ mean (λ p. p.z) w t)
unfolding plane normal_of
plane_mean w t q =
    let A = var 12 in let B = var 13 in let C = var 14 in let T = A ⊕ B ⊕ C in
    let N = normal_e V0 V1 V2 in
    ring (corners t (point q (w.a ∷ w.b ∷ w.c ∷ [])))
    (plane_e PT V0 V1 V2 ⊗ T)
    (N.x ⊗ (T ⊗ PT.x ⊖ mean_e A B C V0.x V1.x V2.x)
    ⊕ N.y ⊗ (T ⊗ PT.y ⊖ mean_e A B C V0.y V1.y V2.y)
    ⊕ N.z ⊗ (T ⊗ PT.z ⊖ mean_e A B C V0.z V1.z V2.z)) refl
