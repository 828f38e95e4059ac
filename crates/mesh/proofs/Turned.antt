-- The corners of a triangle taken in another order. Taken in turn, the triangle keeps its normal, its plane and its points; with two of
-- them swapped, the normal and the plane change their sign.
use Rattle.std.proofs.Common.{◌≡◌, Bool, [], ◌∷◌, ℤ, pos, ◌+ℤ◌, ◌-ℤ◌, ◌<ℤ◌, sym, refl, subst}
use Rattle.algebra.specs.Parity.{◌⊻◌}
use Rattle.algebra.proofs.Ring.{var, ◌⊕◌, ◌⊖◌, ◌⊗◌, ring}
use Rattle.algebra.proofs.Parity.{xor_turn}
use Rattle.geometry.specs.declared.mesh.Point.{Point}
use Rattle.geometry.specs.declared.mesh.Triangle.{Triangle}
use Rattle.geometry.specs.Geometry.{normal_of, plane}
use Rattle.mesh.specs.Means.{Weights, total, mean}
use Rattle.mesh.proofs.Exprs.{Zero, normal_e, plane_e, V0, V1, V2, PT, corners, point}

-- the corners taken in turn
abbrev pub rot : Triangle → Triangle
rot t = record { v0 = t.v1; v1 = t.v2; v2 = t.v0 }

-- over the three sides, whether f holds an odd number of times
abbrev pub three_sides : (Point → Point → Bool) → Triangle → Bool
three_sides f t = f t.v0 t.v1 ⊻ f t.v1 t.v2 ⊻ f t.v2 t.v0

pub three_rot : (f : Point → Point → Bool) (t : Triangle) → three_sides f (rot t) ≡ three_sides f t
three_rot f t = sym (xor_turn (f t.v0 t.v1) (f t.v1 t.v2) (f t.v2 t.v0))

pub nx_rot : (t : Triangle) → (normal_of (rot t)).x ≡ (normal_of t).x
unfolding normal_of
nx_rot t = ring (corners t []) (normal_e V1 V2 V0).x (normal_e V0 V1 V2).x refl

pub ny_rot : (t : Triangle) → (normal_of (rot t)).y ≡ (normal_of t).y
unfolding normal_of
ny_rot t = ring (corners t []) (normal_e V1 V2 V0).y (normal_e V0 V1 V2).y refl

pub nz_rot : (t : Triangle) → (normal_of (rot t)).z ≡ (normal_of t).z
unfolding normal_of
nz_rot t = ring (corners t []) (normal_e V1 V2 V0).z (normal_e V0 V1 V2).z refl

pub plane_rot : (p : Point) (t : Triangle) → plane p (rot t) ≡ plane p t
unfolding plane normal_of
plane_rot p t = ring (corners t (point p [])) (plane_e PT V1 V2 V0) (plane_e PT V0 V1 V2) refl

-- two corners swapped
abbrev pub swap : Triangle → Triangle
swap t = record { v0 = t.v0; v1 = t.v2; v2 = t.v1 }

pub nx_swap : (t : Triangle) → (normal_of (swap t)).x ≡ pos 0 -ℤ (normal_of t).x
unfolding normal_of
nx_swap t = ring (corners t []) (normal_e V0 V2 V1).x (Zero ⊖ (normal_e V0 V1 V2).x) refl

pub plane_swap : (p : Point) (t : Triangle) → plane p (swap t) ≡ pos 0 -ℤ plane p t
unfolding plane normal_of
plane_swap p t = ring (corners t (point p [])) (plane_e PT V0 V2 V1) (Zero ⊖ plane_e PT V0 V1 V2) refl

-- weights on the turned corners, as weights on the corners
module _ (t : Triangle) (w : Weights) where
  pub turned_total : total w ≡ w.c +ℤ w.a +ℤ w.b
  turned_total = ring (w.a ∷ w.b ∷ w.c ∷ []) (var 0 ⊕ var 1 ⊕ var 2) (var 2 ⊕ var 0 ⊕ var 1) refl

  abbrev pub turned : Weights
  turned = record {
    a = w.c;
    b = w.a;
    c = w.b;
    a_some = w.c_some;
    b_some = w.a_some;
    c_some = w.b_some;
    not_none = subst (λ x. pos 0 <ℤ x) turned_total w.not_none;
  }

  pub turned_mean : (f : Point → ℤ) → mean f w (rot t) ≡ mean f turned t
  turned_mean f =
      ring (w.a ∷ w.b ∷ w.c ∷ f t.v0 ∷ f t.v1 ∷ f t.v2 ∷ [])
      (var 0 ⊗ var 4 ⊕ var 1 ⊗ var 5 ⊕ var 2 ⊗ var 3) (var 2 ⊗ var 3 ⊕ var 0 ⊗ var 4 ⊕ var 1 ⊗ var 5) refl
