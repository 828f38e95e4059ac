-- One step along x from the origin: where a triangle crosses at one end of the step and not at the other, it stops the step.
use Rattle.std.proofs.Common.{◌≡◌, Bool, true, false, ◌&&◌, ℤ, pos, ◌-ℤ◌, ◌*ℤ◌, ◌≤ℤ◌, sym, refl, ap, ◌∙◌}
use mathlib.Core.Bool.{false≢true}
use lib.IntN.{*ℤ_comm}
use lib.Signed.{le_z}
use Rattle.algebra.specs.Parity.{◌⊻◌}
use Rattle.algebra.proofs.Order.{nonneg_of_pos, mul_nonneg}
use Rattle.algebra.proofs.Parity.{xor_same}
use Rattle.algebra.proofs.Tests.{and_true}
use Rattle.geometry.specs.declared.mesh.Point.{Point}
use Rattle.geometry.specs.declared.mesh.Triangle.{Triangle}
use Rattle.geometry.specs.Geometry.{normal_of, plane}
use Rattle.mesh.specs.Means.{total, mean}
use Rattle.mesh.proofs.Means.{mean_less}
use Rattle.mesh.proofs.Origin.{origin, odd0, crosses0}
use Rattle.mesh.proofs.Row.{plane_side, crossed, crossed_turns}
use Rattle.mesh.proofs.Segments.{Stops, in_span}

abbrev lower : ℤ → Point → Point
lower h p = record { x = p.x -ℤ h; y = p.y; z = p.z }

-- the triangle, seen from the end of the step
abbrev pub lowered_x : ℤ → Triangle → Triangle
lowered_x h t = record { v0 = lower h t.v0; v1 = lower h t.v1; v2 = lower h t.v2 }

pub step_x : (h : ℤ) → pos 0 ≤ℤ h → (t : Triangle) → (crosses0 t ⊻ crosses0 (lowered_x h t)) ≡ true
    → Stops (normal_of t).x (λ p. p.y) (λ p. p.z) (λ p. p.x) h t
unfolding normal_of
step_x h h_some t odd = by_odd (odd0 t) refl
  where
    by_odd : (r : Bool) → r ≡ odd0 t → Stops (normal_of t).x (λ p. p.y) (λ p. p.z) (λ p. p.x) h t
    by_odd false e = absurd (false≢true (sym (ap none (sym e)) ∙ odd))
      where
        none : Bool → Bool
        none r =
            (r && le_z (pos 0) (plane origin t *ℤ (normal_of t).x))
            ⊻ (r && le_z (pos 0) (plane origin (lowered_x h t) *ℤ (normal_of (lowered_x h t)).x))
    by_odd true e =
        let o = crossed t (sym e) in
        let nz = crossed_turns t (sym e) in
        let T = total o.w in
        let M = mean (λ p. p.x) o.w t in
        let far : mean (λ p. p.x) o.w (lowered_x h t) ≡ M -ℤ h *ℤ T =
        mean_less o.w t.v0.x t.v1.x t.v2.x h ∙ ap (λ x. M -ℤ x) (*ℤ_comm T h) in
        let r = in_span M (h *ℤ T) (mul_nonneg h T h_some (nonneg_of_pos T o.w.not_none))
        (sym (xor_same (and_true (sym e) o.told)
        (and_true (sym e) (plane_side (lowered_x h t) o.w nz o.on_y o.on_z ∙ ap (λ x. le_z x (pos 0)) far))) ∙ odd) in
        record { turns = nz; seg = record { w = o.w; on_e = o.on_y; on_g = o.on_z; low = r.0; high = r.1 } }
