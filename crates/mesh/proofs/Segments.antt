-- A triangle's points on a segment from the origin along one axis, and how a point that was found on a chord is one.
use Rattle.std.proofs.Common.{◌≡◌, true, ℤ, pos, ◌+ℤ◌, ◌-ℤ◌, ◌*ℤ◌, ◌≤ℤ◌, sym, ◌∙◌, subst, arith}
use mathlib.Core.Bool.{false≢true}
use Rattle.std.proofs.lemmas.Int.{ints}
use lib.Signed.{le_z}
use Rattle.algebra.specs.Parity.{◌⊻◌}
use Rattle.algebra.proofs.Order.{nonneg_of_pos, by_sign}
use Rattle.algebra.proofs.Parity.{xor_same}
use Rattle.algebra.proofs.Tests.{le_true, le_false}
use Rattle.geometry.specs.declared.mesh.Point.{Point}
use Rattle.geometry.specs.declared.mesh.Triangle.{Triangle}
use Rattle.mesh.specs.Means.{Weights, total, mean}
use Rattle.mesh.proofs.Chord.{Found}
use Rattle.mesh.proofs.Split.{Split, end1, end2, weights_of, mean_of, mean_on, total_of}
use Rattle.mesh.proofs.Turned.{rot, turned, turned_total, turned_mean}

-- a point of the triangle where e and g are 0, and f from 0 to h
pub record Seg (e g f : Point → ℤ) (h : ℤ) (t : Triangle) : Type 0 where
  pub w : Weights
  pub on_e : mean e w t ≡ pos 0
  pub on_g : mean g w t ≡ pos 0
  pub low : pos 0 ≤ℤ mean f w t
  pub high : mean f w t ≤ℤ (h *ℤ total w)

-- the triangle stops a step of h along f: it has a point there, and n, the normal's component along f, is not 0
pub record Stops (n : ℤ) (e g f : Point → ℤ) (h : ℤ) (t : Triangle) : Type 0 where
  pub turns : n ≡ pos 0 → ⊥
  pub seg : Seg e g f h t

pub seg_rot : (e g f : Point → ℤ) (h : ℤ) (t : Triangle) → Seg e g f h (rot t) → Seg e g f h t
seg_rot e g f h t s = record {
  w = turned t s.w;
  on_e = sym (turned_mean t s.w e) ∙ s.on_e;
  on_g = sym (turned_mean t s.w g) ∙ s.on_g;
  low = subst (λ x. pos 0 ≤ℤ x) (turned_mean t s.w f) s.low;
  high = subst (λ x. x ≤ℤ (h *ℤ total (turned t s.w))) (turned_mean t s.w f)
      (subst (λ x. mean f s.w (rot t) ≤ℤ (h *ℤ x)) (turned_total t s.w) s.high);
}

-- a point that was found on the chord, as a mean of the corners
pub seg_of : (e g f : Point → ℤ) (h : ℤ) (t : Triangle) (sp : Split (g t.v0) (g t.v1) (g t.v2))
    → Found (end1 sp (e t.v0) (e t.v1)) (end1 sp (f t.v0) (f t.v1)) (sp.ms +ℤ sp.mr)
    (end2 sp (e t.v0) (e t.v2)) (end2 sp (f t.v0) (f t.v2)) (sp.mt +ℤ sp.mr) h
    → Seg e g f h t
seg_of e g f h t sp fd =
    let W : Weights = weights_of sp fd.n1 fd.n2 fd.n1_some fd.n2_some fd.not_none in
    let m : (k : Point → ℤ) → mean k W t ≡ fd.n1 *ℤ end1 sp (k t.v0) (k t.v1) +ℤ fd.n2 *ℤ end2 sp (k t.v0) (k t.v2) =
    mean_of sp fd.n1 fd.n2 fd.n1_some fd.n2_some fd.not_none t in
    let k : total W ≡ fd.n1 *ℤ (sp.ms +ℤ sp.mr) +ℤ fd.n2 *ℤ (sp.mt +ℤ sp.mr) =
    total_of sp fd.n1 fd.n2 fd.n1_some fd.n2_some fd.not_none in
    record {
      w = W;
      on_e = m e ∙ fd.along;
      on_g = mean_on sp fd.n1 fd.n2 fd.n1_some fd.n2_some fd.not_none t g sp.on1 sp.on2;
      low = subst (λ x. pos 0 ≤ℤ x) (sym (m f)) fd.low;
      high = subst (λ x. x ≤ℤ (h *ℤ total W)) (sym (m f))
          (subst (λ x. (fd.n1 *ℤ end1 sp (f t.v0) (f t.v1) +ℤ fd.n2 *ℤ end2 sp (f t.v0) (f t.v2)) ≤ℤ (h *ℤ x))
          (sym k) fd.high);
    }

-- a number that is past 0, and not past 0 once k is taken off, or the other way round, lies from 0 to k
pub in_span : (q k : ℤ) → pos 0 ≤ℤ k → (le_z q (pos 0) ⊻ le_z (q -ℤ k) (pos 0)) ≡ true → (pos 0 ≤ℤ q) × (q ≤ℤ k)
in_span q k h odd =
    by_sign q
    (λ a. absurd (false≢true (sym (xor_same (le_true q _ a) (le_true (q -ℤ k) _ (below q k a h))) ∙ odd)))
    (λ a. by_sign (q -ℤ k)
    (λ b. (nonneg_of_pos q a, under q k b))
    (λ b. absurd (false≢true (sym (xor_same (le_false q _ a) (le_false (q -ℤ k) _ b)) ∙ odd))))
  where
    below : (q k : ℤ) → q ≤ℤ pos 0 → pos 0 ≤ℤ k → (q -ℤ k) ≤ℤ pos 0
    below q k a h = omega (arith, ints)

    under : (q k : ℤ) → (q -ℤ k) ≤ℤ pos 0 → q ≤ℤ k
    under q k b = omega (arith, ints)
