-- One step along y from the origin. The half strip between the two rows is all that lies at most 0 along them. Where a triangle's crossings
-- at the two ends of the step and its sides' crossings of the half strip make an odd number, it stops the step.
use Rattle.std.proofs.Common.{◌≡◌, Bool, true, false, ◌&&◌, [], ◌∷◌, ℤ, pos, ◌+ℤ◌, ◌-ℤ◌, ◌*ℤ◌, ◌≤ℤ◌, sym, refl, ap, ◌∙◌, subst}
use mathlib.Core.Bool.{false≢true}
use Rattle.std.proofs.lemmas.Bool.{and_left}
use lib.Signed.{lt_z, le_z}
use Rattle.algebra.specs.Parity.{◌⊻◌}
use Rattle.algebra.proofs.Ring.{var, ◌⊖◌, ring}
use Rattle.algebra.proofs.Order.{nonneg_of_pos, mul_nonneg, lt_scaled, le_scaled}
use Rattle.algebra.proofs.Parity.{xor_assoc, xor_comm, xor_self, xor_false, xor_same, xor_exchange, xor_not}
use Rattle.algebra.proofs.Tests.{lt_is_not_le, and_true, and_same}
use Rattle.geometry.specs.declared.mesh.Point.{Point}
use Rattle.geometry.specs.declared.mesh.Triangle.{Triangle}
use Rattle.geometry.specs.Geometry.{normal_of, plane}
use Rattle.mesh.proofs.Exprs.{Zero, area_e}
use Rattle.mesh.proofs.Chord.{Hit, Found, chord}
use Rattle.mesh.proofs.Split.{Split, cut, cut_turn, area, end1, end2, end1_less, end2_less}
use Rattle.mesh.proofs.Turned.{rot, three_sides, three_rot, ny_rot}
use Rattle.mesh.proofs.Origin.{origin, odd0, crosses0, crosses0_rot}
use Rattle.mesh.proofs.Row.{Alone, Together, by_alone, height_z, odd_alone, odd_together, row_hit}
use Rattle.mesh.proofs.Segments.{Stops, seg_rot, seg_of, in_span}

-- ---- parity, for this step and the one along z

pub crossed_even : (a b c d : Bool) → ((a ⊻ b) ⊻ (c ⊻ d) ⊻ (a ⊻ c) ⊻ (b ⊻ d)) ≡ false
crossed_even a b c d =
    xor_assoc ((a ⊻ b) ⊻ (c ⊻ d)) (a ⊻ c) (b ⊻ d) ∙ ap (λ x. x ⊻ ((a ⊻ c) ⊻ (b ⊻ d))) (xor_exchange a b c d)
    ∙ xor_self ((a ⊻ c) ⊻ (b ⊻ d))

-- a side that tells nothing drops out
pub drop_side : (a b c d x : Bool) → x ≡ false → (a ⊻ b ⊻ (c ⊻ x ⊻ d)) ≡ (a ⊻ b ⊻ c ⊻ d)
drop_side a b c d x e =
    ap (λ y. a ⊻ b ⊻ (c ⊻ y ⊻ d)) e ∙ ap (λ y. a ⊻ b ⊻ (y ⊻ d)) (xor_false c) ∙ sym (xor_assoc (a ⊻ b) c d)

-- ---- the step

module _ (h : ℤ) (h_some : pos 0 ≤ℤ h) where
  -- the triangle, seen from the end of the step
  abbrev lower : Point → Point
  lower p = record { x = p.x; y = p.y -ℤ h; z = p.z }

  abbrev pub lowered_y : Triangle → Triangle
  lowered_y t = record { v0 = lower t.v0; v1 = lower t.v1; v2 = lower t.v2 }

  -- the side crosses the half strip
  abbrev pub strip_y : Point → Point → Bool
  strip_y a b =
      (le_z a.z (pos 0) ⊻ le_z b.z (pos 0))
      && ((lt_z (pos 0) (cut a.y a.z b.y b.z) ⊻ lt_z (pos 0) (cut (a.y -ℤ h) a.z (b.y -ℤ h) b.z))
      && le_z (cut a.x a.z b.x b.z) (pos 0))

  pub strip_y_turn : (a b : Point) → strip_y a b ≡ strip_y b a
  strip_y_turn a b =
      and_same (xor_comm (le_z a.z (pos 0)) (le_z b.z (pos 0)))
      (and_same
      (xor_same
      (ap (lt_z (pos 0)) (cut_turn a.y a.z b.y b.z))
      (ap (lt_z (pos 0)) (cut_turn (a.y -ℤ h) a.z (b.y -ℤ h) b.z)))
      (ap (λ x. le_z x (pos 0)) (cut_turn a.x a.z b.x b.z)))

  pub strip_y_none : (a : Point) → strip_y a a ≡ false
  strip_y_none a = and_left _ _ (xor_self (le_z a.z (pos 0)))

  abbrev pub sum_y : Triangle → Bool
  sum_y t = crosses0 t ⊻ crosses0 (lowered_y t) ⊻ three_sides strip_y t

  abbrev Claim : Triangle → Type 0
  Claim t = sum_y t ≡ true → Stops (normal_of t).y (λ p. p.x) (λ p. p.z) (λ p. p.y) h t

  claim_rot : (t : Triangle) → Claim (rot t) → Claim t
  claim_rot t c odd =
      let m = c (xor_same (xor_same (crosses0_rot t) (crosses0_rot (lowered_y t))) (three_rot strip_y t) ∙ odd) in
      record { turns = λ e. m.turns (ny_rot t ∙ e); seg = seg_rot _ _ _ h t m.seg }

  claim_together : (t : Triangle) → Together height_z t → Claim t
  claim_together t to odd =
      absurd (false≢true (sym (xor_same
      (xor_same
      (and_left _ _ (odd_together t to))
      (and_left _ _ (odd_together (lowered_y t) (record { first = to.first; far = to.far; last = to.last }))))
      (xor_same (xor_same (and_left _ _ to.first) (and_left _ _ to.far)) (and_left _ _ to.last))) ∙ odd))

  module _ (t : Triangle) (al : Alone height_z t) where
    abbrev sp : Split t.v0.z t.v1.z t.v2.z
    sp = al.split

    abbrev al' : Alone height_z (lowered_y t)
    al' = record { split = al.split; first = al.first; far = al.far; last = al.last }

    abbrev p1 : ℤ
    p1 = end1 sp t.v0.x t.v1.x

    abbrev p2 : ℤ
    p2 = end2 sp t.v0.x t.v2.x

    abbrev q1 : ℤ
    q1 = end1 sp t.v0.y t.v1.y

    abbrev q2 : ℤ
    q2 = end2 sp t.v0.y t.v2.y

    abbrev w1 : ℤ
    w1 = sp.ms +ℤ sp.mr

    abbrev w2 : ℤ
    w2 = sp.mt +ℤ sp.mr

    lower1 : end1 sp (t.v0.y -ℤ h) (t.v1.y -ℤ h) ≡ q1 -ℤ h *ℤ w1
    lower1 = end1_less sp t.v0.y t.v1.y h

    lower2 : end2 sp (t.v0.y -ℤ h) (t.v2.y -ℤ h) ≡ q2 -ℤ h *ℤ w2
    lower2 = end2_less sp t.v0.y t.v2.y h

    -- the chord's ends lie past the near row, and past the far one
    abbrev P1 : Bool
    P1 = lt_z (pos 0) q1

    abbrev P2 : Bool
    P2 = lt_z (pos 0) q2

    abbrev R1 : Bool
    R1 = lt_z (pos 0) (q1 -ℤ h *ℤ w1)

    abbrev R2 : Bool
    R2 = lt_z (pos 0) (q2 -ℤ h *ℤ w2)

    abbrev near : Bool
    near = le_z (pos 0) (plane origin t *ℤ (normal_of t).x)

    abbrev far : Bool
    far = le_z (pos 0) (plane origin (lowered_y t) *ℤ (normal_of (lowered_y t)).x)

    odd_low : odd0 (lowered_y t) ≡ (R1 ⊻ R2)
    odd_low = odd_alone (lowered_y t) al' ∙ xor_same (ap (lt_z (pos 0)) lower1) (ap (lt_z (pos 0)) lower2)

    hit_low : (R1 ⊻ R2) ≡ true → Hit p1 (q1 -ℤ h *ℤ w1) p2 (q2 -ℤ h *ℤ w2) far
    hit_low e =
        subst (λ x. Hit p1 x p2 (q2 -ℤ h *ℤ w2) far) lower1
        (subst (λ x. Hit p1 (end1 sp (t.v0.y -ℤ h) (t.v1.y -ℤ h)) p2 x far) lower2
        (row_hit (lowered_y t) al' (odd_low ∙ e)))

    side1 : strip_y t.v0 t.v1 ≡ ((P1 ⊻ R1) && le_z p1 (pos 0))
    side1 =
        and_true al.first (and_same
        (xor_same (past t.v0.y t.v1.y) (past (t.v0.y -ℤ h) (t.v1.y -ℤ h) ∙ ap (lt_z (pos 0)) lower1))
        (ap (λ x. le_z x (pos 0)) (sp.cut1 t.v0.x t.v1.x) ∙ le_scaled _ _ sp.w1_pos))
      where
        past : (f g : ℤ) → lt_z (pos 0) (cut f t.v0.z g t.v1.z) ≡ lt_z (pos 0) (end1 sp f g)
        past f g = ap (lt_z (pos 0)) (sp.cut1 f g) ∙ lt_scaled _ _ sp.w1_pos

    side2 : strip_y t.v2 t.v0 ≡ ((P2 ⊻ R2) && le_z p2 (pos 0))
    side2 =
        and_true al.last (and_same
        (xor_same (past t.v0.y t.v2.y) (past (t.v0.y -ℤ h) (t.v2.y -ℤ h) ∙ ap (lt_z (pos 0)) lower2))
        (ap (λ x. le_z x (pos 0)) (cut_turn t.v2.x t.v2.z t.v0.x t.v0.z ∙ sp.cut2 t.v0.x t.v2.x)
        ∙ le_scaled _ _ sp.w2_pos))
      where
        past : (f g : ℤ) → lt_z (pos 0) (cut g t.v2.z f t.v0.z) ≡ lt_z (pos 0) (end2 sp f g)
        past f g = ap (lt_z (pos 0)) (cut_turn g t.v2.z f t.v0.z ∙ sp.cut2 f g) ∙ lt_scaled _ _ sp.w2_pos

    sum_is : sum_y t ≡ (((P1 ⊻ P2) && near) ⊻ ((R1 ⊻ R2) && far) ⊻ ((P1 ⊻ R1) && le_z p1 (pos 0)) ⊻ ((P2 ⊻ R2) && le_z p2 (pos 0)))
    sum_is =
        drop_side (crosses0 t) (crosses0 (lowered_y t)) (strip_y t.v0 t.v1) (strip_y t.v2 t.v0) (strip_y t.v1 t.v2)
        (and_left _ _ al.far)
        ∙ xor_same (xor_same (xor_same (and_same (odd_alone t al) refl) (and_same odd_low refl)) side1) side2

    -- one end lies in the strip
    in_strip : (q k : ℤ) → pos 0 ≤ℤ k → (lt_z (pos 0) q ⊻ lt_z (pos 0) (q -ℤ k)) ≡ true → (pos 0 ≤ℤ q) × (q ≤ℤ k)
    in_strip q k i odd =
        in_span q k i
        (sym (xor_same (lt_is_not_le (pos 0) q) (lt_is_not_le (pos 0) (q -ℤ k)) ∙ xor_not (le_z q (pos 0)) (le_z (q -ℤ k) (pos 0))) ∙ odd)

    found : sum_y t ≡ true → Found p1 q1 w1 p2 q2 w2 h
    found odd =
        chord p1 q1 w1 p2 q2 w2 h (record { w1_pos = sp.w1_pos; w2_pos = sp.w2_pos; h_some = h_some })
        (P1 ⊻ R1) (P2 ⊻ R2) (P1 ⊻ P2) (R1 ⊻ R2) _ _ (crossed_even P1 R1 P2 R2)
        (in_strip q1 (h *ℤ w1) (mul_nonneg h w1 h_some (nonneg_of_pos w1 sp.w1_pos)))
        (in_strip q2 (h *ℤ w2) (mul_nonneg h w2 h_some (nonneg_of_pos w2 sp.w2_pos)))
        (λ e. row_hit t al (odd_alone t al ∙ e)) hit_low (sym sum_is ∙ odd)

    flat_y : (normal_of t).y ≡ pos 0 → area t.v0.x t.v0.z t.v1.x t.v1.z t.v2.x t.v2.z ≡ pos 0
    unfolding normal_of
    flat_y e =
        ring (t.v0.x ∷ t.v0.z ∷ t.v1.x ∷ t.v1.z ∷ t.v2.x ∷ t.v2.z ∷ [])
        (area_e (var 0) (var 1) (var 2) (var 3) (var 4) (var 5)) (Zero ⊖ area_e (var 1) (var 0) (var 3) (var 2) (var 5) (var 4)) refl
        ∙ ap (λ x. pos 0 -ℤ x) e

    claim_alone : Claim t
    claim_alone odd =
        let fd = found odd in
        record {
          turns = λ e. fd.turns (sp.flat t.v0.x t.v1.x t.v2.x (flat_y e));
          seg = seg_of (λ p. p.x) (λ p. p.z) (λ p. p.y) h t sp fd;
        }

  pub step_y : (t : Triangle) → Claim t
  step_y = by_alone height_z {P = Claim} claim_rot claim_together claim_alone
