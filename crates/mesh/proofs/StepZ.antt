-- One step along z from the origin. The half strip between the two rows is all that lies at most 0 along them; the column is all that lies
-- between the two heights at y = 0, however far along. A side crosses the half strip if it crosses the column, at most 0 along. Where a
-- triangle's crossings at the two ends of the step and its sides' crossings of the half strip make an odd number, it stops the step. The
-- triangle is cut by the plane y = 0 here, while crossings speak of its cut by level planes; so the weights of a crossing are taken from
-- one chord to the other.
use Rattle.std.proofs.Common.{◌≡◌, Bool, true, false, ◌&&◌, [], ◌∷◌, ℤ, pos, ◌+ℤ◌, ◌-ℤ◌, ◌*ℤ◌, ◌≤ℤ◌, ◌<ℤ◌, sym, refl, ap, ◌∙◌, subst, true≢false, arith}
use mathlib.Core.Bool.{false≢true}
use Rattle.std.proofs.lemmas.Int.{ints}
use Rattle.std.proofs.lemmas.Bool.{and_left}
use lib.IntN.{*ℤ-zero, zero-*ℤ}
use lib.Signed.{lt_z, le_z}
use Rattle.algebra.specs.Parity.{◌⊻◌}
use Rattle.algebra.proofs.IntRing.{less_mul}
use Rattle.algebra.proofs.Ring.{var, ◌⊕◌, ◌⊖◌, ◌⊗◌, ring}
use Rattle.algebra.proofs.Order.{nonneg_of_pos, gap, of_gap, only_zero, not_zero, plus_nonpos, pos_plus, plus_pos}
use Rattle.algebra.proofs.Order.{mul_nonneg, mul_pos, mul_nonpos, nonneg_of_mul, by_sign, le_scaled}
use Rattle.algebra.proofs.Parity.{xor_assoc, xor_comm, xor_left, xor_self, xor_again, xor_false, xor_same}
use Rattle.algebra.proofs.Tests.{le_true, le_false, lt_true, lt_false, lt_is_not_le, and_same}
use Rattle.geometry.specs.declared.mesh.Point.{Point}
use Rattle.geometry.specs.declared.mesh.Triangle.{Triangle}
use Rattle.geometry.specs.Geometry.{normal_of, plane}
use Rattle.mesh.specs.Means.{Weights, mean}
use Rattle.mesh.proofs.Exprs.{Zero, One}
use Rattle.mesh.proofs.Means.{levels, levels_turned}
use Rattle.mesh.proofs.Chord.{Hit, Found, Strip, chord, chord_same}
use Rattle.mesh.proofs.Split.{Split, cut, cut_turn, area, end1, end2, end1_less, end2_less}
use Rattle.mesh.proofs.Turned.{rot, three_sides, three_rot, nz_rot}
use Rattle.mesh.proofs.Origin.{origin, counts0, odd0, crosses0, counts_turn, odd_rot, crosses0_rot}
use Rattle.mesh.proofs.Row.{Alone, Together, by_alone, height_z, odd_alone, odd_together, crossed}
use Rattle.mesh.proofs.Segments.{Stops, seg_rot, seg_of, in_span}
use Rattle.mesh.proofs.StepY.{crossed_even, drop_side}

-- ---- weights on the triangle are weights on the chord of another plane

on_chord : {gr gs gt : ℤ} (sp : Split gr gs gt) (a b c : ℤ) → a *ℤ gr +ℤ b *ℤ gs +ℤ c *ℤ gt ≡ pos 0
    → (fr fs ft : ℤ) → b *ℤ end1 sp fr fs +ℤ c *ℤ end2 sp fr ft ≡ (a *ℤ fr +ℤ b *ℤ fs +ℤ c *ℤ ft) *ℤ sp.mr
on_chord sp a b c e fr fs ft =
    ring (b ∷ c ∷ sp.ms ∷ sp.mt ∷ sp.mr ∷ fr ∷ fs ∷ ft ∷ [])
    (var 0 ⊗ (var 2 ⊗ var 5 ⊕ var 4 ⊗ var 6) ⊕ var 1 ⊗ (var 3 ⊗ var 5 ⊕ var 4 ⊗ var 7))
    ((var 0 ⊗ var 2 ⊕ var 1 ⊗ var 3) ⊗ var 5 ⊕ (var 0 ⊗ var 6 ⊕ var 1 ⊗ var 7) ⊗ var 4) refl
    ∙ ap (λ x. x *ℤ fr +ℤ (b *ℤ fs +ℤ c *ℤ ft) *ℤ sp.mr) (sp.balance a b c e)
    ∙ ring (a ∷ b ∷ c ∷ sp.mr ∷ fr ∷ fs ∷ ft ∷ [])
    ((var 0 ⊗ var 3) ⊗ var 4 ⊕ (var 1 ⊗ var 5 ⊕ var 2 ⊗ var 6) ⊗ var 3) ((var 0 ⊗ var 4 ⊕ var 1 ⊗ var 5 ⊕ var 2 ⊗ var 6) ⊗ var 3) refl

two_zero : (b c m n : ℤ) → pos 0 ≤ℤ b → pos 0 ≤ℤ c → pos 0 <ℤ m → pos 0 <ℤ n → b *ℤ m +ℤ c *ℤ n ≡ pos 0 → (b ≡ pos 0) × (c ≡ pos 0)
two_zero b c m n hb hc hm hn e =
    by_sign b
    (λ nb. by_sign c
    (λ nc. (only_zero b hb nb, only_zero c hc nc))
    (λ pc. absurd (not_zero _ (plus_pos (b *ℤ m) (c *ℤ n) (mul_nonneg b m hb (nonneg_of_pos m hm)) (mul_pos c n pc hn)) e)))
    (λ pb. absurd (not_zero _ (pos_plus (b *ℤ m) (c *ℤ n) (mul_pos b m pb hm) (mul_nonneg c n hc (nonneg_of_pos n hn))) e))

module _ (f e q : Point → ℤ) (t : Triangle) (sp : Split (f t.v0) (f t.v1) (f t.v2)) (w : Weights) (by : Bool)
    (on_f : mean f w t ≡ pos 0) (on_q : mean q w t ≡ pos 0) (told : by ≡ le_z (mean e w t) (pos 0)) where
  abbrev OnChord : Type 0
  OnChord = Hit
      (end1 sp (e t.v0) (e t.v1)) (end1 sp (q t.v0) (q t.v1)) (end2 sp (e t.v0) (e t.v2)) (end2 sp (q t.v0) (q t.v2)) by

  -- the corner lies off the plane
  off : pos 0 <ℤ sp.mr → OnChord
  off h =
      let on = on_chord sp w.a w.b w.c on_f in
      record {
        m1 = w.b;
        m2 = w.c;
        m1_some = w.b_some;
        m2_some = w.c_some;
        not_none = by_sign (w.b +ℤ w.c)
            (λ n. absurd (
            let z = both_zero w.b w.c w.b_some w.c_some n in
            let am : w.a *ℤ sp.mr ≡ pos 0 =
            sym (sp.balance w.a w.b w.c on_f) ∙ ap (λ x. x *ℤ sp.ms +ℤ w.c *ℤ sp.mt) z.0
            ∙ ap (λ x. pos 0 *ℤ sp.ms +ℤ x *ℤ sp.mt) z.1
            ∙ ring (sp.ms ∷ sp.mt ∷ []) (Zero ⊗ var 0 ⊕ Zero ⊗ var 1) Zero refl in
            not_zero _ (mul_pos w.a sp.mr (only_a w.a w.b w.c w.not_none z.0 z.1) h) am))
            (λ y. y);
        level = on (q t.v0) (q t.v1) (q t.v2) ∙ ap (λ x. x *ℤ sp.mr) on_q ∙ zero-*ℤ sp.mr;
        told = told ∙ sym (le_scaled (mean e w t) sp.mr h) ∙ ap (λ x. le_z x (pos 0)) (sym (on (e t.v0) (e t.v1) (e t.v2)));
      }
    where
      both_zero : (b c : ℤ) → pos 0 ≤ℤ b → pos 0 ≤ℤ c → (b +ℤ c) ≤ℤ pos 0 → (b ≡ pos 0) × (c ≡ pos 0)
      both_zero b c h k n = (omega (arith, ints), omega (arith, ints))

      only_a : (a b c : ℤ) → pos 0 <ℤ (a +ℤ b +ℤ c) → b ≡ pos 0 → c ≡ pos 0 → pos 0 <ℤ a
      only_a a b c n eb ec = omega (arith, ints)

  -- the corner lies on the plane, and is the only point of the triangle there that counts
  at : sp.mr ≤ℤ pos 0 → OnChord
  at n =
      let z : sp.mr ≡ pos 0 = only_zero sp.mr sp.mr_some n in
      let ms_pos = more sp.ms sp.mr sp.w1_pos z in
      let bc = two_zero w.b w.c sp.ms sp.mt w.b_some w.c_some ms_pos (more sp.mt sp.mr sp.w2_pos z)
      (sp.balance w.a w.b w.c on_f ∙ ap (λ x. w.a *ℤ x) z ∙ *ℤ-zero w.a) in
      let on : (k : Point → ℤ)
      → w.a *ℤ end1 sp (k t.v0) (k t.v1) +ℤ pos 0 *ℤ end2 sp (k t.v0) (k t.v2) ≡ mean k w t *ℤ sp.ms =
      λ k. ap (λ x. w.a *ℤ (sp.ms *ℤ k t.v0 +ℤ x *ℤ k t.v1) +ℤ pos 0 *ℤ end2 sp (k t.v0) (k t.v2)) z
      ∙ ring (w.a ∷ sp.ms ∷ k t.v0 ∷ k t.v1 ∷ end2 sp (k t.v0) (k t.v2) ∷ k t.v2 ∷ [])
      (var 0 ⊗ (var 1 ⊗ var 2 ⊕ Zero ⊗ var 3) ⊕ Zero ⊗ var 4) ((var 0 ⊗ var 2 ⊕ Zero ⊗ var 3 ⊕ Zero ⊗ var 5) ⊗ var 1) refl
      ∙ ap (λ x. (w.a *ℤ k t.v0 +ℤ x *ℤ k t.v1 +ℤ pos 0 *ℤ k t.v2) *ℤ sp.ms) (sym bc.0)
      ∙ ap (λ x. (w.a *ℤ k t.v0 +ℤ w.b *ℤ k t.v1 +ℤ x *ℤ k t.v2) *ℤ sp.ms) (sym bc.1) in
      record {
        m1 = w.a;
        m2 = pos 0;
        m1_some = w.a_some;
        m2_some = omega (arith, ints);
        not_none = only_a w.a w.b w.c w.not_none bc.0 bc.1;
        level = on q ∙ ap (λ x. x *ℤ sp.ms) on_q ∙ zero-*ℤ sp.ms;
        told = told ∙ sym (le_scaled (mean e w t) sp.ms ms_pos) ∙ ap (λ x. le_z x (pos 0)) (sym (on e));
      }
    where
      more : (m r : ℤ) → pos 0 <ℤ (m +ℤ r) → r ≡ pos 0 → pos 0 <ℤ m
      more m r h e = omega (arith, ints)

      only_a : (a b c : ℤ) → pos 0 <ℤ (a +ℤ b +ℤ c) → b ≡ pos 0 → c ≡ pos 0 → pos 0 <ℤ (a +ℤ pos 0)
      only_a a b c n eb ec = omega (arith, ints)

  hit_of_weights : OnChord
  hit_of_weights = by_sign sp.mr at off

-- ---- a triangle on one side of the plane y = 0 is not crossed

abbrev height_y : Point → ℤ
height_y p = p.y

beside_alone : (t : Triangle) → Alone height_z t → Together height_y t → odd0 t ≡ false
beside_alone t al to =
    let sp = al.split in
    by_sign t.v0.y
    (λ a. by_sign t.v1.y
    (λ b. by_sign t.v2.y
    (λ c. odd_alone t al ∙ xor_same
    (lt_false _ _ (low sp.ms sp.mr t.v0.y t.v1.y sp.ms_some sp.mr_some a b))
    (lt_false _ _ (low sp.mt sp.mr t.v0.y t.v2.y sp.mt_some sp.mr_some a c)))
    (λ c. absurd (true≢false (sym (xor_same (le_false _ _ c) (le_true _ _ a)) ∙ to.last))))
    (λ b. absurd (true≢false (sym (xor_same (le_true _ _ a) (le_false _ _ b)) ∙ to.first))))
    (λ a. by_sign t.v1.y
    (λ b. absurd (true≢false (sym (xor_same (le_false _ _ a) (le_true _ _ b)) ∙ to.first)))
    (λ b. by_sign t.v2.y
    (λ c. absurd (true≢false (sym (xor_same (le_true _ _ c) (le_false _ _ a)) ∙ to.last)))
    (λ c. odd_alone t al ∙ xor_same
    (lt_true _ _ (high sp.ms sp.mr t.v0.y t.v1.y sp.ms_some sp.mr_some sp.w1_pos a b))
    (lt_true _ _ (high sp.mt sp.mr t.v0.y t.v2.y sp.mt_some sp.mr_some sp.w2_pos a c)))))
  where
    low : (m n y u : ℤ) → pos 0 ≤ℤ m → pos 0 ≤ℤ n → y ≤ℤ pos 0 → u ≤ℤ pos 0 → (m *ℤ y +ℤ n *ℤ u) ≤ℤ pos 0
    low m n y u h k a b = plus_nonpos _ _ (mul_nonpos m y h a) (mul_nonpos n u k b)

    other : (m n : ℤ) → pos 0 <ℤ (m +ℤ n) → m ≤ℤ pos 0 → pos 0 <ℤ n
    other m n h k = omega (arith, ints)

    high : (m n y u : ℤ) → pos 0 ≤ℤ m → pos 0 ≤ℤ n → pos 0 <ℤ (m +ℤ n) → pos 0 <ℤ y → pos 0 <ℤ u → pos 0 <ℤ (m *ℤ y +ℤ n *ℤ u)
    high m n y u h k w a b =
        by_sign m
        (λ c. plus_pos _ _ (mul_nonneg m y h (nonneg_of_pos y a)) (mul_pos n u (other m n w c) b))
        (λ c. pos_plus _ _ (mul_pos m y c a) (mul_nonneg n u k (nonneg_of_pos u b)))

odd_beside : (t : Triangle) → Together height_y t → odd0 t ≡ false
odd_beside = by_alone height_z {P = λ t. Together height_y t → odd0 t ≡ false}
    (λ t c to. sym (odd_rot t) ∙ c (record { first = to.far; far = to.last; last = to.first }))
    (λ t to _. odd_together t to) beside_alone

-- ---- a side that passes a height meets it

side_hit : (ya za yb zb : ℤ) → (le_z za (pos 0) ⊻ le_z zb (pos 0)) ≡ true → Hit ya za yb zb (le_z (cut ya za yb zb) (pos 0))
side_hit ya za yb zb odd =
    by_sign za
    (λ a. by_sign zb
    (λ b. absurd (false≢true (sym (xor_same (le_true za _ a) (le_true zb _ b)) ∙ odd)))
    (λ b.
    let n = gap za (pos 0) a in let s = pos_plus zb _ b n in
    record {
      m1 = zb;
      m2 = pos 0 -ℤ za;
      m1_some = nonneg_of_pos zb b;
      m2_some = n;
      not_none = s;
      level = levels za zb;
      told = ap (λ x. le_z x (pos 0))
          (ring (ya ∷ za ∷ yb ∷ zb ∷ [])
          ((var 0 ⊗ var 3 ⊖ var 2 ⊗ var 1) ⊗ (var 3 ⊖ var 1))
          ((var 3 ⊗ var 0 ⊕ (Zero ⊖ var 1) ⊗ var 2) ⊗ (var 3 ⊕ (Zero ⊖ var 1))) refl)
          ∙ le_scaled _ (zb +ℤ (pos 0 -ℤ za)) s;
    }))
    (λ a. by_sign zb
    (λ b.
    let n = gap zb (pos 0) b in let s = plus_pos _ za n a in
    record {
      m1 = pos 0 -ℤ zb;
      m2 = za;
      m1_some = n;
      m2_some = nonneg_of_pos za a;
      not_none = s;
      level = levels_turned za zb;
      told = ap (λ x. le_z x (pos 0))
          (ring (ya ∷ za ∷ yb ∷ zb ∷ [])
          ((var 0 ⊗ var 3 ⊖ var 2 ⊗ var 1) ⊗ (var 3 ⊖ var 1))
          (((Zero ⊖ var 3) ⊗ var 0 ⊕ var 1 ⊗ var 2) ⊗ ((Zero ⊖ var 3) ⊕ var 1)) refl)
          ∙ le_scaled _ ((pos 0 -ℤ zb) +ℤ za) s;
    })
    (λ b. absurd (false≢true (sym (xor_same (le_false za _ a) (le_false zb _ b)) ∙ odd))))

-- ---- parity

around : (c01 c12 c20 d01 d12 d20 i0 i1 i2 : Bool)
    → ((c01 ⊻ d01 ⊻ (i0 ⊻ i1)) ⊻ (c12 ⊻ d12 ⊻ (i1 ⊻ i2)) ⊻ (c20 ⊻ d20 ⊻ (i2 ⊻ i0))) ≡ ((c01 ⊻ c12 ⊻ c20) ⊻ (d01 ⊻ d12 ⊻ d20))
around c01 c12 c20 d01 d12 d20 i0 i1 i2 = simp (xor_assoc, xor_comm, xor_left, xor_self, xor_again)

interleave : (d e k l x y z u : Bool) → ((d ⊻ x) ⊻ (e ⊻ y) ⊻ ((k ⊻ z) ⊻ (l ⊻ u))) ≡ ((k ⊻ l ⊻ d ⊻ e) ⊻ (x ⊻ y ⊻ z ⊻ u))
interleave d e k l x y z u = simp (xor_assoc, xor_comm, xor_left)

-- past 0 is not at most 0
turned_round : (d : Bool) (m : ℤ) → (d && lt_z (pos 0) m) ≡ (d ⊻ (d && le_z m (pos 0)))
turned_round true m = lt_is_not_le (pos 0) m
turned_round false m = refl

-- ends of a crossed column, in the chord's weights
end_range : (h ga gb za zb ma mb : ℤ) → pos 0 <ℤ (ma +ℤ mb)
    → ((n1 n2 : ℤ) → n1 *ℤ ga +ℤ n2 *ℤ gb ≡ pos 0 → n2 *ℤ ma ≡ n1 *ℤ mb) → Found ga za (pos 1) gb zb (pos 1) h
    → (pos 0 ≤ℤ (ma *ℤ za +ℤ mb *ℤ zb)) × ((ma *ℤ za +ℤ mb *ℤ zb) ≤ℤ (h *ℤ (ma +ℤ mb)))
end_range h ga gb za zb ma mb w bal fd =
    let n1 = fd.n1 in let n2 = fd.n2 in
    let N = n1 *ℤ pos 1 +ℤ n2 *ℤ pos 1 in
    let b : n2 *ℤ ma ≡ n1 *ℤ mb = bal n1 n2 fd.along in
    let same : (ma *ℤ za +ℤ mb *ℤ zb) *ℤ N ≡ (n1 *ℤ za +ℤ n2 *ℤ zb) *ℤ (ma +ℤ mb) =
    ring (ma ∷ mb ∷ za ∷ zb ∷ n1 ∷ n2 ∷ []) ((var 0 ⊗ var 2 ⊕ var 1 ⊗ var 3) ⊗ (var 4 ⊗ One ⊕ var 5 ⊗ One))
    ((var 4 ⊗ var 2 ⊕ var 5 ⊗ var 3) ⊗ (var 0 ⊕ var 1) ⊕ (var 5 ⊗ var 0 ⊖ var 4 ⊗ var 1) ⊗ (var 2 ⊖ var 3)) refl
    ∙ ap (λ x. (n1 *ℤ za +ℤ n2 *ℤ zb) *ℤ (ma +ℤ mb) +ℤ (x -ℤ n1 *ℤ mb) *ℤ (za -ℤ zb)) b
    ∙ ring (ma ∷ mb ∷ za ∷ zb ∷ n1 ∷ n2 ∷ [])
    ((var 4 ⊗ var 2 ⊕ var 5 ⊗ var 3) ⊗ (var 0 ⊕ var 1) ⊕ (var 4 ⊗ var 1 ⊖ var 4 ⊗ var 1) ⊗ (var 2 ⊖ var 3))
    ((var 4 ⊗ var 2 ⊕ var 5 ⊗ var 3) ⊗ (var 0 ⊕ var 1)) refl in
    let room : (h *ℤ (ma +ℤ mb) -ℤ (ma *ℤ za +ℤ mb *ℤ zb)) *ℤ N
    ≡ (h *ℤ N -ℤ (n1 *ℤ za +ℤ n2 *ℤ zb)) *ℤ (ma +ℤ mb) =
    less_mul (h *ℤ (ma +ℤ mb)) (ma *ℤ za +ℤ mb *ℤ zb) N ∙ ap (λ x. h *ℤ (ma +ℤ mb) *ℤ N -ℤ x) same
    ∙ put_back h (ma +ℤ mb) N (n1 *ℤ za +ℤ n2 *ℤ zb) in
    let some = nonneg_of_pos (ma +ℤ mb) w in (
      nonneg_of_mul _ N fd.not_none (subst (λ x. pos 0 ≤ℤ x) (sym same) (mul_nonneg _ (ma +ℤ mb) fd.low some)),
      of_gap _ _ (nonneg_of_mul _ N fd.not_none
          (subst (λ x. pos 0 ≤ℤ x) (sym room) (mul_nonneg _ (ma +ℤ mb) (gap _ _ fd.high) some))),
    )
  where
    put_back : (k m n b : ℤ) → k *ℤ m *ℤ n -ℤ b *ℤ m ≡ (k *ℤ n -ℤ b) *ℤ m
    put_back k m n b = ring (k ∷ m ∷ n ∷ b ∷ []) (var 0 ⊗ var 1 ⊗ var 2 ⊖ var 3 ⊗ var 1) ((var 0 ⊗ var 2 ⊖ var 3) ⊗ var 1) refl

module _ (h : ℤ) (h_some : pos 0 ≤ℤ h) where
  -- ---- a side between two heights

  -- the triangle, seen from the end of the step
  abbrev lower : Point → Point
  lower p = record { x = p.x; y = p.y; z = p.z -ℤ h }

  abbrev pub lowered_z : Triangle → Triangle
  lowered_z t = record { v0 = lower t.v0; v1 = lower t.v1; v2 = lower t.v2 }

  -- the corner lies between the heights
  abbrev lies : Point → Bool
  lies a = le_z a.z (pos 0) ⊻ le_z (a.z -ℤ h) (pos 0)

  abbrev within : Point → Bool
  within a = lies a && lt_z (pos 0) a.y

  -- the side crosses the column between the heights
  abbrev column : Point → Point → Bool
  column a b = counts0 a b ⊻ counts0 (lower a) (lower b) ⊻ (within a ⊻ within b)

  -- and does so at most 0 along
  abbrev pub strip_z : Point → Point → Bool
  strip_z a b = column a b && le_z (cut a.x a.y b.x b.y) (pos 0)

  column_turn : (a b : Point) → column a b ≡ column b a
  column_turn a b = xor_same (xor_same (counts_turn a b) (counts_turn (lower a) (lower b))) (xor_comm (within a) (within b))

  pub strip_z_turn : (a b : Point) → strip_z a b ≡ strip_z b a
  strip_z_turn a b = and_same (column_turn a b) (ap (λ x. le_z x (pos 0)) (cut_turn a.x a.y b.x b.y))

  pub strip_z_none : (a : Point) → strip_z a a ≡ false
  strip_z_none a =
      and_left _ _ (xor_same
      (xor_same (and_left _ _ (xor_self (le_z a.z (pos 0)))) (and_left _ _ (xor_self (le_z (a.z -ℤ h) (pos 0)))))
      (xor_self (within a)))

  module _ (a b : Point) where
    abbrev D : Bool
    D = le_z a.z (pos 0) ⊻ le_z b.z (pos 0)

    abbrev E : Bool
    E = le_z (a.z -ℤ h) (pos 0) ⊻ le_z (b.z -ℤ h) (pos 0)

    abbrev C : Bool
    C = le_z (cut a.y a.z b.y b.z) (pos 0)

    abbrev B : Bool
    B = le_z (cut a.y (a.z -ℤ h) b.y (b.z -ℤ h)) (pos 0)

    even : (lies a ⊻ lies b ⊻ D ⊻ E) ≡ false
    even = crossed_even (le_z a.z (pos 0)) (le_z (a.z -ℤ h) (pos 0)) (le_z b.z (pos 0)) (le_z (b.z -ℤ h) (pos 0))

    column_is : column a b ≡ ((D && C) ⊻ (E && B) ⊻ (lies a && le_z a.y (pos 0)) ⊻ (lies b && le_z b.y (pos 0)))
    column_is =
        xor_same
        (xor_same
        (turned_round D (cut a.y a.z b.y b.z))
        (turned_round E (cut a.y (a.z -ℤ h) b.y (b.z -ℤ h))))
        (xor_same (turned_round (lies a) a.y) (turned_round (lies b) b.y))
        ∙ interleave D E (lies a) (lies b) (D && C) (E && B) (lies a && le_z a.y (pos 0)) (lies b && le_z b.y (pos 0))
        ∙ ap (λ x. x ⊻ ((D && C) ⊻ (E && B) ⊻ (lies a && le_z a.y (pos 0)) ⊻ (lies b && le_z b.y (pos 0)))) even

    times_one : (q : ℤ) → q -ℤ h ≡ q -ℤ h *ℤ pos 1
    times_one q = ring (q ∷ h ∷ []) (var 0 ⊖ var 1) (var 0 ⊖ var 1 ⊗ One) refl

    one_more : h ≡ h *ℤ pos 1
    one_more = ring (h ∷ []) (var 0) (var 0 ⊗ One) refl

    range1 : (p : Point) → lies p ≡ true → (pos 0 ≤ℤ p.z) × (p.z ≤ℤ (h *ℤ pos 1))
    range1 p e = let r = in_span p.z h h_some e in (r.0, subst (λ x. p.z ≤ℤ x) one_more r.1)

    hit_up : E ≡ true → Hit a.y (a.z -ℤ h *ℤ pos 1) b.y (b.z -ℤ h *ℤ pos 1) B
    hit_up e =
        subst (λ x. Hit a.y x b.y (b.z -ℤ h *ℤ pos 1) B) (times_one a.z)
        (subst (λ x. Hit a.y (a.z -ℤ h) b.y x B) (times_one b.z)
        (side_hit a.y (a.z -ℤ h) b.y (b.z -ℤ h) e))

    unit : Strip (pos 1) (pos 1) h
    unit = record { w1_pos = omega (arith, ints); w2_pos = omega (arith, ints); h_some = h_some }

    -- a side that crosses the column meets it
    in_column : column a b ≡ true → Found a.y a.z (pos 1) b.y b.z (pos 1) h
    in_column odd =
        chord a.y a.z (pos 1) b.y b.z (pos 1) h unit (lies a) (lies b) D E C B even (range1 a) (range1 b)
        (side_hit a.y a.z b.y b.z) hit_up (sym column_is ∙ odd)

    -- a side with both ends on one side of the column does not
    not_across : (le_z a.y (pos 0) ⊻ le_z b.y (pos 0)) ≡ false → column a b ≡ false
    not_across e =
        column_is ∙ chord_same a.y a.z (pos 1) b.y b.z (pos 1) h unit (lies a) (lies b) D E C B even (range1 a) (range1 b)
        (side_hit a.y a.z b.y b.z) hit_up e

  -- ---- the step

  abbrev pub sum_z : Triangle → Bool
  sum_z t = crosses0 t ⊻ crosses0 (lowered_z t) ⊻ three_sides strip_z t

  abbrev Claim : Triangle → Type 0
  Claim t = sum_z t ≡ true → Stops (normal_of t).z (λ p. p.x) (λ p. p.y) (λ p. p.z) h t

  columns : (t : Triangle) → three_sides column t ≡ (odd0 t ⊻ odd0 (lowered_z t))
  columns t =
      around (counts0 t.v0 t.v1) (counts0 t.v1 t.v2) (counts0 t.v2 t.v0)
      (counts0 (lower t.v0) (lower t.v1))
      (counts0 (lower t.v1) (lower t.v2))
      (counts0 (lower t.v2) (lower t.v0))
      (within t.v0) (within t.v1) (within t.v2)

  claim_rot : (t : Triangle) → Claim (rot t) → Claim t
  claim_rot t c odd =
      let m = c (xor_same (xor_same (crosses0_rot t) (crosses0_rot (lowered_z t))) (three_rot strip_z t) ∙ odd) in
      record { turns = λ e. m.turns (nz_rot t ∙ e); seg = seg_rot _ _ _ h t m.seg }

  module _ (t : Triangle) (al : Alone height_y t) where
    abbrev sp : Split t.v0.y t.v1.y t.v2.y
    sp = al.split

    abbrev p1 : ℤ
    p1 = end1 sp t.v0.x t.v1.x

    abbrev p2 : ℤ
    p2 = end2 sp t.v0.x t.v2.x

    abbrev q1 : ℤ
    q1 = end1 sp t.v0.z t.v1.z

    abbrev q2 : ℤ
    q2 = end2 sp t.v0.z t.v2.z

    abbrev w1 : ℤ
    w1 = sp.ms +ℤ sp.mr

    abbrev w2 : ℤ
    w2 = sp.mt +ℤ sp.mr

    abbrev near : Bool
    near = le_z (pos 0) (plane origin t *ℤ (normal_of t).x)

    abbrev far : Bool
    far = le_z (pos 0) (plane origin (lowered_z t) *ℤ (normal_of (lowered_z t)).x)

    hit : odd0 t ≡ true → Hit p1 q1 p2 q2 near
    hit e =
        let o = crossed t e in
        hit_of_weights height_y (λ p. p.x) (λ p. p.z) t sp o.w _ o.on_y o.on_z o.told

    hit_over : odd0 (lowered_z t) ≡ true → Hit p1 (q1 -ℤ h *ℤ w1) p2 (q2 -ℤ h *ℤ w2) far
    hit_over e =
        let o = crossed (lowered_z t) e in
        subst (λ x. Hit p1 x p2 (q2 -ℤ h *ℤ w2) far) (end1_less sp t.v0.z t.v1.z h)
        (subst (λ x. Hit p1 (end1 sp (t.v0.z -ℤ h) (t.v1.z -ℤ h)) p2 x far) (end2_less sp t.v0.z t.v2.z h)
        (hit_of_weights height_y (λ p. p.x) (λ p. p.z) (lowered_z t) sp o.w _ o.on_y o.on_z o.told))

    none : column t.v1 t.v2 ≡ false
    none = not_across t.v1 t.v2 al.far

    even_sides : (column t.v0 t.v1 ⊻ column t.v2 t.v0 ⊻ odd0 t ⊻ odd0 (lowered_z t)) ≡ false
    even_sides =
        paired (column t.v0 t.v1) (column t.v2 t.v0) (odd0 t) (odd0 (lowered_z t))
        (sym (ap (λ x. column t.v0 t.v1 ⊻ x ⊻ column t.v2 t.v0) none) ∙ columns t)
      where
        paired : (k l d e : Bool) → (k ⊻ false ⊻ l) ≡ (d ⊻ e) → (k ⊻ l ⊻ d ⊻ e) ≡ false
        paired k l d e h =
            xor_assoc (k ⊻ l) d e ∙ ap (λ x. x ⊻ (d ⊻ e)) (sym (ap (λ x. x ⊻ l) (xor_false k)) ∙ h) ∙ xor_self (d ⊻ e)

    range_1 : column t.v0 t.v1 ≡ true → (pos 0 ≤ℤ q1) × (q1 ≤ℤ (h *ℤ w1))
    range_1 e =
        end_range h t.v0.y t.v1.y t.v0.z t.v1.z sp.ms sp.mr sp.w1_pos bal (in_column t.v0 t.v1 e)
      where
        bal : (n1 n2 : ℤ) → n1 *ℤ t.v0.y +ℤ n2 *ℤ t.v1.y ≡ pos 0 → n2 *ℤ sp.ms ≡ n1 *ℤ sp.mr
        bal n1 n2 f =
            ring (n2 ∷ sp.ms ∷ sp.mt ∷ []) (var 0 ⊗ var 1) (var 0 ⊗ var 1 ⊕ Zero ⊗ var 2) refl
            ∙ sp.balance n1 n2 (pos 0)
            (ap (λ x. x +ℤ pos 0 *ℤ t.v2.y) f ∙ ring (t.v2.y ∷ []) (Zero ⊕ Zero ⊗ var 0) Zero refl)

    range_2 : column t.v2 t.v0 ≡ true → (pos 0 ≤ℤ q2) × (q2 ≤ℤ (h *ℤ w2))
    range_2 e =
        end_range h t.v0.y t.v2.y t.v0.z t.v2.z sp.mt sp.mr sp.w2_pos bal
        (in_column t.v0 t.v2 (column_turn t.v0 t.v2 ∙ e))
      where
        bal : (n1 n2 : ℤ) → n1 *ℤ t.v0.y +ℤ n2 *ℤ t.v2.y ≡ pos 0 → n2 *ℤ sp.mt ≡ n1 *ℤ sp.mr
        bal n1 n2 f =
            ring (n2 ∷ sp.ms ∷ sp.mt ∷ []) (var 0 ⊗ var 2) (Zero ⊗ var 1 ⊕ var 0 ⊗ var 2) refl
            ∙ sp.balance n1 (pos 0) n2
            (ring (n1 ∷ n2 ∷ t.v0.y ∷ t.v1.y ∷ t.v2.y ∷ [])
            (var 0 ⊗ var 2 ⊕ Zero ⊗ var 3 ⊕ var 1 ⊗ var 4) (var 0 ⊗ var 2 ⊕ var 1 ⊗ var 4) refl ∙ f)

    sum_is : sum_z t
        ≡ ((odd0 t && near) ⊻ (odd0 (lowered_z t) && far)
        ⊻ (column t.v0 t.v1 && le_z p1 (pos 0)) ⊻ (column t.v2 t.v0 && le_z p2 (pos 0)))
    sum_is =
        drop_side (crosses0 t) (crosses0 (lowered_z t)) (strip_z t.v0 t.v1) (strip_z t.v2 t.v0) (strip_z t.v1 t.v2)
        (and_left _ _ none)
        ∙ xor_same
        (ap (λ x. crosses0 t ⊻ crosses0 (lowered_z t) ⊻ (column t.v0 t.v1 && x))
        (ap (λ x. le_z x (pos 0)) (sp.cut1 t.v0.x t.v1.x) ∙ le_scaled _ _ sp.w1_pos))
        (ap (λ x. column t.v2 t.v0 && x)
        (ap (λ x. le_z x (pos 0)) (cut_turn t.v2.x t.v2.y t.v0.x t.v0.y ∙ sp.cut2 t.v0.x t.v2.x)
        ∙ le_scaled _ _ sp.w2_pos))

    flat_z : (normal_of t).z ≡ pos 0 → area t.v0.x t.v0.y t.v1.x t.v1.y t.v2.x t.v2.y ≡ pos 0
    unfolding normal_of
    flat_z e = e

    claim_alone : Claim t
    claim_alone odd =
        let fd = chord p1 q1 w1 p2 q2 w2 h (record { w1_pos = sp.w1_pos; w2_pos = sp.w2_pos; h_some = h_some })
        (column t.v0 t.v1) (column t.v2 t.v0) (odd0 t) (odd0 (lowered_z t)) _ _
        even_sides range_1 range_2 hit hit_over (sym sum_is ∙ odd) in
        record {
          turns = λ e. fd.turns (sp.flat t.v0.x t.v1.x t.v2.x (flat_z e));
          seg = seg_of (λ p. p.x) height_y (λ p. p.z) h t sp fd;
        }

  claim_together : (t : Triangle) → Together height_y t → Claim t
  claim_together t to odd =
      absurd (false≢true (sym (xor_same
      (xor_same
      (and_left _ _ (odd_beside t to))
      (and_left _ _ (odd_beside (lowered_z t) (record { first = to.first; far = to.far; last = to.last }))))
      (xor_same
      (xor_same (and_left _ _ (not_across t.v0 t.v1 to.first)) (and_left _ _ (not_across t.v1 t.v2 to.far)))
      (and_left _ _ (not_across t.v2 t.v0 to.last)))) ∙ odd))

  pub step_z : (t : Triangle) → Claim t
  step_z = by_alone height_y {P = Claim} claim_rot claim_together claim_alone
