-- A chord against a half strip of the plane. The chord's ends lie p/w along and q/w up, with w positive; the strip is all that lies at
-- most 0 along and from 0 to h up. Where the ends in the strip and the chord's crossings of its two long edges make an odd number, the
-- chord crosses the short edge. The steps along y and z apply this to the chord in which a triangle cuts the plane of the step.
use Rattle.std.proofs.Common.{◌≡◌, Bool, true, false, ◌&&◌, List, [], ◌∷◌, ℤ, pos, ◌+ℤ◌, ◌-ℤ◌, ◌*ℤ◌, ◌≤ℤ◌, ◌<ℤ◌, sym, refl, ap, ◌∙◌, subst, true≢false, arith}
use mathlib.Core.Bool.{false≢true}
use Rattle.std.proofs.lemmas.Int.{ints, by_lt_z}
use lib.IntN.{zero-*ℤ, *ℤ_comm, +ℤ_comm}
use lib.Signed.{le_z}
use Rattle.algebra.specs.Parity.{◌⊻◌}
use Rattle.algebra.proofs.IntRing.{mul_zero}
use Rattle.algebra.proofs.Ring.{var, ◌⊕◌, ◌⊖◌, ◌⊗◌, ring}
use Rattle.algebra.proofs.Order.{nonneg_of_pos, gap, only_zero, not_zero, lt_not_le, plus_nonpos, pos_plus, plus_pos}
use Rattle.algebra.proofs.Order.{mul_nonneg, mul_pos, mul_nonpos, mul_neg, pos_of_mul, nonpos_of_mul, by_sign}
use Rattle.algebra.proofs.Parity.{xor_assoc, xor_comm, xor_left, xor_same}
use Rattle.std.proofs.lemmas.Bool.{false_from_ne_true}
use Rattle.algebra.proofs.Tests.{le_true, le_false}
use Rattle.mesh.proofs.Exprs.{Zero}
use Rattle.mesh.proofs.Means.{levels}

-- the chord meets the line q = 0, at a point that is at most 0 along exactly if `by`
pub record Hit (p1 q1 p2 q2 : ℤ) (by : Bool) : Type 0 where
  pub m1 : ℤ
  pub m2 : ℤ
  pub m1_some : pos 0 ≤ℤ m1
  pub m2_some : pos 0 ≤ℤ m2
  pub not_none : pos 0 <ℤ (m1 +ℤ m2)
  pub level : m1 *ℤ q1 +ℤ m2 *ℤ q2 ≡ pos 0
  pub told : by ≡ le_z (m1 *ℤ p1 +ℤ m2 *ℤ p2) (pos 0)

-- a point of the chord on the line p = 0, from 0 to h up; and the chord does not lie along that line
pub record Found (p1 q1 w1 p2 q2 w2 h : ℤ) : Type 0 where
  pub n1 : ℤ
  pub n2 : ℤ
  pub n1_some : pos 0 ≤ℤ n1
  pub n2_some : pos 0 ≤ℤ n2
  pub not_none : pos 0 <ℤ (n1 *ℤ w1 +ℤ n2 *ℤ w2)
  pub along : n1 *ℤ p1 +ℤ n2 *ℤ p2 ≡ pos 0
  pub low : pos 0 ≤ℤ (n1 *ℤ q1 +ℤ n2 *ℤ q2)
  pub high : (n1 *ℤ q1 +ℤ n2 *ℤ q2) ≤ℤ (h *ℤ (n1 *ℤ w1 +ℤ n2 *ℤ w2))
  pub turns : p2 *ℤ w1 -ℤ p1 *ℤ w2 ≡ pos 0 → ⊥

pub record Strip (w1 w2 h : ℤ) : Type 0 where
  pub w1_pos : pos 0 <ℤ w1
  pub w2_pos : pos 0 <ℤ w2
  pub h_some : pos 0 ≤ℤ h

abbrev turn : ℤ → ℤ → ℤ → ℤ → ℤ
turn p1 q1 p2 q2 = p2 *ℤ q1 -ℤ p1 *ℤ q2

-- ---- steps of the first degree, with the products as unknowns

lin_pos : (s a z : ℤ) → s ≡ a -ℤ z → z ≡ pos 0 → pos 0 <ℤ a → pos 0 <ℤ s
lin_pos s a z e k h = omega (arith, ints)

lin_nonpos : (s a z : ℤ) → s ≡ a -ℤ z → z ≡ pos 0 → a ≤ℤ pos 0 → s ≤ℤ pos 0
lin_nonpos s a z e k h = omega (arith, ints)

flip_pos : (a : ℤ) → a <ℤ pos 0 → pos 0 <ℤ (pos 0 -ℤ a)
flip_pos a h = omega (arith, ints)

other_pos : (a b : ℤ) → pos 0 <ℤ (a +ℤ b) → b ≤ℤ pos 0 → pos 0 <ℤ a
other_pos a b h k = omega (arith, ints)

sum_neg : (s a b : ℤ) → s ≡ a +ℤ b → s ≡ pos 0 → a <ℤ pos 0 → b ≡ pos 0 → ⊥
sum_neg s a b e k h z = omega (arith, ints)

nonpos_of_neg : (a : ℤ) → a <ℤ pos 0 → a ≤ℤ pos 0
nonpos_of_neg a h = omega (arith, ints)

more : (s t : ℤ) → pos 0 <ℤ s → t ≤ℤ pos 0 → pos 0 <ℤ (s -ℤ t)
more s t h k = omega (arith, ints)

fall_more : (t q k : ℤ) → t ≡ q -ℤ k → q <ℤ pos 0 → pos 0 ≤ℤ k → t <ℤ pos 0
fall_more t q k e a b = omega (arith, ints)

fall_back : (t s q k : ℤ) → t ≡ pos 0 -ℤ q → s ≡ q -ℤ k → pos 0 <ℤ s → pos 0 ≤ℤ k → t <ℤ pos 0
fall_back t s q k e f a b = omega (arith, ints)

fall_here : (t s : ℤ) → t ≡ pos 0 -ℤ s → pos 0 <ℤ s → t <ℤ pos 0
fall_here t s e a = omega (arith, ints)

drop_neg : (q k : ℤ) → q <ℤ pos 0 → pos 0 ≤ℤ k → (q -ℤ k) <ℤ pos 0
drop_neg q k a b = omega (arith, ints)

rise_neg : (q k : ℤ) → (pos 0 -ℤ (q -ℤ k)) <ℤ pos 0 → pos 0 ≤ℤ k → (pos 0 -ℤ q) <ℤ pos 0
rise_neg q k a b = omega (arith, ints)

room : (q k : ℤ) → q ≤ℤ k → pos 0 ≤ℤ (pos 0 -ℤ (q -ℤ k))
room q k a = omega (arith, ints)

under_top : (s q k : ℤ) → s ≡ q -ℤ k → s ≤ℤ pos 0 → q ≤ℤ k
under_top s q k e a = omega (arith, ints)

turn_less : (t a b : ℤ) → t ≡ a -ℤ b → pos 0 ≤ℤ a → b ≤ℤ pos 0 → pos 0 ≤ℤ t
turn_less t a b e h k = omega (arith, ints)

nonpos_mul : (a b : ℤ) → a ≤ℤ pos 0 → pos 0 ≤ℤ b → (a *ℤ b) ≤ℤ pos 0
nonpos_mul a b h k = subst (λ x. x ≤ℤ pos 0) (*ℤ_comm b a) (mul_nonpos b a k h)

-- ---- where the chord crosses q = 0

module _ (m1 m2 p1 q1 p2 q2 : ℤ) where
  abbrev env : List ℤ
  env = m1 ∷ m2 ∷ p1 ∷ q1 ∷ p2 ∷ q2 ∷ []

  left_id : (m1 *ℤ p1 +ℤ m2 *ℤ p2) *ℤ (pos 0 -ℤ q1) ≡ m2 *ℤ (pos 0 -ℤ turn p1 q1 p2 q2) -ℤ p1 *ℤ (m1 *ℤ q1 +ℤ m2 *ℤ q2)
  left_id =
      let M1 = var 0 in let M2 = var 1 in let P1 = var 2 in let Q1 = var 3 in let P2 = var 4 in let Q2 = var 5 in
      ring env ((M1 ⊗ P1 ⊕ M2 ⊗ P2) ⊗ (Zero ⊖ Q1)) (M2 ⊗ (Zero ⊖ (P2 ⊗ Q1 ⊖ P1 ⊗ Q2)) ⊖ P1 ⊗ (M1 ⊗ Q1 ⊕ M2 ⊗ Q2)) refl

  right_id : (m1 *ℤ p1 +ℤ m2 *ℤ p2) *ℤ (pos 0 -ℤ q2) ≡ m1 *ℤ turn p1 q1 p2 q2 -ℤ p2 *ℤ (m1 *ℤ q1 +ℤ m2 *ℤ q2)
  right_id =
      let M1 = var 0 in let M2 = var 1 in let P1 = var 2 in let Q1 = var 3 in let P2 = var 4 in let Q2 = var 5 in
      ring env ((M1 ⊗ P1 ⊕ M2 ⊗ P2) ⊗ (Zero ⊖ Q2)) (M1 ⊗ (P2 ⊗ Q1 ⊖ P1 ⊗ Q2) ⊖ P2 ⊗ (M1 ⊗ Q1 ⊕ M2 ⊗ Q2)) refl

-- the weight of the second end is not 0 where the first end lies off the line
second : (p1 q1 p2 q2 : ℤ) (c : Bool) → q1 <ℤ pos 0 → (h : Hit p1 q1 p2 q2 c) → pos 0 <ℤ h.m2
second p1 q1 p2 q2 c below h =
    by_sign h.m2
    (λ n. absurd (sum_neg _ (h.m1 *ℤ q1) (h.m2 *ℤ q2) refl h.level
    (mul_neg h.m1 q1 (other_pos h.m1 h.m2 h.not_none n) below)
    (ap (λ x. x *ℤ q2) (only_zero h.m2 h.m2_some n) ∙ zero-*ℤ q2)))
    (λ y. y)

-- the crossing of q = 0 lies past 0 where the first end lies below and the chord passes below the origin
left : (p1 q1 p2 q2 : ℤ) (c : Bool) → q1 <ℤ pos 0 → turn p1 q1 p2 q2 <ℤ pos 0 → Hit p1 q1 p2 q2 c → c ≡ false
left p1 q1 p2 q2 c below under h =
    let S : ℤ = h.m1 *ℤ p1 +ℤ h.m2 *ℤ p2 in
    let g = lin_pos _ _ _ (left_id h.m1 h.m2 p1 q1 p2 q2) (mul_zero p1 _ h.level)
    (mul_pos h.m2 (pos 0 -ℤ turn p1 q1 p2 q2) (second p1 q1 p2 q2 c below h) (flip_pos _ under)) in
    h.told ∙ le_false S (pos 0) (pos_of_mul S (pos 0 -ℤ q1) (flip_pos q1 below) g)

-- and at 0 or before where the second end lies below
right : (p1 q1 p2 q2 : ℤ) (c : Bool) → q2 <ℤ pos 0 → turn p1 q1 p2 q2 <ℤ pos 0 → Hit p1 q1 p2 q2 c → c ≡ true
right p1 q1 p2 q2 c below under h =
    let S : ℤ = h.m1 *ℤ p1 +ℤ h.m2 *ℤ p2 in
    let g = lin_nonpos _ _ _ (right_id h.m1 h.m2 p1 q1 p2 q2) (mul_zero p2 _ h.level)
    (mul_nonpos h.m1 (turn p1 q1 p2 q2) h.m1_some (nonpos_of_neg _ under)) in
    h.told ∙ le_true S (pos 0) (nonpos_of_mul S (pos 0 -ℤ q2) (flip_pos q2 below) g)

all_before : (p1 q1 p2 q2 : ℤ) (c : Bool) → p1 ≤ℤ pos 0 → p2 ≤ℤ pos 0 → Hit p1 q1 p2 q2 c → c ≡ true
all_before p1 q1 p2 q2 c a b h =
    h.told ∙ le_true _ _ (plus_nonpos _ _ (mul_nonpos h.m1 p1 h.m1_some a) (mul_nonpos h.m2 p2 h.m2_some b))

all_past : (p1 q1 p2 q2 : ℤ) (c : Bool) → pos 0 <ℤ p1 → pos 0 <ℤ p2 → Hit p1 q1 p2 q2 c → c ≡ false
all_past p1 q1 p2 q2 c a b h =
    h.told ∙ le_false _ _ (by_sign h.m2
    (λ n. pos_plus _ _
    (mul_pos h.m1 p1 (other_pos h.m1 h.m2 h.not_none n) a)
    (mul_nonneg h.m2 p2 h.m2_some (nonneg_of_pos p2 b)))
    (λ y. plus_pos _ _ (mul_nonneg h.m1 p1 h.m1_some (nonneg_of_pos p1 a)) (mul_pos h.m2 p2 y b)))

-- ---- parity

and_when : (d c : Bool) → (d ≡ true → c ≡ true) → (d && c) ≡ d
and_when true c h = h refl
and_when false c h = refl

and_never : (d c : Bool) → (d ≡ true → c ≡ false) → (d && c) ≡ false
and_never true c h = h refl
and_never false c h = refl

four : {a b c d a' b' c' d' : Bool} → a ≡ a' → b ≡ b' → c ≡ c' → d ≡ d' → (a ⊻ b ⊻ c ⊻ d) ≡ (a' ⊻ b' ⊻ c' ⊻ d')
four e f g h = xor_same (xor_same (xor_same e f) g) h

pairs_swap : (k l d e : Bool) → (d ⊻ e ⊻ k ⊻ l) ≡ (k ⊻ l ⊻ d ⊻ e)
pairs_swap k l d e = simp (xor_assoc, xor_comm, xor_left)

swap_first : (a b c d : Bool) → (a ⊻ b ⊻ c ⊻ d) ≡ (b ⊻ a ⊻ c ⊻ d)
swap_first a b c d = ap (λ x. x ⊻ c ⊻ d) (xor_comm a b)

swap_last : (a b c d : Bool) → (a ⊻ b ⊻ c ⊻ d) ≡ (a ⊻ b ⊻ d ⊻ c)
swap_last a b c d = xor_assoc (a ⊻ b) c d ∙ ap (λ x. (a ⊻ b) ⊻ x) (xor_comm c d) ∙ sym (xor_assoc (a ⊻ b) d c)

module _ (p1 p2 : ℤ) (J1 J2 Dn Df Cn Cf : Bool) (even : (J1 ⊻ J2 ⊻ Dn ⊻ Df) ≡ false) where
  -- the chord passes the line p = 0 beyond the near edge: nothing is odd
  outside : (n1 n2 f1 f2 : ℤ) → p1 ≤ℤ pos 0 → pos 0 <ℤ p2 → turn p1 n1 p2 n2 <ℤ pos 0 → turn p1 f1 p2 f2 <ℤ pos 0
      → (n1 <ℤ pos 0 → f1 <ℤ pos 0) → (n2 <ℤ pos 0 → f2 <ℤ pos 0)
      → (J1 ≡ true → pos 0 ≤ℤ n1) → (J2 ≡ true → pos 0 ≤ℤ n2)
      → (Dn ≡ true → Hit p1 n1 p2 n2 Cn) → (Df ≡ true → Hit p1 f1 p2 f2 Cf)
      → ((Dn && Cn) ⊻ (Df && Cf) ⊻ (J1 && le_z p1 (pos 0)) ⊻ (J2 && le_z p2 (pos 0))) ≡ false
  outside n1 n2 f1 f2 a b un uf g1 g2 j1 j2 hn hf =
      by_lt_z n1 (pos 0)
      (λ (low : n1 <ℤ pos 0).
      four
      (and_never Dn Cn (λ d. left p1 n1 p2 n2 Cn low un (hn d)))
      (and_never Df Cf (λ d. left p1 f1 p2 f2 Cf (g1 low) uf (hf d)))
      (ap (λ k. k && le_z p1 (pos 0)) (false_from_ne_true J1 (λ k. lt_not_le n1 (pos 0) low (j1 k))))
      (and_never J2 _ (λ _. le_false p2 (pos 0) b)))
      (λ (high : pos 0 ≤ℤ n1).
      let low : n2 <ℤ pos 0 = by_lt_z n2 (pos 0) (λ l. l) (λ n. absurd (lt_not_le _ _ un
      (turn_less _ (p2 *ℤ n1) (p1 *ℤ n2) refl (mul_nonneg p2 n1 (nonneg_of_pos p2 b) high) (nonpos_mul p1 n2 a n)))) in
      let none = false_from_ne_true J2 (λ k. lt_not_le n2 (pos 0) low (j2 k)) in
      four
      (and_when Dn Cn (λ d. right p1 n1 p2 n2 Cn low un (hn d)))
      (and_when Df Cf (λ d. right p1 f1 p2 f2 Cf (g2 low) uf (hf d)))
      (and_when J1 _ (λ _. le_true p1 (pos 0) a))
      (and_never J2 _ (λ _. le_false p2 (pos 0) b) ∙ sym none)
      ∙ pairs_swap J1 J2 Dn Df ∙ even)

-- ---- the chord

mirror : (p1 q1 p2 q2 : ℤ) (c : Bool) → Hit p1 q1 p2 q2 c → Hit p1 (pos 0 -ℤ q1) p2 (pos 0 -ℤ q2) c
mirror p1 q1 p2 q2 c h = record {
  m1 = h.m1;
  m2 = h.m2;
  m1_some = h.m1_some;
  m2_some = h.m2_some;
  not_none = h.not_none;
  level =
      ring (h.m1 ∷ h.m2 ∷ q1 ∷ q2 ∷ [])
      (var 0 ⊗ (Zero ⊖ var 2) ⊕ var 1 ⊗ (Zero ⊖ var 3)) (Zero ⊖ (var 0 ⊗ var 2 ⊕ var 1 ⊗ var 3)) refl
      ∙ ap (λ x. pos 0 -ℤ x) h.level;
  told = h.told;
}

turned : (p1 q1 p2 q2 : ℤ) (c : Bool) → Hit p1 q1 p2 q2 c → Hit p2 q2 p1 q1 c
turned p1 q1 p2 q2 c h = record {
  m1 = h.m2;
  m2 = h.m1;
  m1_some = h.m2_some;
  m2_some = h.m1_some;
  not_none = subst (λ x. pos 0 <ℤ x) (+ℤ_comm h.m1 h.m2) h.not_none;
  level = +ℤ_comm (h.m2 *ℤ q2) (h.m1 *ℤ q1) ∙ h.level;
  told = h.told ∙ ap (λ x. le_z x (pos 0)) (+ℤ_comm (h.m1 *ℤ p1) (h.m2 *ℤ p2));
}

found_turned : (p1 q1 w1 p2 q2 w2 h : ℤ) → Found p2 q2 w2 p1 q1 w1 h → Found p1 q1 w1 p2 q2 w2 h
found_turned p1 q1 w1 p2 q2 w2 h f = record {
  n1 = f.n2;
  n2 = f.n1;
  n1_some = f.n2_some;
  n2_some = f.n1_some;
  not_none = subst (λ x. pos 0 <ℤ x) (+ℤ_comm (f.n1 *ℤ w2) (f.n2 *ℤ w1)) f.not_none;
  along = +ℤ_comm (f.n2 *ℤ p1) (f.n1 *ℤ p2) ∙ f.along;
  low = subst (λ x. pos 0 ≤ℤ x) (+ℤ_comm (f.n1 *ℤ q2) (f.n2 *ℤ q1)) f.low;
  high = subst (λ x. x ≤ℤ (h *ℤ (f.n2 *ℤ w1 +ℤ f.n1 *ℤ w2))) (+ℤ_comm (f.n1 *ℤ q2) (f.n2 *ℤ q1))
      (subst (λ x. (f.n1 *ℤ q2 +ℤ f.n2 *ℤ q1) ≤ℤ (h *ℤ x)) (+ℤ_comm (f.n1 *ℤ w2) (f.n2 *ℤ w1)) f.high);
  turns = λ e. f.turns (opposite (p1 *ℤ w2) (p2 *ℤ w1) e);
}
  where
    opposite : (a b : ℤ) → b -ℤ a ≡ pos 0 → a -ℤ b ≡ pos 0
    opposite a b e = omega (arith, ints)

-- the chord's fall from its crossing of p = 0, and what a strip's height adds
width_pos : (p1 w1 p2 w2 : ℤ) → p1 ≤ℤ pos 0 → pos 0 <ℤ p2 → pos 0 <ℤ w1 → pos 0 <ℤ w2 → pos 0 <ℤ turn p1 w1 p2 w2
width_pos p1 w1 p2 w2 a b u v = more (p2 *ℤ w1) (p1 *ℤ w2) (mul_pos p2 w1 b u) (nonpos_mul p1 w2 a (nonneg_of_pos w2 v))

turn_up : (p1 q1 w1 p2 q2 w2 h : ℤ) → turn p1 (q1 -ℤ h *ℤ w1) p2 (q2 -ℤ h *ℤ w2) ≡ turn p1 q1 p2 q2 -ℤ h *ℤ turn p1 w1 p2 w2
turn_up p1 q1 w1 p2 q2 w2 h =
    let P1 = var 0 in let Q1 = var 1 in let W1 = var 2 in let P2 = var 3 in let Q2 = var 4 in let W2 = var 5 in let H = var 6 in
    ring (p1 ∷ q1 ∷ w1 ∷ p2 ∷ q2 ∷ w2 ∷ h ∷ [])
    (P2 ⊗ (Q1 ⊖ H ⊗ W1) ⊖ P1 ⊗ (Q2 ⊖ H ⊗ W2)) ((P2 ⊗ Q1 ⊖ P1 ⊗ Q2) ⊖ H ⊗ (P2 ⊗ W1 ⊖ P1 ⊗ W2)) refl

turn_mirror : (p1 q1 p2 q2 : ℤ) → turn p1 (pos 0 -ℤ q1) p2 (pos 0 -ℤ q2) ≡ pos 0 -ℤ turn p1 q1 p2 q2
turn_mirror p1 q1 p2 q2 =
    let P1 = var 0 in let Q1 = var 1 in let P2 = var 2 in let Q2 = var 3 in
    ring (p1 ∷ q1 ∷ p2 ∷ q2 ∷ []) (P2 ⊗ (Zero ⊖ Q1) ⊖ P1 ⊗ (Zero ⊖ Q2)) (Zero ⊖ (P2 ⊗ Q1 ⊖ P1 ⊗ Q2)) refl

pub same_sum : (p1 w1 p2 w2 : ℤ) → p2 *ℤ w1 +ℤ (pos 0 -ℤ p1) *ℤ w2 ≡ p2 *ℤ w1 -ℤ p1 *ℤ w2
same_sum p1 w1 p2 w2 =
    ring (p1 ∷ w1 ∷ p2 ∷ w2 ∷ []) (var 2 ⊗ var 1 ⊕ (Zero ⊖ var 0) ⊗ var 3) (var 2 ⊗ var 1 ⊖ var 0 ⊗ var 3) refl

module _ (q1 w1 q2 w2 h : ℤ) (strip : Strip w1 w2 h) where
  abbrev over1 : ℤ
  over1 = q1 -ℤ h *ℤ w1

  abbrev over2 : ℤ
  over2 = q2 -ℤ h *ℤ w2

  hw1 : pos 0 ≤ℤ (h *ℤ w1)
  hw1 = mul_nonneg h w1 strip.h_some (nonneg_of_pos w1 strip.w1_pos)

  hw2 : pos 0 ≤ℤ (h *ℤ w2)
  hw2 = mul_nonneg h w2 strip.h_some (nonneg_of_pos w2 strip.w2_pos)

  -- the ends lie on either side of p = 0
  straddle : (p1 p2 : ℤ) (J1 J2 D E C B : Bool) → (J1 ⊻ J2 ⊻ D ⊻ E) ≡ false → p1 ≤ℤ pos 0 → pos 0 <ℤ p2
      → (J1 ≡ true → (pos 0 ≤ℤ q1) × (q1 ≤ℤ (h *ℤ w1))) → (J2 ≡ true → (pos 0 ≤ℤ q2) × (q2 ≤ℤ (h *ℤ w2)))
      → (D ≡ true → Hit p1 q1 p2 q2 C) → (E ≡ true → Hit p1 over1 p2 over2 B)
      → ((D && C) ⊻ (E && B) ⊻ (J1 && le_z p1 (pos 0)) ⊻ (J2 && le_z p2 (pos 0))) ≡ true
      → Found p1 q1 w1 p2 q2 w2 h
  straddle p1 p2 J1 J2 D E C B even a b j1 j2 hd he odd =
      let Q = turn p1 q1 p2 q2 in
      let R = turn p1 over1 p2 over2 in
      let wide = width_pos p1 w1 p2 w2 a b strip.w1_pos strip.w2_pos in
      let step = mul_nonneg h (turn p1 w1 p2 w2) strip.h_some (nonneg_of_pos _ wide) in
      let rise = turn_up p1 q1 w1 p2 q2 w2 h in
      by_lt_z Q (pos 0)
      (λ (under : Q <ℤ pos 0). absurd (false≢true (
      sym (outside p1 p2 J1 J2 D E C B even q1 q2 over1 over2 a b under (fall_more R Q _ rise under step)
      (λ n. drop_neg q1 _ n hw1) (λ n. drop_neg q2 _ n hw2) (λ k. (j1 k).0) (λ k. (j2 k).0) hd he) ∙ odd)))
      (λ (low : pos 0 ≤ℤ Q).
      by_sign R
      (λ (top : R ≤ℤ pos 0). record {
        n1 = p2;
        n2 = pos 0 -ℤ p1;
        n1_some = nonneg_of_pos p2 b;
        n2_some = gap p1 (pos 0) a;
        not_none = subst (λ x. pos 0 <ℤ x) (sym (same_sum p1 w1 p2 w2)) wide;
        along = levels p1 p2;
        low = subst (λ x. pos 0 ≤ℤ x) (sym (same_sum p1 q1 p2 q2)) low;
        high = subst (λ x. x ≤ℤ (h *ℤ (p2 *ℤ w1 +ℤ (pos 0 -ℤ p1) *ℤ w2))) (sym (same_sum p1 q1 p2 q2))
            (subst (λ x. Q ≤ℤ (h *ℤ x)) (sym (same_sum p1 w1 p2 w2)) (under_top R Q (h *ℤ turn p1 w1 p2 w2) rise top));
        turns = not_zero _ wide;
      })
      (λ (over : pos 0 <ℤ R). absurd (false≢true (
      sym (outside p1 p2 J1 J2 E D B C (swap_last J1 J2 E D ∙ even)
      (pos 0 -ℤ over1) (pos 0 -ℤ over2) (pos 0 -ℤ q1) (pos 0 -ℤ q2) a b
      (fall_here _ R (turn_mirror p1 over1 p2 over2) over) (fall_back _ R Q _ (turn_mirror p1 q1 p2 q2) rise over step)
      (λ n. rise_neg q1 _ n hw1) (λ n. rise_neg q2 _ n hw2) (λ k. room q1 _ (j1 k).1) (λ k. room q2 _ (j2 k).1)
      (λ e. mirror p1 over1 p2 over2 B (he e)) (λ d. mirror p1 q1 p2 q2 C (hd d)))
      ∙ swap_first (E && B) (D && C) _ _ ∙ odd))))

module _ (p1 q1 w1 p2 q2 w2 h : ℤ) (strip : Strip w1 w2 h) (J1 J2 D E C B : Bool) (even : (J1 ⊻ J2 ⊻ D ⊻ E) ≡ false)
    (j1 : J1 ≡ true → (pos 0 ≤ℤ q1) × (q1 ≤ℤ (h *ℤ w1))) (j2 : J2 ≡ true → (pos 0 ≤ℤ q2) × (q2 ≤ℤ (h *ℤ w2)))
    (hd : D ≡ true → Hit p1 q1 p2 q2 C) (he : E ≡ true → Hit p1 (q1 -ℤ h *ℤ w1) p2 (q2 -ℤ h *ℤ w2) B) where
  before : p1 ≤ℤ pos 0 → p2 ≤ℤ pos 0 → ((D && C) ⊻ (E && B) ⊻ (J1 && le_z p1 (pos 0)) ⊻ (J2 && le_z p2 (pos 0))) ≡ false
  before a b =
      four
      (and_when D C (λ d. all_before p1 q1 p2 q2 C a b (hd d)))
      (and_when E B (λ e. all_before p1 _ p2 _ B a b (he e)))
      (and_when J1 _ (λ _. le_true p1 (pos 0) a)) (and_when J2 _ (λ _. le_true p2 (pos 0) b))
      ∙ pairs_swap J1 J2 D E ∙ even

  past : pos 0 <ℤ p1 → pos 0 <ℤ p2 → ((D && C) ⊻ (E && B) ⊻ (J1 && le_z p1 (pos 0)) ⊻ (J2 && le_z p2 (pos 0))) ≡ false
  past a b =
      four
      (and_never D C (λ d. all_past p1 q1 p2 q2 C a b (hd d)))
      (and_never E B (λ e. all_past p1 _ p2 _ B a b (he e)))
      (and_never J1 _ (λ _. le_false p1 (pos 0) a)) (and_never J2 _ (λ _. le_false p2 (pos 0) b))

  -- nothing is odd where both ends lie on one side of p = 0
  pub chord_same : (le_z p1 (pos 0) ⊻ le_z p2 (pos 0)) ≡ false
      → ((D && C) ⊻ (E && B) ⊻ (J1 && le_z p1 (pos 0)) ⊻ (J2 && le_z p2 (pos 0))) ≡ false
  chord_same e =
      by_sign p1
      (λ a. by_sign p2 (before a) (λ b. absurd (true≢false (sym (xor_same (le_true p1 (pos 0) a) (le_false p2 (pos 0) b)) ∙ e))))
      (λ a. by_sign p2 (λ b. absurd (true≢false (sym (xor_same (le_false p1 (pos 0) a) (le_true p2 (pos 0) b)) ∙ e))) (past a))

  -- where the ends in the strip and the crossings of its edges are odd, the chord crosses the short edge
  pub chord : ((D && C) ⊻ (E && B) ⊻ (J1 && le_z p1 (pos 0)) ⊻ (J2 && le_z p2 (pos 0))) ≡ true → Found p1 q1 w1 p2 q2 w2 h
  chord odd =
      by_sign p1
      (λ (a : p1 ≤ℤ pos 0).
      by_sign p2
      (λ (b : p2 ≤ℤ pos 0). absurd (false≢true (sym (before a b) ∙ odd)))
      (λ (b : pos 0 <ℤ p2). straddle q1 w1 q2 w2 h strip p1 p2 J1 J2 D E C B even a b j1 j2 hd he odd))
      (λ (a : pos 0 <ℤ p1).
      by_sign p2
      (λ (b : p2 ≤ℤ pos 0). found_turned p1 q1 w1 p2 q2 w2 h (
      straddle q2 w2 q1 w1 h (record { w1_pos = strip.w2_pos; w2_pos = strip.w1_pos; h_some = strip.h_some })
      p2 p1 J2 J1 D E C B (swap_first J2 J1 D E ∙ even) b a j2 j1
      (λ d. turned p1 q1 p2 q2 C (hd d)) (λ e. turned p1 _ p2 _ B (he e))
      (swap_last (D && C) (E && B) _ _ ∙ odd)))
      (λ (b : pos 0 <ℤ p2). absurd (false≢true (sym (past a b) ∙ odd))))
