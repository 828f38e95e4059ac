-- What it says that a triangle is crossed. The triangle cuts the level plane through the row in a chord, and an odd number of its sides
-- count exactly if one end of the chord lies past the row and the other does not. So the row meets the chord: the triangle has a point on
-- the row, and crosses at the origin or before exactly if that point lies there. All of this is seen from the origin; `crosses_is` brings
-- any point there.
use Rattle.std.proofs.Common.{◌≡◌, Bool, true, false, not, ◌&&◌, [], ◌∷◌, ℤ, pos, ◌+ℤ◌, ◌-ℤ◌, ◌*ℤ◌, ◌≤ℤ◌, ◌<ℤ◌, sym, refl, ap, ◌∙◌, subst, arith}
use mathlib.Core.Bool.{false≢true}
use Rattle.std.proofs.lemmas.Int.{ints}
use Rattle.std.proofs.lemmas.Bool.{and_left, false_from_ne_true}
use lib.Signed.{lt_z, le_z}
use Rattle.algebra.specs.Parity.{◌⊻◌}
use Rattle.algebra.proofs.Ring.{var, ◌⊕◌, ◌⊖◌, ◌⊗◌, ring}
use Rattle.algebra.proofs.Order.{nonneg_of_pos, gap, pos_plus, plus_pos, mul_nonneg, mul_pos, mul_nonpos, nonneg_of_mul, neg_of_mul}
use Rattle.algebra.proofs.Order.{square_pos, by_sign, lt_scaled}
use Rattle.algebra.proofs.Parity.{xor_false, xor_same}
use Rattle.algebra.proofs.Tests.{le_true, le_false, lt_true, lt_false, and_true, and_same}
use Rattle.geometry.specs.declared.mesh.Point.{Point}
use Rattle.geometry.specs.declared.mesh.Triangle.{Triangle}
use Rattle.geometry.specs.Geometry.{is_zero, normal_of, counts, covers, plane, crosses}
use Rattle.mesh.specs.Means.{Weights, total, mean}
use Rattle.mesh.proofs.Exprs.{Zero}
use Rattle.mesh.proofs.Signs.{zero_of}
use Rattle.mesh.proofs.Chord.{Hit, same_sum}
use Rattle.mesh.proofs.Split.{Split, cut_turn, split_up, split_down, end1, end2, weights_of, mean_of, mean_on}
use Rattle.mesh.proofs.Turned.{rot, three_sides, nx_rot, plane_rot, turned, turned_mean}
use Rattle.mesh.proofs.Means.{levels, levels_turned, plane_mean}
use Rattle.mesh.proofs.Origin.{origin, odd0, crosses0, odd_rot, shift, counts_is, nx_shift, plane_shift}

-- ---- a triangle lies on one side of a plane, or one of its corners lies alone

-- the first corner lies on one side of the plane g = 0, and the other two on the other
pub record Alone (g : Point → ℤ) (t : Triangle) : Type 0 where
  pub split : Split (g t.v0) (g t.v1) (g t.v2)
  pub first : (le_z (g t.v0) (pos 0) ⊻ le_z (g t.v1) (pos 0)) ≡ true
  pub far : (le_z (g t.v1) (pos 0) ⊻ le_z (g t.v2) (pos 0)) ≡ false
  pub last : (le_z (g t.v2) (pos 0) ⊻ le_z (g t.v0) (pos 0)) ≡ true

-- the three corners lie on one side
pub record Together (g : Point → ℤ) (t : Triangle) : Type 0 where
  pub first : (le_z (g t.v0) (pos 0) ⊻ le_z (g t.v1) (pos 0)) ≡ false
  pub far : (le_z (g t.v1) (pos 0) ⊻ le_z (g t.v2) (pos 0)) ≡ false
  pub last : (le_z (g t.v2) (pos 0) ⊻ le_z (g t.v0) (pos 0)) ≡ false

-- what passes from the turned triangle back to the triangle need be proved of these two only
module _ (g : Point → ℤ) {P : Triangle → Type 0} (back : (t : Triangle) → P (rot t) → P t)
    (same : (t : Triangle) → Together g t → P t) (alone : (t : Triangle) → Alone g t → P t) where
  up : (t : Triangle) → g t.v0 ≤ℤ pos 0 → pos 0 <ℤ g t.v1 → pos 0 <ℤ g t.v2 → P t
  up t a b c = alone t (record {
    split = split_up (g t.v0) (g t.v1) (g t.v2) a b c;
    first = xor_same (le_true _ _ a) (le_false _ _ b);
    far = xor_same (le_false _ _ b) (le_false _ _ c);
    last = xor_same (le_false _ _ c) (le_true _ _ a);
  })

  down : (t : Triangle) → pos 0 <ℤ g t.v0 → g t.v1 ≤ℤ pos 0 → g t.v2 ≤ℤ pos 0 → P t
  down t a b c = alone t (record {
    split = split_down (g t.v0) (g t.v1) (g t.v2) a b c;
    first = xor_same (le_false _ _ a) (le_true _ _ b);
    far = xor_same (le_true _ _ b) (le_true _ _ c);
    last = xor_same (le_true _ _ c) (le_false _ _ a);
  })

  all_below : (t : Triangle) → g t.v0 ≤ℤ pos 0 → g t.v1 ≤ℤ pos 0 → g t.v2 ≤ℤ pos 0 → P t
  all_below t a b c = same t (record {
    first = xor_same (le_true _ _ a) (le_true _ _ b);
    far = xor_same (le_true _ _ b) (le_true _ _ c);
    last = xor_same (le_true _ _ c) (le_true _ _ a);
  })

  all_above : (t : Triangle) → pos 0 <ℤ g t.v0 → pos 0 <ℤ g t.v1 → pos 0 <ℤ g t.v2 → P t
  all_above t a b c = same t (record {
    first = xor_same (le_false _ _ a) (le_false _ _ b);
    far = xor_same (le_false _ _ b) (le_false _ _ c);
    last = xor_same (le_false _ _ c) (le_false _ _ a);
  })

  pub by_alone : (t : Triangle) → P t
  by_alone t =
      by_sign (g t.v0)
      (λ a. by_sign (g t.v1)
      (λ b. by_sign (g t.v2) (λ c. all_below t a b c) (λ c. back t (back (rot t) (down (rot (rot t)) c a b))))
      (λ b. by_sign (g t.v2) (λ c. back t (down (rot t) b c a)) (λ c. up t a b c)))
      (λ a. by_sign (g t.v1)
      (λ b. by_sign (g t.v2) (λ c. down t a b c) (λ c. back t (up (rot t) b c a)))
      (λ b. by_sign (g t.v2) (λ c. back t (back (rot t) (up (rot (rot t)) c a b))) (λ c. all_above t a b c)))

-- ---- the level plane through the row, z = 0

abbrev pub height_z : Point → ℤ
height_z p = p.z

-- the sides that count are those whose ends of the chord lie past the row
pub odd_alone : (t : Triangle) (al : Alone height_z t)
    → odd0 t ≡ (lt_z (pos 0) (end1 al.split t.v0.y t.v1.y) ⊻ lt_z (pos 0) (end2 al.split t.v0.y t.v2.y))
odd_alone t al =
    let sp = al.split in
    xor_same
    (xor_same
    (and_true al.first (ap (lt_z (pos 0)) (sp.cut1 t.v0.y t.v1.y) ∙ lt_scaled _ _ sp.w1_pos))
    (and_left _ _ al.far)
    ∙ xor_false (lt_z (pos 0) (end1 sp t.v0.y t.v1.y)))
    (and_true al.last
    (ap (lt_z (pos 0)) (cut_turn t.v2.y t.v2.z t.v0.y t.v0.z ∙ sp.cut2 t.v0.y t.v2.y)
    ∙ lt_scaled _ _ sp.w2_pos))

pub odd_together : (t : Triangle) → Together height_z t → odd0 t ≡ false
odd_together t to = xor_same (xor_same (and_left _ _ to.first) (and_left _ _ to.far)) (and_left _ _ to.last)

-- ---- where exactly one end lies past 0, the chord meets 0

-- weights by which the two ends make 0; and the chord does not lie along the row
pub record Level (q1 w1 q2 w2 : ℤ) : Type 0 where
  pub m1 : ℤ
  pub m2 : ℤ
  pub m1_some : pos 0 ≤ℤ m1
  pub m2_some : pos 0 ≤ℤ m2
  pub some : pos 0 <ℤ (m1 +ℤ m2)
  pub not_none : pos 0 <ℤ (m1 *ℤ w1 +ℤ m2 *ℤ w2)
  pub level : m1 *ℤ q1 +ℤ m2 *ℤ q2 ≡ pos 0
  pub turns : q2 *ℤ w1 -ℤ q1 *ℤ w2 ≡ pos 0 → ⊥

level_of : (q1 w1 q2 w2 : ℤ) → pos 0 <ℤ w1 → pos 0 <ℤ w2 → (lt_z (pos 0) q1 ⊻ lt_z (pos 0) q2) ≡ true → Level q1 w1 q2 w2
level_of q1 w1 q2 w2 u v odd =
    by_sign q1
    (λ a. by_sign q2
    (λ b. absurd (false≢true (sym (xor_same (lt_false _ q1 a) (lt_false _ q2 b)) ∙ odd)))
    (λ b.
    let n = gap q1 (pos 0) a in
    let s = pos_plus _ _ (mul_pos q2 w1 b u) (mul_nonneg _ w2 n (nonneg_of_pos w2 v)) in
    record {
      m1 = q2;
      m2 = pos 0 -ℤ q1;
      m1_some = nonneg_of_pos q2 b;
      m2_some = n;
      some = pos_plus q2 _ b n;
      not_none = s;
      level = levels q1 q2;
      turns = apart _ _ s (same_sum q1 w1 q2 w2);
    }))
    (λ a. by_sign q2
    (λ b.
    let n = gap q2 (pos 0) b in
    let s = plus_pos _ _ (mul_nonneg _ w1 n (nonneg_of_pos w1 u)) (mul_pos q1 w2 a v) in
    record {
      m1 = pos 0 -ℤ q2;
      m2 = q1;
      m1_some = n;
      m2_some = nonneg_of_pos q1 a;
      some = plus_pos _ q1 n a;
      not_none = s;
      level = levels_turned q1 q2;
      turns = apart_neg _ _ s
          (ring (q1 ∷ w1 ∷ q2 ∷ w2 ∷ [])
          ((Zero ⊖ var 2) ⊗ var 1 ⊕ var 0 ⊗ var 3) (Zero ⊖ (var 2 ⊗ var 1 ⊖ var 0 ⊗ var 3)) refl);
    })
    (λ b. absurd (false≢true (sym (xor_same (lt_true _ q1 a) (lt_true _ q2 b)) ∙ odd))))
  where
    apart : (a b : ℤ) → pos 0 <ℤ b → b ≡ a → a ≡ pos 0 → ⊥
    apart a b h e f = omega (arith, ints)

    apart_neg : (a b : ℤ) → pos 0 <ℤ b → b ≡ pos 0 -ℤ a → a ≡ pos 0 → ⊥
    apart_neg a b h e f = omega (arith, ints)

-- ---- on which side of the plane the origin lies, by a point of the triangle on the row

-- k P = −n S, so P n is not negative exactly if S is not positive
pub side_is : (k P n S : ℤ) → pos 0 <ℤ k → (n ≡ pos 0 → ⊥) → P *ℤ k ≡ pos 0 -ℤ n *ℤ S → le_z (pos 0) (P *ℤ n) ≡ le_z S (pos 0)
side_is k P n S h z e =
    let q = square_pos n z in
    let f : (P *ℤ n) *ℤ k ≡ pos 0 -ℤ (n *ℤ n) *ℤ S =
    ring (k ∷ P ∷ n ∷ []) ((var 1 ⊗ var 2) ⊗ var 0) ((var 1 ⊗ var 0) ⊗ var 2) refl ∙ ap (λ x. x *ℤ n) e
    ∙ ring (n ∷ S ∷ []) ((Zero ⊖ var 0 ⊗ var 1) ⊗ var 0) (Zero ⊖ (var 0 ⊗ var 0) ⊗ var 1) refl in
    by_sign S
    (λ (a : S ≤ℤ pos 0).
    le_true _ _ (nonneg_of_mul (P *ℤ n) k h
    (subst (λ x. pos 0 ≤ℤ x) (sym f) (gap _ (pos 0) (mul_nonpos (n *ℤ n) S (nonneg_of_pos _ q) a))))
    ∙ sym (le_true S _ a))
    (λ (a : pos 0 <ℤ S).
    le_false _ _ (neg_of_mul (P *ℤ n) k h (subst (λ x. x <ℤ pos 0) (sym f) (below _ (mul_pos (n *ℤ n) S q a))))
    ∙ sym (le_false S _ a))
  where
    below : (a : ℤ) → pos 0 <ℤ a → (pos 0 -ℤ a) <ℤ pos 0
    below a h = omega (arith, ints)

pub plane_side : (t : Triangle) (w : Weights)
    → ((normal_of t).x ≡ pos 0 → ⊥) → mean (λ p. p.y) w t ≡ pos 0 → mean (λ p. p.z) w t ≡ pos 0
    → le_z (pos 0) (plane origin t *ℤ (normal_of t).x) ≡ le_z (mean (λ p. p.x) w t) (pos 0)
plane_side t w nz ey ez =
    let T = total w in let M = mean (λ p. p.x) w t in let N = normal_of t in
    side_is T (plane origin t) N.x M w.not_none nz
    (plane_mean w t origin
    ∙ ap (λ u. N.x *ℤ (T *ℤ pos 0 -ℤ M) +ℤ N.y *ℤ (T *ℤ pos 0 -ℤ u) +ℤ N.z *ℤ (T *ℤ pos 0 -ℤ mean (λ p. p.z) w t)) ey
    ∙ ap (λ u. N.x *ℤ (T *ℤ pos 0 -ℤ M) +ℤ N.y *ℤ (T *ℤ pos 0 -ℤ pos 0) +ℤ N.z *ℤ (T *ℤ pos 0 -ℤ u)) ez
    ∙ ring (N.x ∷ N.y ∷ N.z ∷ T ∷ M ∷ [])
    (var 0 ⊗ (var 3 ⊗ Zero ⊖ var 4) ⊕ var 1 ⊗ (var 3 ⊗ Zero ⊖ Zero) ⊕ var 2 ⊗ (var 3 ⊗ Zero ⊖ Zero))
    (Zero ⊖ var 0 ⊗ var 4) refl)

-- weights on the triangle that make 0 in y and z, and the side on which the row is crossed
pub record OnRow (t : Triangle) (by : Bool) : Type 0 where
  pub w : Weights
  pub on_y : mean (λ p. p.y) w t ≡ pos 0
  pub on_z : mean (λ p. p.z) w t ≡ pos 0
  pub told : by ≡ le_z (mean (λ p. p.x) w t) (pos 0)

module _ (t : Triangle) (al : Alone height_z t) (odd : odd0 t ≡ true) where
  abbrev sp : Split t.v0.z t.v1.z t.v2.z
  sp = al.split

  lv : Level (end1 sp t.v0.y t.v1.y) (sp.ms +ℤ sp.mr) (end2 sp t.v0.y t.v2.y) (sp.mt +ℤ sp.mr)
  lv = level_of _ _ _ _ sp.w1_pos sp.w2_pos (sym (odd_alone t al) ∙ odd)

  not_flat : (normal_of t).x ≡ pos 0 → ⊥
  unfolding normal_of
  not_flat e = lv.turns (sp.flat t.v0.y t.v1.y t.v2.y e)

  abbrev wts : Weights
  wts = weights_of sp lv.m1 lv.m2 lv.m1_some lv.m2_some lv.not_none

  abbrev mean_wts : (f : Point → ℤ)
      → mean f wts t ≡ lv.m1 *ℤ end1 sp (f t.v0) (f t.v1) +ℤ lv.m2 *ℤ end2 sp (f t.v0) (f t.v2)
  mean_wts = mean_of sp lv.m1 lv.m2 lv.m1_some lv.m2_some lv.not_none t

  wts_z : mean (λ p. p.z) wts t ≡ pos 0
  wts_z = mean_on sp lv.m1 lv.m2 lv.m1_some lv.m2_some lv.not_none t (λ p. p.z) sp.on1 sp.on2

  wts_y : mean (λ p. p.y) wts t ≡ pos 0
  wts_y = mean_wts (λ p. p.y) ∙ lv.level

  row_weights : OnRow t (le_z (pos 0) (plane origin t *ℤ (normal_of t).x))
  row_weights = record { w = wts; on_y = wts_y; on_z = wts_z; told = plane_side t wts not_flat wts_y wts_z }

  -- the chord meets the row
  pub row_hit : Hit
      (end1 sp t.v0.x t.v1.x) (end1 sp t.v0.y t.v1.y) (end2 sp t.v0.x t.v2.x) (end2 sp t.v0.y t.v2.y)
      (le_z (pos 0) (plane origin t *ℤ (normal_of t).x))
  row_hit = record {
    m1 = lv.m1;
    m2 = lv.m2;
    m1_some = lv.m1_some;
    m2_some = lv.m2_some;
    not_none = lv.some;
    level = lv.level;
    told = plane_side t wts not_flat wts_y wts_z ∙ ap (λ x. le_z x (pos 0)) (mean_wts (λ p. p.x));
  }

-- ---- a crossed triangle

abbrev Crossing : Triangle → Type 0
Crossing t = odd0 t ≡ true → OnRow t (le_z (pos 0) (plane origin t *ℤ (normal_of t).x))

-- where an odd number of sides count, the triangle has a point on the row
pub crossed : (t : Triangle) → Crossing t
crossed =
    by_alone height_z {P = Crossing} back
    (λ t to e. absurd (false≢true (sym (odd_together t to) ∙ e))) (λ t al e. row_weights t al e)
  where
    same : {p q m n a b : ℤ} → p ≡ q → m ≡ n → a ≡ b → le_z (pos 0) (p *ℤ m) ≡ le_z a (pos 0) → le_z (pos 0) (q *ℤ n) ≡ le_z b (pos 0)
    same e f g h = cc

    back : (t : Triangle) → Crossing (rot t) → Crossing t
    back t c e =
        let o = c (odd_rot t ∙ e) in
        record {
          w = turned t o.w;
          on_y = sym (turned_mean t o.w (λ p. p.y)) ∙ o.on_y;
          on_z = sym (turned_mean t o.w (λ p. p.z)) ∙ o.on_z;
          told = same (plane_rot origin t) (nx_rot t) (turned_mean t o.w (λ p. p.x)) o.told;
        }

-- and its plane does not lie along the row
pub crossed_turns : (t : Triangle) → odd0 t ≡ true → (normal_of t).x ≡ pos 0 → ⊥
crossed_turns = by_alone height_z {P = λ t. odd0 t ≡ true → (normal_of t).x ≡ pos 0 → ⊥}
    (λ t c e z. c (odd_rot t ∙ e) (nx_rot t ∙ z))
    (λ t to e z. false≢true (sym (odd_together t to) ∙ e)) (λ t al e z. not_flat t al e z)

-- ---- from any point to the origin

pub odd_counts_is : (p : Point) (t : Triangle) → three_sides (counts p) t ≡ odd0 (shift p t)
odd_counts_is p t =
    xor_same (xor_same (counts_is p t.v0 t.v1) (counts_is p t.v1 t.v2)) (counts_is p t.v2 t.v0)

-- an odd number of sides count only where the plane does not lie along the row, so the test for that changes nothing
pub covers_is : (p : Point) (t : Triangle) → covers p t ≡ odd0 (shift p t)
covers_is p t =
    guard (normal_of t).x (three_sides (counts p) t) (λ o z. crossed_turns (shift p t) (sym (odd_counts_is p t) ∙ o) (nx_shift p t ∙ z))
    ∙ odd_counts_is p t
  where
    guard : (g : ℤ) (r : Bool) → (r ≡ true → g ≡ pos 0 → ⊥) → (not (is_zero g) && r) ≡ r
    guard g r h = by_bool (is_zero g) refl
      where
        by_bool : (z : Bool) → z ≡ is_zero g → (not z && r) ≡ r
        by_bool true e = sym (false_from_ne_true r (λ k. h k (zero_of g (sym e))))
        by_bool false e = refl

-- a crossing at p is a crossing at the origin
pub crosses_is : (p : Point) (t : Triangle) → crosses p t ≡ crosses0 (shift p t)
crosses_is p t = and_same (covers_is p t) (product (plane_shift p t) (nx_shift p t))
  where
    product : {a b c d : ℤ} → a ≡ b → c ≡ d → le_z (pos 0) (b *ℤ d) ≡ le_z (pos 0) (a *ℤ c)
    product e f = cc
