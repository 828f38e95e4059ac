-- From the tests of the code to `counts` and `first_crossed`.
use Rattle.std.proofs.Common.{◌≡◌, ℕ, zero, suc, ◌<◌, ◌≤◌, Bool, true, false, cond, not, ◌&&◌, eqb, [], ◌∷◌, ℤ, pos, negsuc, ◌+ℤ◌, ◌-ℤ◌, ◌*ℤ◌, nat_abs, ◌≤ℤ◌, ◌<ℤ◌, sym, refl, ap, ◌∙◌, subst, true≢false, arith, min, w32, w64, SFits, of_z}
use Rattle.std.proofs.lemmas.Int.{ints, by_lt_z}
use Rattle.std.specs.Int.{int_div_euclid}
use lib.Signed.{lt_z, le_z}
use Rattle.algebra.specs.Parity.{◌⊻◌}
use Rattle.algebra.proofs.Ring.{var, num, ◌⊕◌, ◌⊖◌, ◌⊗◌, ring}
use Rattle.algebra.proofs.Order.{gap, nonneg_of_pos, mul_pos, mul_nonneg, lt_scaled, nonneg_scaled}
use Rattle.algebra.proofs.Tests.{le_true, le_false}
use Rattle.geometry.specs.declared.mesh.Point.{Point}
use Rattle.geometry.specs.declared.mesh.Triangle.{Triangle}
use Rattle.geometry.specs.declared.axis.Axis.{Axis}
use Rattle.geometry.specs.Geometry.{is_zero, normal_of, edge, ahead, counts, covers, plane, crosses}
use Rattle.geometry.specs.Cells.{cell_at, centre, middle, least, first_crossed, sign, size}
use Rattle.geometry.specs.Numbers.{◌·◌, Floor}
use Rattle.geometry.specs.Read.{first_of, second_of, flat_edge}
use Rattle.geometry.proofs.Signs.{inner_up, inner_down, size_is}

-- the edge of points is that of their coordinates, on any two of these
pub edge_is : (a b : Point → ℤ) (u v q : Point) → flat_edge (a u) (b u) (a v) (b v) (a q) (b q) ≡ edge a b u v q
unfolding flat_edge edge ◌·◌
edge_is a b u v q = refl

-- and so it is along an axis
pub edge_along : (axis : Axis) (u v q : Point)
    → edge (first_of axis) (second_of axis) u v q
    ≡ flat_edge (first_of axis u) (second_of axis u) (first_of axis v) (second_of axis v) (first_of axis q) (second_of axis q)
edge_along axis u v q = sym (edge_is (first_of axis) (second_of axis) u v q)

-- ---- a side

-- a product with a number below 0 is above 0 where the number is below it
pub lt_turned : (a k : ℤ) → k <ℤ pos 0 → lt_z (pos 0) (a *ℤ k) ≡ lt_z a (pos 0)
lt_turned a k h =
    ap (lt_z (pos 0)) (ring (a ∷ k ∷ []) (var 0 ⊗ var 1) ((num (pos 0) ⊖ var 0) ⊗ (num (pos 0) ⊖ var 1)) refl)
    ∙ lt_scaled (pos 0 -ℤ a) (pos 0 -ℤ k) (over k h) ∙ turn a
  where
    over : (k : ℤ) → k <ℤ pos 0 → pos 0 <ℤ (pos 0 -ℤ k)
    over k h = omega (arith, ints)

    turn : (a : ℤ) → lt_z (pos 0) (pos 0 -ℤ a) ≡ lt_z a (pos 0)
    turn a = grind (arith, ints)

module _ (p a b : Point) where
  abbrev e : ℤ
  e = edge (λ q. q.y) (λ q. q.z) a b p

  -- the two ends lie on the same side of the height
  pub level : le_z a.z p.z ≡ le_z b.z p.z → counts p a b ≡ false
  level h = ap (λ x. (x ⊻ le_z b.z p.z) && lt_z (pos 0) (ahead p a b)) h ∙ none (le_z b.z p.z)
    where
      none : (x : Bool) → ((x ⊻ x) && lt_z (pos 0) (ahead p a b)) ≡ false
      none true = refl
      none false = refl

  -- the side goes up past the height
  pub upward : le_z a.z p.z ≡ true → le_z b.z p.z ≡ false → lt_z (pos 0) e ≡ counts p a b
  upward h k = sym (lt_scaled e (b.z -ℤ a.z) (rise a.z b.z p.z h k)) ∙ sym (ap (λ x. (x ⊻ le_z b.z p.z) && lt_z (pos 0) (ahead p a b)) h ∙ ap (λ x. not x && lt_z (pos 0) (ahead p a b)) k)
    where
      rise : (u v z : ℤ) → le_z u z ≡ true → le_z v z ≡ false → pos 0 <ℤ (v -ℤ u)
      rise u v z h k = grind (arith, ints)

  -- the side goes down past the height
  pub downward : le_z a.z p.z ≡ false → le_z b.z p.z ≡ true → lt_z e (pos 0) ≡ counts p a b
  downward h k = sym (lt_turned e (b.z -ℤ a.z) (fall a.z b.z p.z h k)) ∙ sym (ap (λ x. (x ⊻ le_z b.z p.z) && lt_z (pos 0) (ahead p a b)) h ∙ ap (λ x. x && lt_z (pos 0) (ahead p a b)) k)
    where
      fall : (u v z : ℤ) → le_z u z ≡ false → le_z v z ≡ true → (v -ℤ u) <ℤ pos 0
      fall u v z h k = grind (arith, ints)

-- ---- the first crossed cell

-- r is the least: f fails before it, and holds there if it is below n
pub least_is : (f : ℕ → Bool) (n r : ℕ) → r ≤ n → ((k : ℕ) → k < r → f k ≡ false) → (r < n → f r ≡ true) → r ≡ least f n
least_is f zero r h below at = omega arith
least_is f (suc n) zero h below at = rw (at (omega arith)) refl
least_is f (suc n) (suc r) h below at =
    rw (below 0 (omega arith)) (ap suc (least_is (λ k. f (suc k)) n r (omega arith) (λ k l. below (suc k) (omega arith)) (λ l. at (omega arith))))

pub least_same : (f g : ℕ → Bool) (n : ℕ) → ((k : ℕ) → f k ≡ g k) → least f n ≡ least g n
least_same f g zero e = refl
least_same f g (suc n) e = rw (e 0) (ap (λ m. cond (g 0) 0 (suc m)) (least_same (λ k. f (suc k)) (λ k. g (suc k)) n (λ k. e (suc k))))

pub least_none : (n : ℕ) → n ≡ least (λ _. false) n
least_none n = least_is (λ _. false) n n (omega arith) (λ k h. refl) (λ h. absurd (omega arith))

-- Euclid's division rounds down, where the divisor is positive
pub floors : (a d : ℤ) → pos 0 <ℤ d → Floor a d (int_div_euclid a d)
floors (pos a) (pos d) h =
    let s : 0 < d = omega (arith, ints) in record { low = omega (arith, ints); high = omega (arith, ints) }
floors (negsuc a) (pos d) h =
    let s : 0 < d = omega (arith, ints) in record { low = omega (arith, ints); high = omega (arith, ints) }
floors a (negsuc d) h = absurd (omega (arith, ints))

pub floor_fits : (a d : ℤ) → pos 0 <ℤ d → SFits w64 a → SFits w64 (int_div_euclid a d)
floor_fits (pos a) (pos d) h f = let s : 0 < d = omega (arith, ints) in omega (arith, ints)
floor_fits (negsuc a) (pos d) h f = let s : 0 < d = omega (arith, ints) in omega (arith, ints)
floor_fits a (negsuc d) h f = absurd (omega (arith, ints))

-- a + s k is not negative from k = −q on, where q is a / s rounded down
module _ (a s q : ℤ) (s_some : pos 0 <ℤ s) (fl : Floor a s q) where
  -- for a natural k: k < −q makes it negative, and −q ≤ k does not
  before : (k : ℤ) → k <ℤ (pos 0 -ℤ q) → (a +ℤ s *ℤ k) <ℤ pos 0
  before k h =
      down a (q *ℤ s) s (s *ℤ k) _
      (ring (s ∷ q ∷ k ∷ []) (var 0 ⊗ ((num (pos 0) ⊖ var 1) ⊖ var 2 ⊖ num (pos 1))) (num (pos 0) ⊖ var 1 ⊗ var 0 ⊖ var 0 ⊗ var 2 ⊖ var 0) refl)
      fl.high (mul_nonneg s ((pos 0 -ℤ q) -ℤ k -ℤ pos 1) (nonneg_of_pos s s_some) (strict k (pos 0 -ℤ q) h))
    where
      strict : (k m : ℤ) → k <ℤ m → pos 0 ≤ℤ (m -ℤ k -ℤ pos 1)
      strict k m h = omega (arith, ints)

      down : (a u s v w : ℤ) → w ≡ pos 0 -ℤ u -ℤ v -ℤ s → a <ℤ (u +ℤ s) → pos 0 ≤ℤ w → (a +ℤ v) <ℤ pos 0
      down a u s v w e h k = omega (arith, ints)

  from_on : (k : ℤ) → (pos 0 -ℤ q) ≤ℤ k → pos 0 ≤ℤ (a +ℤ s *ℤ k)
  from_on k h =
      up a (q *ℤ s) (s *ℤ k) _
      (ring (s ∷ q ∷ k ∷ []) (var 0 ⊗ (var 2 ⊖ (num (pos 0) ⊖ var 1))) (var 0 ⊗ var 2 ⊕ var 1 ⊗ var 0) refl)
      fl.low (mul_nonneg s (k -ℤ (pos 0 -ℤ q)) (nonneg_of_pos s s_some) (gap (pos 0 -ℤ q) k h))
    where
      up : (a u v w : ℤ) → w ≡ v +ℤ u → u ≤ℤ a → pos 0 ≤ℤ w → pos 0 ≤ℤ (a +ℤ v)
      up a u v w e h k = omega (arith, ints)

-- −⌊a / s⌋, clipped to 0..n, is the least k with a + s k not negative
module _ (a s q : ℤ) (n : ℕ) (s_some : pos 0 <ℤ s) (fl : Floor a s q) where
  abbrev test : ℕ → Bool
  test k = le_z (pos 0) (a +ℤ s *ℤ pos k)

  no : (k : ℕ) → pos k <ℤ (pos 0 -ℤ q) → test k ≡ false
  no k h = le_false _ _ (before a s q s_some fl (pos k) h)

  yes_from : (k : ℕ) → (pos 0 -ℤ q) ≤ℤ pos k → test k ≡ true
  yes_from k h = le_true _ _ (from_on a s q s_some fl (pos k) h)

  pub first_at_once : pos 0 ≤ℤ q → 0 ≡ least test n
  first_at_once h = least_is test n 0 (omega arith) (λ k l. absurd (omega arith)) (λ l. yes_from 0 (turn q h))
    where
      turn : (q : ℤ) → pos 0 ≤ℤ q → (pos 0 -ℤ q) ≤ℤ pos 0
      turn q h = omega (arith, ints)

  pub first_clipped : q <ℤ pos 0 → min n (nat_abs q) ≡ least test n
  first_clipped h =
      least_is test n (min n (nat_abs q)) (omega arith) (λ k m. no k (below q k h (omega arith))) (λ m. yes_from _ (there q n h m))
    where
      below : (q : ℤ) (k : ℕ) → q <ℤ pos 0 → k < nat_abs q → pos k <ℤ (pos 0 -ℤ q)
      below q k h m = omega (arith, ints)

      there : (q : ℤ) (n : ℕ) → q <ℤ pos 0 → min n (nat_abs q) < n → (pos 0 -ℤ q) ≤ℤ pos (min n (nat_abs q))
      there q n h m = omega (arith, ints)

-- ---- along a row

-- whether a triangle covers the row does not depend on x
pub covers_along : (t : Triangle) (x x' y z : ℤ) → covers (record { x = x; y = y; z = z }) t ≡ covers (record { x = x'; y = y; z = z }) t
unfolding edge
covers_along t x x' y z = refl

-- the plane's value grows by n.x for each unit
plane_row : (t : Triangle) (h k y z : ℤ)
    → plane (record { x = middle h k; y = y; z = z }) t ≡ plane (record { x = middle h (pos 0); y = y; z = z }) t +ℤ ((h +ℤ h) *ℤ (normal_of t).x) *ℤ k
unfolding plane
plane_row t h k y z =
    let N = var 0 in let H = var 1 in let K = var 2 in
    ring ((normal_of t).x ∷ h ∷ k ∷ t.v0.x ∷ ((normal_of t).y *ℤ (y -ℤ t.v0.y)) ∷ ((normal_of t).z *ℤ (z -ℤ t.v0.z)) ∷ [])
    (N ⊗ (((H ⊕ H) ⊗ K ⊕ H) ⊖ var 3) ⊕ var 4 ⊕ var 5)
    ((N ⊗ (((H ⊕ H) ⊗ num (pos 0) ⊕ H) ⊖ var 3) ⊕ var 4 ⊕ var 5) ⊕ ((H ⊕ H) ⊗ N) ⊗ K) refl

-- a product with a number that is not 0 has the sign of the product with its sign
same_sign : (v n : ℤ) → (n ≡ pos 0 → ⊥) → le_z (pos 0) (v *ℤ n) ≡ le_z (pos 0) (sign n *ℤ v)
same_sign v n z =
    by_lt_z n (pos 0)
    (λ l. ap (le_z (pos 0)) (ring (v ∷ n ∷ []) (var 0 ⊗ var 1) ((num (pos 0) ⊖ var 0) ⊗ (num (pos 0) ⊖ var 1)) refl)
    ∙ nonneg_scaled (pos 0 -ℤ v) (pos 0 -ℤ n) (over n l) ∙ turn v ∙ inner_down n v l)
    (λ l. nonneg_scaled v n (above n z l) ∙ inner_up n v l)
  where
    over : (n : ℤ) → n <ℤ pos 0 → pos 0 <ℤ (pos 0 -ℤ n)
    over n h = omega (arith, ints)

    above : (n : ℤ) → (n ≡ pos 0 → ⊥) → pos 0 ≤ℤ n → pos 0 <ℤ n
    above n z h = omega (arith, ints)

    turn : (v : ℤ) → le_z (pos 0) (pos 0 -ℤ v) ≡ le_z v (pos 0)
    turn v = grind (arith, ints)

module _ (h : ℤ) (y z n : ℕ) (t : Triangle) where
  abbrev at : ℕ → Point
  at k = centre h (cell_at k y z)

  abbrev turns : ℤ
  turns = (normal_of t).x

  -- a triangle that does not cover the row crosses at or before none of its cells
  pub none_crossed : covers (at 0) t ≡ false → n ≡ first_crossed h y z n t
  unfolding first_crossed
  none_crossed e =
      least_none n ∙ least_same (λ _. false) (λ k. crosses (at k) t) n
      (λ k. sym (ap (λ b. b && le_z (pos 0) (plane (at k) t *ℤ turns)) (covers_along t (at k).x (at 0).x (at 0).y (at 0).z ∙ e)))

  crosses_at : covers (at 0) t ≡ true → (k : ℕ) → crosses (at k) t ≡ le_z (pos 0) (plane (at k) t *ℤ turns)
  crosses_at e k = ap (λ b. b && le_z (pos 0) (plane (at k) t *ℤ turns)) (covers_along t (at k).x (at 0).x (at 0).y (at 0).z ∙ e)

  pub crossed : covers (at 0) t ≡ true → (turns ≡ pos 0 → ⊥) → (start step : ℤ) → start ≡ sign turns *ℤ plane (at 0) t → step ≡ (h +ℤ h) *ℤ size turns
      → (r : ℕ) → r ≡ least (λ k. le_z (pos 0) (start +ℤ step *ℤ pos k)) n → r ≡ first_crossed h y z n t
  unfolding first_crossed
  crossed e some start step es et r er =
      er ∙ least_same (λ k. le_z (pos 0) (start +ℤ step *ℤ pos k)) (λ k. crosses (at k) t) n
      (λ k. sym (crosses_at e k ∙ same_sign (plane (at k) t) turns some
      ∙ ap (λ v. le_z (pos 0) (sign turns *ℤ v)) (plane_row t h (pos k) (at 0).y (at 0).z)
      ∙ ap (le_z (pos 0)) (ring (sign turns ∷ plane (at 0) t ∷ h ∷ turns ∷ pos k ∷ [])
      (var 0 ⊗ (var 1 ⊕ ((var 2 ⊕ var 2) ⊗ var 3) ⊗ var 4)) (var 0 ⊗ var 1 ⊕ ((var 2 ⊕ var 2) ⊗ (var 0 ⊗ var 3)) ⊗ var 4) refl
      ∙ ap (λ s. s +ℤ ((h +ℤ h) *ℤ size turns) *ℤ pos k) (sym es) ∙ ap (λ s. start +ℤ s *ℤ pos k) (sym et))))

-- `!=` compares bits
pub not_zero_bits : (z : ℤ) → SFits w32 z → not (eqb (of_z w32 z) 0) ≡ not (is_zero z)
not_zero_bits (pos zero) f = grind (arith, ints)
not_zero_bits (pos (suc k)) f = grind (arith, ints)
not_zero_bits (negsuc k) f = grind (arith, ints)

-- a triangle that covers a row does not lie along it
pub covering_turns : (p : Point) (t : Triangle) → covers p t ≡ true → (normal_of t).x ≡ pos 0 → ⊥
covering_turns p t e z = true≢false (sym e ∙ ap (λ n. not (is_zero n) && (counts p t.v0 t.v1 ⊻ counts p t.v1 t.v2 ⊻ counts p t.v2 t.v0)) z)

-- the way from one cell to the next has a length
pub step_some : (h n : ℤ) → pos 0 <ℤ h → (n ≡ pos 0 → ⊥) → pos 0 <ℤ ((h +ℤ h) *ℤ size n)
step_some h n some z = mul_pos (h +ℤ h) (size n) (twice h some) (subst (λ s. pos 0 <ℤ s) (size_is n) (sized n z))
  where
    twice : (h : ℤ) → pos 0 <ℤ h → pos 0 <ℤ (h +ℤ h)
    twice h k = omega (arith, ints)

    sized : (n : ℤ) → (n ≡ pos 0 → ⊥) → pos 0 <ℤ pos (nat_abs n)
    sized n z = omega (arith, ints)
