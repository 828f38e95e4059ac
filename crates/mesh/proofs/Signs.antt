-- The test for 0, and the sign and the size of a number.
use Rattle.std.proofs.Common.{◌≡◌, zero, suc, true, not, ℤ, pos, negsuc, ◌-ℤ◌, ◌*ℤ◌, ◌≤ℤ◌, ◌<ℤ◌, sym, refl, ap, ◌∙◌, subst, arith}
use mathlib.Core.Bool.{false≢true}
use Rattle.std.proofs.lemmas.Int.{ints, by_lt_z}
use Rattle.geometry.specs.Geometry.{is_zero}
use Rattle.geometry.specs.Cells.{sign, size}
use Rattle.geometry.proofs.Signs.{sign_up, sign_down}

-- ---- the test for 0

pub zero_of : (a : ℤ) → is_zero a ≡ true → a ≡ pos 0
zero_of (pos zero) e = refl
zero_of (pos (suc n)) e = absurd (false≢true e)
zero_of (negsuc n) e = absurd (false≢true e)

pub nonzero : (a : ℤ) → (a ≡ pos 0 → ⊥) → not (is_zero a) ≡ true
nonzero (pos zero) h = absurd (h refl)
nonzero (pos (suc n)) h = refl
nonzero (negsuc n) h = refl

pub nonzero_of : (a : ℤ) → not (is_zero a) ≡ true → a ≡ pos 0 → ⊥
nonzero_of a e z = false≢true (ap (λ x. not (is_zero x)) (sym z) ∙ e)

-- ---- signs and sizes

by_one : (P : ℤ → Type 0) (a : ℤ) → P (pos 1) → P (negsuc 0) → P (sign a)
by_one P a p q = by_lt_z a (pos 0) (λ h. subst P (sym (sign_down a h)) q) (λ h. subst P (sym (sign_up a h)) p)

pub sign_twice : (a : ℤ) → sign a *ℤ sign a ≡ pos 1
sign_twice a = by_one (λ s. s *ℤ s ≡ pos 1) a refl refl

-- a number from −k to k stays there under a change of sign
pub signed_most : (a d k : ℤ) → d ≤ℤ k → (pos 0 -ℤ d) ≤ℤ k → (sign a *ℤ d) ≤ℤ k
signed_most a d k p q = by_one (λ s. (s *ℤ d) ≤ℤ k) a (up d k p) (down d k q)
  where
    up : (d k : ℤ) → d ≤ℤ k → (pos 1 *ℤ d) ≤ℤ k
    up d k p = omega (arith, ints)

    down : (d k : ℤ) → (pos 0 -ℤ d) ≤ℤ k → (negsuc 0 *ℤ d) ≤ℤ k
    down d k p = omega (arith, ints)

pub signed_least : (a d k : ℤ) → d ≤ℤ k → (pos 0 -ℤ d) ≤ℤ k → (pos 0 -ℤ sign a *ℤ d) ≤ℤ k
signed_least a d k p q = by_one (λ s. (pos 0 -ℤ s *ℤ d) ≤ℤ k) a (up d k q) (down d k p)
  where
    up : (d k : ℤ) → (pos 0 -ℤ d) ≤ℤ k → (pos 0 -ℤ pos 1 *ℤ d) ≤ℤ k
    up d k p = omega (arith, ints)

    down : (d k : ℤ) → d ≤ℤ k → (pos 0 -ℤ negsuc 0 *ℤ d) ≤ℤ k
    down d k p = omega (arith, ints)

-- a number whose size is at most k lies from −k to k
pub size_most : (d k : ℤ) → size d ≤ℤ k → (d ≤ℤ k) × ((pos 0 -ℤ d) ≤ℤ k)
size_most d k h =
    by_lt_z d (pos 0)
    (λ n. down d k n (subst (λ s. (s *ℤ d) ≤ℤ k) (sign_down d n) h))
    (λ p. up d k p (subst (λ s. (s *ℤ d) ≤ℤ k) (sign_up d p) h))
  where
    down : (d k : ℤ) → d <ℤ pos 0 → (negsuc 0 *ℤ d) ≤ℤ k → (d ≤ℤ k) × ((pos 0 -ℤ d) ≤ℤ k)
    down d k n h = (omega (arith, ints), omega (arith, ints))

    up : (d k : ℤ) → pos 0 ≤ℤ d → (pos 1 *ℤ d) ≤ℤ k → (d ≤ℤ k) × ((pos 0 -ℤ d) ≤ℤ k)
    up d k n h = (omega (arith, ints), omega (arith, ints))

pub size_some : (a : ℤ) → pos 0 ≤ℤ size a
size_some a =
    by_lt_z a (pos 0)
    (λ h. subst (λ s. pos 0 ≤ℤ (s *ℤ a)) (sym (sign_down a h)) (down a h))
    (λ h. subst (λ s. pos 0 ≤ℤ (s *ℤ a)) (sym (sign_up a h)) (up a h))
  where
    down : (a : ℤ) → a <ℤ pos 0 → pos 0 ≤ℤ (negsuc 0 *ℤ a)
    down a h = omega (arith, ints)

    up : (a : ℤ) → pos 0 ≤ℤ a → pos 0 ≤ℤ (pos 1 *ℤ a)
    up a h = omega (arith, ints)

pub size_pos : (a : ℤ) → (a ≡ pos 0 → ⊥) → pos 0 <ℤ size a
size_pos a z =
    by_lt_z (pos 0) (size a) (λ h. h)
    (λ h. absurd (let m = size_most a (pos 0) h in z (none a m.0 m.1)))
  where
    none : (a : ℤ) → a ≤ℤ pos 0 → (pos 0 -ℤ a) ≤ℤ pos 0 → a ≡ pos 0
    none a h k = omega (arith, ints)
