-- What the sign of a number does in a test.
use Rattle.std.proofs.Common.{◌≡◌, cond, ◌||◌, ℤ, pos, negsuc, ◌-ℤ◌, ◌*ℤ◌, nat_abs, ◌≤ℤ◌, ◌<ℤ◌, sym, ap, ◌∙◌, arith}
use Rattle.std.specs.Int.{int_min, int_max}
use Rattle.std.proofs.lemmas.Int.{ints, by_lt_z}
use lib.Signed.{le_z}
use Rattle.algebra.proofs.Tests.{le_true, le_false}
use Rattle.geometry.specs.Cells.{sign, size}

pub sign_up : (a : ℤ) → pos 0 ≤ℤ a → sign a ≡ pos 1
sign_up a h = ap (λ b. cond b (pos 1) (negsuc 0)) (le_true (pos 0) a h)

pub sign_down : (a : ℤ) → a <ℤ pos 0 → sign a ≡ negsuc 0
sign_down a h = ap (λ b. cond b (pos 1) (negsuc 0)) (le_false (pos 0) a h)

pub inner_up : (way v : ℤ) → pos 0 ≤ℤ way → le_z (pos 0) v ≡ le_z (pos 0) (sign way *ℤ v)
inner_up way v h = rw (sign_up way h) (one v)
  where
    one : (v : ℤ) → le_z (pos 0) v ≡ le_z (pos 0) (pos 1 *ℤ v)
    one v = grind (arith, ints)

pub inner_down : (way v : ℤ) → way <ℤ pos 0 → le_z v (pos 0) ≡ le_z (pos 0) (sign way *ℤ v)
inner_down way v h = rw (sign_down way h) (one v)
  where
    one : (v : ℤ) → le_z v (pos 0) ≡ le_z (pos 0) (negsuc 0 *ℤ v)
    one v = grind (arith, ints)

-- a number times its sign is its size
pub size_up : (a : ℤ) → pos 0 ≤ℤ a → a ≡ size a
size_up a h = one a ∙ ap (λ s. s *ℤ a) (sym (sign_up a h))
  where
    one : (a : ℤ) → a ≡ pos 1 *ℤ a
    one a = omega (arith, ints)

pub size_down : (a : ℤ) → a <ℤ pos 0 → pos 0 -ℤ a ≡ size a
size_down a h = one a ∙ ap (λ s. s *ℤ a) (sym (sign_down a h))
  where
    one : (a : ℤ) → pos 0 -ℤ a ≡ negsuc 0 *ℤ a
    one a = omega (arith, ints)

pub size_is : (a : ℤ) → pos (nat_abs a) ≡ size a
size_is a = by_lt_z a (pos 0) (λ h. down a h ∙ size_down a h) (λ h. up a h ∙ size_up a h)
  where
    down : (a : ℤ) → a <ℤ pos 0 → pos (nat_abs a) ≡ pos 0 -ℤ a
    down a h = omega (arith, ints)

    up : (a : ℤ) → pos 0 ≤ℤ a → pos (nat_abs a) ≡ a
    up a h = omega (arith, ints)

pub minus : (a : ℤ) → pos 0 -ℤ a ≡ negsuc 0 *ℤ a
minus a = omega (arith, ints)

-- a negative sign turns a number
pub turned : (n v : ℤ) → n <ℤ pos 0 → sign n *ℤ v ≡ pos 0 -ℤ v
turned n v h = rw (sign_down n h) (sym (minus v))

-- ---- the least and the greatest of three

pub least_below : (a b c h : ℤ) → le_z (int_min (int_min a b) c) h ≡ (le_z a h || le_z b h || le_z c h)
least_below a b c h = two (int_min a b) c ∙ ap (λ x. x || le_z c h) (two a b)
  where
    two : (a b : ℤ) → le_z (int_min a b) h ≡ (le_z a h || le_z b h)
    two a b = grind (arith, ints)

pub greatest_above : (a b c h : ℤ) → le_z h (int_max (int_max a b) c) ≡ (le_z h a || le_z h b || le_z h c)
greatest_above a b c h = two (int_max a b) c ∙ ap (λ x. x || le_z h c) (two a b)
  where
    two : (a b : ℤ) → le_z h (int_max a b) ≡ (le_z h a || le_z h b)
    two a b = grind (arith, ints)
