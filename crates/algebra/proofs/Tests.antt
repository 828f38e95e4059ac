-- Tests and the facts that they tell.
use Rattle.std.proofs.Common.{◌≡◌, Bool, true, false, not, ◌&&◌, ℤ, pos, ◌-ℤ◌, ◌≤ℤ◌, ◌<ℤ◌, sym, refl, ap, ◌∙◌, arith}
use mathlib.Core.Bool.{false≢true}
use Rattle.std.proofs.lemmas.Int.{ints, by_lt_z}
use lib.Signed.{lt_z, le_z}

pub le_true : (a b : ℤ) → a ≤ℤ b → le_z a b ≡ true
le_true a b h = grind (arith, ints)

pub le_false : (a b : ℤ) → b <ℤ a → le_z a b ≡ false
le_false a b h = grind (arith, ints)

pub le_of : (a b : ℤ) → le_z a b ≡ true → a ≤ℤ b
le_of a b e = by_lt_z b a (λ h. absurd (false≢true (sym (le_false a b h) ∙ e))) (λ h. h)

pub lt_true : (a b : ℤ) → a <ℤ b → lt_z a b ≡ true
lt_true a b h = grind (arith, ints)

pub lt_false : (a b : ℤ) → b ≤ℤ a → lt_z a b ≡ false
lt_false a b h = grind (arith, ints)

pub lt_is_not_le : (a b : ℤ) → lt_z a b ≡ not (le_z b a)
lt_is_not_le a b = by_lt_z a b (λ h. grind (arith, ints)) (λ h. grind (arith, ints))

-- a test against b is one of the difference against 0
pub le_less : (a b : ℤ) → le_z a b ≡ le_z (a -ℤ b) (pos 0)
le_less a b = by_lt_z b a (λ h. grind (arith, ints)) (λ h. grind (arith, ints))

pub both : {a b : Bool} → a ≡ true → b ≡ true → (a && b) ≡ true
both e f = cc

pub and_same : {a b c d : Bool} → a ≡ b → c ≡ d → (a && c) ≡ (b && d)
and_same e f = cc

pub and_true : {a b c : Bool} → a ≡ true → b ≡ c → (a && b) ≡ c
and_true {a} {b} e f = ap (λ x. x && b) e ∙ f

pub and_split : (a b : Bool) → (a && b) ≡ true → (a ≡ true) × (b ≡ true)
and_split true b e = (refl, e)
and_split false b e = absurd (false≢true e)

-- two tests that pass together are the same
pub same_test : (a b : Bool) → (a ≡ true → b ≡ true) → (b ≡ true → a ≡ true) → a ≡ b
same_test true b f g = sym (f refl)
same_test false true f g = g refl
same_test false false f g = refl
