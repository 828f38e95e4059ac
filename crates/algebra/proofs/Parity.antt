-- The laws by which a sum of odd and even is sorted: `simp (xor_assoc, xor_comm, xor_left, xor_self, xor_again)` brings both sides of an
-- equation to one form.
use Rattle.std.proofs.Common.{◌≡◌, Bool, true, false, not, sym, refl, ap, ◌∙◌}
use Rattle.algebra.specs.Parity.{◌⊻◌}

pub xor_assoc : (a b c : Bool) → (a ⊻ b ⊻ c) ≡ (a ⊻ (b ⊻ c))
xor_assoc true true true = refl
xor_assoc true true false = refl
xor_assoc true false c = refl
xor_assoc false b c = refl

pub xor_comm : (a b : Bool) → (a ⊻ b) ≡ (b ⊻ a)
xor_comm true true = refl
xor_comm true false = refl
xor_comm false true = refl
xor_comm false false = refl

pub xor_left : (a b c : Bool) → (a ⊻ (b ⊻ c)) ≡ (b ⊻ (a ⊻ c))
xor_left a b c = sym (xor_assoc a b c) ∙ ap (λ x. x ⊻ c) (xor_comm a b) ∙ xor_assoc b a c

pub xor_self : (a : Bool) → (a ⊻ a) ≡ false
xor_self true = refl
xor_self false = refl

pub xor_again : (a b : Bool) → (a ⊻ (a ⊻ b)) ≡ b
xor_again true true = refl
xor_again true false = refl
xor_again false b = refl

pub xor_false : (a : Bool) → (a ⊻ false) ≡ a
xor_false true = refl
xor_false false = refl

pub xor_same : {a b c d : Bool} → a ≡ b → c ≡ d → (a ⊻ c) ≡ (b ⊻ d)
xor_same e f = cc

pub xor_turn : (a b c : Bool) → (a ⊻ b ⊻ c) ≡ (b ⊻ c ⊻ a)
xor_turn a b c = xor_assoc a b c ∙ xor_comm a (b ⊻ c)

pub xor_exchange : (a b c d : Bool) → ((a ⊻ b) ⊻ (c ⊻ d)) ≡ ((a ⊻ c) ⊻ (b ⊻ d))
xor_exchange a b c d = simp (xor_assoc, xor_left)

pub xor_not : (a b : Bool) → (not a ⊻ not b) ≡ (a ⊻ b)
xor_not true true = refl
xor_not true false = refl
xor_not false true = refl
xor_not false false = refl
