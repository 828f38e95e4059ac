-- Counting by odd and even.
use Rattle.std.proofs.Common.{◌≡◌, ℕ, ◌+◌, ◌<◌, Bool, false, List, [], ◌∷◌, ◌++◌, length, get_or, take, sym, refl, ap, ◌∙◌}
use Rattle.std.proofs.lemmas.List.{take_more}
use Rattle.algebra.specs.Parity.{◌⊻◌}
use Rattle.algebra.proofs.Parity.{xor_assoc, xor_left, xor_false}
use Rattle.rows.specs.Rows.{odd}

module _ {A : Type 0} (p : A → Bool) where
  pub odd_append : (xs ys : List A) → odd p (xs ++ ys) ≡ (odd p xs ⊻ odd p ys)
  odd_append [] ys = refl
  odd_append (x ∷ xs) ys = ap (λ b. p x ⊻ b) (odd_append xs ys) ∙ sym (xor_assoc (p x) (odd p xs) (odd p ys))

  -- one element more
  pub odd_more : (xs : List A) (i : ℕ) (d : A) → i < length xs → odd p (take (i + 1) xs) ≡ (odd p (take i xs) ⊻ p (get_or xs i d))
  odd_more xs i d h = ap (odd p) (take_more xs i d h) ∙ odd_append (take i xs) (get_or xs i d ∷ []) ∙ ap (λ b. odd p (take i xs) ⊻ b) (xor_false (p (get_or xs i d)))

-- where each element passes one of two tests at most, the two counts add up
pub odd_both : {A : Type 0} (p q r : A → Bool) → ((x : A) → r x ≡ (p x ⊻ q x)) → (xs : List A) → odd r xs ≡ (odd p xs ⊻ odd q xs)
odd_both p q r e [] = refl
odd_both p q r e (x ∷ xs) =
    ap (λ b. b ⊻ odd r xs) (e x) ∙ ap (λ b. (p x ⊻ q x) ⊻ b) (odd_both p q r e xs)
    ∙ mix (p x) (q x) (odd p xs) (odd q xs)
  where
    mix : (a b c d : Bool) → ((a ⊻ b) ⊻ (c ⊻ d)) ≡ ((a ⊻ c) ⊻ (b ⊻ d))
    mix a b c d = simp (xor_assoc, xor_left)

pub odd_same : {A : Type 0} (p q : A → Bool) → ((x : A) → p x ≡ q x) → (xs : List A) → odd p xs ≡ odd q xs
odd_same p q e [] = refl
odd_same p q e (x ∷ xs) = ap (λ b. b ⊻ odd p xs) (e x) ∙ ap (λ b. q x ⊻ b) (odd_same p q e xs)

pub odd_none : {A : Type 0} (p : A → Bool) → ((x : A) → p x ≡ false) → (xs : List A) → odd p xs ≡ false
odd_none p e [] = refl
odd_none p e (x ∷ xs) = ap (λ b. b ⊻ odd p xs) (e x) ∙ odd_none p e xs
