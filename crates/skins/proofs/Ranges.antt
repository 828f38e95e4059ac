-- Ranges of numbers that grow by one, in tests.
use Rattle.std.proofs.Common.{◌≡◌, ℕ, ◌+◌, ◌≤◌, Bool, true, false, ◌&&◌, ◌||◌, eqb, ltb, leb, refl, ap, ◌∙◌, arith}
use Rattle.std.proofs.lemmas.Bool.Decides.{nat_tests}

-- from a up to, and without, b
abbrev pub between : ℕ → ℕ → ℕ → Bool
between a b k = leb a k && ltb k b

none_yet : (a k : ℕ) → false ≡ between a a k
none_yet a k = grind (arith, nat_tests)

one_more : (a b k : ℕ) → a ≤ b → (between a b k || eqb k b) ≡ between a (b + 1) k
one_more a b k h = grind (arith, nat_tests)

-- a test with a first, a second or a third part that is a range, before its first number and with one number more
dist : (p q t : Bool) → ((p && t) || (q && t)) ≡ ((p || q) && t)
dist true true true = refl
dist true true false = refl
dist true false true = refl
dist true false false = refl
dist false q t = refl

module _ (a b k : ℕ) (h : a ≤ b) where
  pub first_more : (t : Bool) → ((between a b k && t) || (eqb k b && t)) ≡ (between a (b + 1) k && t)
  first_more t = dist (between a b k) (eqb k b) t ∙ ap (λ p. p && t) (one_more a b k h)

  pub second_more : (p t : Bool) → ((p && (between a b k && t)) || (p && (eqb k b && t))) ≡ (p && (between a (b + 1) k && t))
  second_more true t = first_more t
  second_more false t = refl

  pub third_more : (p q t : Bool) → ((p && (q && (between a b k && t))) || (p && (q && (eqb k b && t)))) ≡ (p && (q && (between a (b + 1) k && t)))
  third_more true q t = second_more q t
  third_more false q t = refl

module _ (a k : ℕ) where
  pub first_none : (t : Bool) → false ≡ (between a a k && t)
  first_none t = ap (λ p. p && t) (none_yet a k)

  pub second_none : (p t : Bool) → false ≡ (p && (between a a k && t))
  second_none true t = first_none t
  second_none false t = refl
