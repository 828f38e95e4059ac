-- Equations between polynomials with integer coefficients, decided by computing: `ring ρ e f refl` proves that two expressions are
-- equal at every value of their variables, once both have the same normal form.
use Rattle.std.proofs.Common.{◌≡◌, ℕ, zero, suc, Bool, true, false, cond, eqb, ltb, leb, List, [], ◌∷◌, ℤ, pos, negsuc, ◌+ℤ◌, ◌-ℤ◌, ◌*ℤ◌, sym, refl, ap, ◌∙◌, arith, eqb-true}
use mathlib.Core.Bool.{false≢true}
use Rattle.std.proofs.lemmas.Int.{ints}
use lib.IntN.{zero-*ℤ, *ℤ_comm, +ℤ_idl, +ℤ_assoc}
use Rattle.algebra.proofs.IntRing.{add_mul, mul_add, mul_assoc}

infixl 6 ◌⊕◌ ◌⊖◌
infixl 7 ◌⊗◌
pub data Expr : Type 0 where
  var : ℕ → Expr
  num : ℤ → Expr
  ◌⊕◌ : Expr → Expr → Expr
  ◌⊖◌ : Expr → Expr → Expr
  ◌⊗◌ : Expr → Expr → Expr

abbrev at : List ℤ → ℕ → ℤ
at [] n = pos 0
at (x ∷ xs) zero = x
at (x ∷ xs) (suc n) = at xs n

abbrev pub value : List ℤ → Expr → ℤ
value ρ (var n) = at ρ n
value ρ (num z) = z
value ρ (e ⊕ f) = value ρ e +ℤ value ρ f
value ρ (e ⊖ f) = value ρ e -ℤ value ρ f
value ρ (e ⊗ f) = value ρ e *ℤ value ρ f

-- a product of variables, and its value
abbrev Mono : Type 0
Mono = List ℕ

abbrev mono : List ℤ → Mono → ℤ
mono ρ [] = pos 1
mono ρ (v ∷ m) = at ρ v *ℤ mono ρ m

pub record Term : Type 0 where
  pub by : ℤ
  pub of : List ℕ

abbrev poly : List ℤ → List Term → ℤ
poly ρ [] = pos 0
poly ρ (t ∷ p) = t.by *ℤ mono ρ t.of +ℤ poly ρ p

-- the normal form: variables rise in a product, products rise in a sum, and no coefficient is 0
abbrev put : ℕ → Mono → Mono
put v [] = v ∷ []
put v (w ∷ m) = cond (leb v w) (v ∷ w ∷ m) (w ∷ put v m)

abbrev join : Mono → Mono → Mono
join [] k = k
join (v ∷ m) k = put v (join m k)

abbrev same : Mono → Mono → Bool
same [] [] = true
same [] (w ∷ k) = false
same (v ∷ m) [] = false
same (v ∷ m) (w ∷ k) = cond (eqb v w) (same m k) false

abbrev before : Mono → Mono → Bool
before [] k = true
before (v ∷ m) [] = false
before (v ∷ m) (w ∷ k) = cond (eqb v w) (before m k) (ltb v w)

abbrev is_zero : ℤ → Bool
is_zero (pos zero) = true
is_zero (pos (suc n)) = false
is_zero (negsuc n) = false

abbrev keep : ℤ → Mono → List Term → List Term
keep c m p = cond (is_zero c) p (record { by = c; of = m } ∷ p)

abbrev add1 : ℤ → Mono → List Term → List Term
add1 c m [] = keep c m []
add1 c m (t ∷ p) = cond (same m t.of) (keep (c +ℤ t.by) m p) (cond (before m t.of) (keep c m (t ∷ p)) (t ∷ add1 c m p))

abbrev plus : List Term → List Term → List Term
plus [] q = q
plus (t ∷ p) q = add1 t.by t.of (plus p q)

abbrev times1 : ℤ → Mono → List Term → List Term
times1 c m [] = []
times1 c m (t ∷ p) = add1 (c *ℤ t.by) (join m t.of) (times1 c m p)

abbrev times : List Term → List Term → List Term
times [] q = []
times (t ∷ p) q = plus (times1 t.by t.of q) (times p q)

abbrev minus_one : ℤ
minus_one = negsuc 0

abbrev pub normal : Expr → List Term
normal (var n) = record { by = pos 1; of = n ∷ [] } ∷ []
normal (num z) = keep z [] []
normal (e ⊕ f) = plus (normal e) (normal f)
normal (e ⊖ f) = plus (normal e) (times1 minus_one [] (normal f))
normal (e ⊗ f) = times (normal e) (normal f)

-- ---- the normal form has the value of the expression

module _ (ρ : List ℤ) where
  swap : (a b c : ℤ) → a *ℤ (b *ℤ c) ≡ b *ℤ (a *ℤ c)
  swap a b c = sym (mul_assoc a b c) ∙ ap (λ x. x *ℤ c) (*ℤ_comm a b) ∙ mul_assoc b a c

  pick : {A : Type 0} (f : A → ℤ) (b : Bool) (x y : A) (z : ℤ) → f x ≡ z → f y ≡ z → f (cond b x y) ≡ z
  pick f true x y z p q = p
  pick f false x y z p q = q

  pick_so : {A : Type 0} (f : A → ℤ) (b : Bool) (x y : A) (z : ℤ) → (b ≡ true → f x ≡ z) → f y ≡ z → f (cond b x y) ≡ z
  pick_so f true x y z p q = p refl
  pick_so f false x y z p q = q

  put_is : (v : ℕ) (m : Mono) → mono ρ (put v m) ≡ at ρ v *ℤ mono ρ m
  put_is v [] = refl
  put_is v (w ∷ m) =
      pick (mono ρ) (leb v w) (v ∷ w ∷ m) (w ∷ put v m) _ refl
      (ap (λ x. at ρ w *ℤ x) (put_is v m) ∙ swap (at ρ w) (at ρ v) (mono ρ m))

  one_mul : (z : ℤ) → pos 1 *ℤ z ≡ z
  one_mul z = omega (arith, ints)

  join_is : (m k : Mono) → mono ρ (join m k) ≡ mono ρ m *ℤ mono ρ k
  join_is [] k = sym (one_mul (mono ρ k))
  join_is (v ∷ m) k = put_is v (join m k) ∙ ap (λ x. at ρ v *ℤ x) (join_is m k) ∙ sym (mul_assoc (at ρ v) (mono ρ m) (mono ρ k))

  both : (b c : Bool) → cond b c false ≡ true → (b ≡ true) × (c ≡ true)
  both true c e = (refl, e)
  both false c e = absurd (false≢true e)

  same_is : (m k : Mono) → same m k ≡ true → m ≡ k
  same_is [] [] e = refl
  same_is [] (w ∷ k) e = absurd (false≢true e)
  same_is (v ∷ m) [] e = absurd (false≢true e)
  same_is (v ∷ m) (w ∷ k) e =
      let h = both (eqb v w) (same m k) e in
      let p = eqb-true v w h.0 in
      let q = same_is m k h.1 in
      cc

  zero_is : (c : ℤ) → is_zero c ≡ true → c ≡ pos 0
  zero_is (pos zero) e = refl
  zero_is (pos (suc n)) e = absurd (false≢true e)
  zero_is (negsuc n) e = absurd (false≢true e)

  keep_is : (c : ℤ) (m : Mono) (p : List Term) → poly ρ (keep c m p) ≡ c *ℤ mono ρ m +ℤ poly ρ p
  keep_is c m p =
      pick_so (poly ρ) (is_zero c) p (record { by = c; of = m } ∷ p) _
      (λ e. sym (ap (λ x. x *ℤ mono ρ m +ℤ poly ρ p) (zero_is c e) ∙ ap (λ x. x +ℤ poly ρ p) (zero-*ℤ (mono ρ m)) ∙ +ℤ_idl (poly ρ p)))
      refl

  add_left : (a b c : ℤ) → a +ℤ (b +ℤ c) ≡ b +ℤ (a +ℤ c)
  add_left a b c = omega (arith, ints)

  add1_is : (c : ℤ) (m : Mono) (p : List Term) → poly ρ (add1 c m p) ≡ c *ℤ mono ρ m +ℤ poly ρ p
  add1_is c m [] = keep_is c m []
  add1_is c m (t ∷ p) =
      let M = mono ρ m in
      let N = mono ρ t.of in
      pick_so (poly ρ) (same m t.of) (keep (c +ℤ t.by) m p) (cond (before m t.of) (keep c m (t ∷ p)) (t ∷ add1 c m p)) _
      (λ e. keep_is (c +ℤ t.by) m p ∙ ap (λ x. x +ℤ poly ρ p) (add_mul c t.by M)
      ∙ +ℤ_assoc (c *ℤ M) (t.by *ℤ M) (poly ρ p)
      ∙ ap (λ k. c *ℤ M +ℤ (t.by *ℤ mono ρ k +ℤ poly ρ p)) (same_is m t.of e))
      (pick (poly ρ) (before m t.of) (keep c m (t ∷ p)) (t ∷ add1 c m p) _
      (keep_is c m (t ∷ p))
      (ap (λ x. t.by *ℤ N +ℤ x) (add1_is c m p) ∙ add_left (t.by *ℤ N) (c *ℤ M) (poly ρ p)))

  plus_is : (p q : List Term) → poly ρ (plus p q) ≡ poly ρ p +ℤ poly ρ q
  plus_is [] q = sym (+ℤ_idl (poly ρ q))
  plus_is (t ∷ p) q =
      add1_is t.by t.of (plus p q) ∙ ap (λ x. t.by *ℤ mono ρ t.of +ℤ x) (plus_is p q)
      ∙ sym (+ℤ_assoc (t.by *ℤ mono ρ t.of) (poly ρ p) (poly ρ q))

  mul_mul : (a b c d : ℤ) → (a *ℤ b) *ℤ (c *ℤ d) ≡ (a *ℤ c) *ℤ (b *ℤ d)
  mul_mul a b c d = mul_assoc a b (c *ℤ d) ∙ ap (λ x. a *ℤ x) (swap b c d) ∙ sym (mul_assoc a c (b *ℤ d))

  times1_is : (c : ℤ) (m : Mono) (p : List Term) → poly ρ (times1 c m p) ≡ (c *ℤ mono ρ m) *ℤ poly ρ p
  times1_is c m [] = sym (*ℤ_comm (c *ℤ mono ρ m) (pos 0) ∙ zero-*ℤ (c *ℤ mono ρ m))
  times1_is c m (t ∷ p) =
      let M = mono ρ m in
      let N = mono ρ t.of in
      add1_is (c *ℤ t.by) (join m t.of) (times1 c m p)
      ∙ ap (λ x. (c *ℤ t.by) *ℤ x +ℤ poly ρ (times1 c m p)) (join_is m t.of)
      ∙ ap (λ x. x +ℤ poly ρ (times1 c m p)) (mul_mul c t.by M N)
      ∙ ap (λ x. (c *ℤ M) *ℤ (t.by *ℤ N) +ℤ x) (times1_is c m p)
      ∙ sym (mul_add (c *ℤ M) (t.by *ℤ N) (poly ρ p))

  times_is : (p q : List Term) → poly ρ (times p q) ≡ poly ρ p *ℤ poly ρ q
  times_is [] q = sym (zero-*ℤ (poly ρ q))
  times_is (t ∷ p) q =
      plus_is (times1 t.by t.of q) (times p q)
      ∙ ap (λ x. x +ℤ poly ρ (times p q)) (times1_is t.by t.of q)
      ∙ ap (λ x. (t.by *ℤ mono ρ t.of) *ℤ poly ρ q +ℤ x) (times_is p q)
      ∙ sym (add_mul (t.by *ℤ mono ρ t.of) (poly ρ p) (poly ρ q))

  alone : (z : ℤ) → z ≡ pos 1 *ℤ (z *ℤ pos 1) +ℤ pos 0
  alone z = omega (arith, ints)

  number : (z : ℤ) → z ≡ z *ℤ pos 1 +ℤ pos 0
  number z = omega (arith, ints)

  less : (a b : ℤ) → a -ℤ b ≡ a +ℤ (negsuc 0 *ℤ pos 1) *ℤ b
  less a b = omega (arith, ints)

  normal_is : (e : Expr) → value ρ e ≡ poly ρ (normal e)
  normal_is (var n) = alone (at ρ n)
  normal_is (num z) = number z ∙ sym (keep_is z [] [])
  normal_is (e ⊕ f) =
      ap (λ x. x +ℤ value ρ f) (normal_is e) ∙ ap (λ x. poly ρ (normal e) +ℤ x) (normal_is f) ∙ sym (plus_is (normal e) (normal f))
  normal_is (e ⊖ f) =
      ap (λ x. x -ℤ value ρ f) (normal_is e) ∙ ap (λ x. poly ρ (normal e) -ℤ x) (normal_is f)
      ∙ less (poly ρ (normal e)) (poly ρ (normal f))
      ∙ ap (λ x. poly ρ (normal e) +ℤ x) (sym (times1_is (negsuc 0) [] (normal f)))
      ∙ sym (plus_is (normal e) (times1 (negsuc 0) [] (normal f)))
  normal_is (e ⊗ f) =
      ap (λ x. x *ℤ value ρ f) (normal_is e) ∙ ap (λ x. poly ρ (normal e) *ℤ x) (normal_is f) ∙ sym (times_is (normal e) (normal f))

  pub ring : (e f : Expr) → normal e ≡ normal f → value ρ e ≡ value ρ f
  ring e f h = normal_is e ∙ ap (poly ρ) h ∙ sym (normal_is f)
