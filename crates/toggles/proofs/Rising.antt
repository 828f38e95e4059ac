-- Keys that rise, and a key among them: it stands at one place, or belongs at one.
use Rattle.std.proofs.Common.{◌≡◌, ℕ, zero, suc, ◌<◌, ◌≤◌, Bool, true, false, List, [], ◌∷◌, length, get_or, take, drop, Ordering, Less, Equal, Greater, sym, ap, subst, ◌∙◌, arith}
use Rattle.std.specs.List.{AllByRecursion, AllWithin, insert, remove}
use Rattle.std.specs.List.Sorted.{IsStrictlySortedBy}
use Rattle.std.specs.Cmp.{IsTotalOrder}
use Rattle.std.specs.Ordering.{eq_by_cmp, is_eq, ordering_reverse}
use Rattle.std.proofs.lemmas.Cmp.{alike_right}
use Rattle.std.proofs.lemmas.Map.Keys.{Less-from_sorted}
use Rattle.toggles.specs.Search.{IsAbovePrevious, IsBelowNext}

-- no key of a list is tied to k
abbrev pub Missing : {K : Type 0} → (K → K → Bool) → K → List K → Type 0
Missing e k ks = AllByRecursion (λ y. e k y ≡ false) ks

-- the first key that is tied to k is the one at a place
abbrev pub Hit : {K : Type 0} → (K → K → Bool) → K → List K → ℕ → Type 0
Hit e k [] i = ⊥
Hit e k (x ∷ xs) zero = e k x ≡ true
Hit e k (x ∷ xs) (suc i) = (e k x ≡ false) × Hit e k xs i

-- ---- what holds of each key

module _ {K : Type 0} (P : K → Type 0) where
  each_so : (Q : K → Type 0) → ((y : K) → P y → Q y) → (xs : List K) → AllByRecursion P xs → AllByRecursion Q xs
  each_so Q f [] h = tt
  each_so Q f (x ∷ xs) h = (f x h.0, each_so Q f xs h.1)

  each_put : (k : K) (i : ℕ) (xs : List K) → P k → AllByRecursion P xs → AllByRecursion P (insert xs i k)
  each_put k zero xs p h = (p, h)
  each_put k (suc i) [] p h = (p, h)
  each_put k (suc i) (x ∷ xs) p h = (h.0, each_put k i xs p h.1)

  each_cut : (i : ℕ) (xs : List K) → AllByRecursion P xs → AllByRecursion P (remove xs i)
  each_cut zero [] h = h
  each_cut (suc i) [] h = h
  each_cut zero (x ∷ xs) h = h.1
  each_cut (suc i) (x ∷ xs) h = (h.0, each_cut i xs h.1)

  -- by places
  pub front_within : (i : ℕ) (xs : List K) → i ≤ length xs → AllByRecursion P (take i xs) → AllWithin P xs 0 i
  front_within zero xs le h k d from to = absurd (omega arith)
  front_within (suc i) [] le h k d from to = absurd (omega arith)
  front_within (suc i) (x ∷ xs) le h zero d from to = h.0
  front_within (suc i) (x ∷ xs) le h (suc k) d from to = front_within i xs (omega arith) h.1 k d (omega arith) (omega arith)

  pub back_within : (i : ℕ) (xs : List K) → AllByRecursion P (drop i xs) → AllWithin P xs i (length xs)
  back_within zero [] h k d from to = absurd (omega arith)
  back_within zero (x ∷ xs) h zero d from to = h.0
  back_within zero (x ∷ xs) h (suc k) d from to = back_within zero xs h.1 k d (omega arith) (omega arith)
  back_within (suc i) [] h k d from to = absurd (omega arith)
  back_within (suc i) (x ∷ xs) h zero d from to = absurd (omega arith)
  back_within (suc i) (x ∷ xs) h (suc k) d from to = back_within i xs h k d (omega arith) (omega arith)

-- ---- keys that rise

pub sorted_none : {K : Type 0} (ks : List K) → ks ≡ [] → (R : K → K → Ordering) → IsStrictlySortedBy R ks
unfolding IsStrictlySortedBy
sorted_none ks e R = subst (IsStrictlySortedBy R) (sym e) tt

pub sorted_cut : {K : Type 0} (R : K → K → Ordering) (i : ℕ) (ks : List K) → IsStrictlySortedBy R ks → IsStrictlySortedBy R (remove ks i)
unfolding IsStrictlySortedBy
sorted_cut R zero [] s = s
sorted_cut R (suc i) [] s = s
sorted_cut R zero (x ∷ xs) s = s.1
sorted_cut R (suc i) (x ∷ xs) s = (each_cut (λ y. R x y ≡ Less) i xs s.0, sorted_cut R i xs s.1)

-- ---- a key among them

module _ {K : Type 0} {R : K → K → Ordering} (o : IsTotalOrder R) (k : K) where
  -- k is greater than what is less than a key that k is greater than
  above : (x y : K) → R x y ≡ Less → R k y ≡ Greater → R k x ≡ Greater
  above x y l g = o.antisymm k x ∙ ap ordering_reverse (o.trans x y k l (o.antisymm y k ∙ ap ordering_reverse g))

  pub before : (ks : List K) (i : ℕ) → IsStrictlySortedBy R ks → i ≤ length ks → IsAbovePrevious R ks k i → AllByRecursion (λ y. R k y ≡ Greater) (take i ks)
  unfolding IsStrictlySortedBy
  before ks zero s l h = tt
  before [] (suc i) s l h = let no : ⊥ = omega arith in absurd no
  before (x ∷ xs) (suc zero) s l h = (h, tt)
  before (x ∷ xs) (suc (suc i)) s l h =
      (above x (get_or xs i k) (Less-from_sorted R (x ∷ xs) 0 (suc i) k s (omega arith) (omega arith)) h, before xs (suc i) s.1 (omega arith) h)

  pub after : (ks : List K) (i : ℕ) → IsStrictlySortedBy R ks → IsBelowNext R ks k i → AllByRecursion (λ y. R k y ≡ Less) (drop i ks)
  unfolding IsStrictlySortedBy
  after [] zero s h = tt
  after [] (suc i) s h = tt
  after (x ∷ xs) zero s h = let l = h (omega arith) in (l, each_so (λ y. R x y ≡ Less) (λ y. R k y ≡ Less) (λ y. o.trans k x y l) xs s.0)
  after (x ∷ xs) (suc i) s h = after xs i s.1 (λ l. h (omega arith))

  pub missing : (ks : List K) (i : ℕ) → AllByRecursion (λ y. R k y ≡ Greater) (take i ks) → AllByRecursion (λ y. R k y ≡ Less) (drop i ks) → Missing (eq_by_cmp R) k ks
  missing ks zero a b = each_so (λ y. R k y ≡ Less) (λ y. eq_by_cmp R k y ≡ false) (λ y l. ap is_eq l) ks b
  missing [] (suc i) a b = tt
  missing (x ∷ xs) (suc i) a b = (ap is_eq a.0, missing xs i a.1 b)

  pub hit : (ks : List K) (i : ℕ) → IsStrictlySortedBy R ks → i < length ks → R k (get_or ks i k) ≡ Equal → Hit (eq_by_cmp R) k ks i × Missing (eq_by_cmp R) k (drop (suc i) ks)
  unfolding IsStrictlySortedBy
  hit [] i s l h = let no : ⊥ = omega arith in absurd no
  hit (x ∷ xs) zero s l h = (ap is_eq h, each_so (λ y. R x y ≡ Less) (λ y. eq_by_cmp R k y ≡ false) (λ y m. ap is_eq (o.congr k x y h ∙ m)) xs s.0)
  hit (x ∷ xs) (suc i) s l h =
      let rest = hit xs i s.1 (omega arith) h in
      let less : R x (get_or xs i k) ≡ Less = Less-from_sorted R (x ∷ xs) 0 (suc i) k s (omega arith) (omega arith) in
      ((ap is_eq (o.antisymm k x ∙ ap ordering_reverse (alike_right o k (get_or xs i k) x h ∙ less)), rest.0), rest.1)

  pub sorted_put : (ks : List K) (i : ℕ) → IsStrictlySortedBy R ks → AllByRecursion (λ y. R k y ≡ Greater) (take i ks) → AllByRecursion (λ y. R k y ≡ Less) (drop i ks) → IsStrictlySortedBy R (insert ks i k)
  unfolding IsStrictlySortedBy
  sorted_put ks zero s a b = (b, s)
  sorted_put [] (suc i) s a b = (tt, tt)
  sorted_put (x ∷ xs) (suc i) s a b =
      (each_put (λ y. R x y ≡ Less) k i xs (o.antisymm x k ∙ ap ordering_reverse a.0) s.0, sorted_put xs i s.1 a.1 b)
