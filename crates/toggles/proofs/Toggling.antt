-- A key put in where it belongs among rising keys, or taken out where it stands, is toggled there.
use Rattle.std.proofs.Common.{◌≡◌, ℕ, zero, suc, ◌<◌, ◌≤◌, Bool, true, false, cond, not, ◌||◌, ltb, List, [], ◌∷◌, length, take, drop, is_ok, Ok, Err, MatchBool, Result, Ordering, Less, Greater, sym, refl, ap, ◌∙◌, subst}
use mathlib.Core.Bool.{false≢true}
use Rattle.std.specs.List.{AllByRecursion, insert, remove}
use Rattle.std.specs.Cmp.{IsTotalOrder}
use Rattle.std.specs.Ordering.{eq_by_cmp}
use Rattle.std.specs.List.Sorted.{IsStrictlySortedBy}
use Rattle.std.proofs.lemmas.Cmp.{eq_by_cmp_equiv}
use Rattle.std.proofs.lemmas.Bool.{lt-ltb, le-ltb}
use Rattle.toggles.specs.Search.{Place, Stands}
use Rattle.toggles.proofs.Rising.{Missing, Hit, back_within, front_within, before, after, missing, hit, sorted_put, sorted_cut, sorted_none}
use Rattle.toggles.specs.Toggled.{has, PutIn, TakenOut, Tells, Toggled, Answered, Keeps}

-- ---- tests

or_swap : (a b l : Bool) → (a || (b || l)) ≡ (b || (a || l))
or_swap true true l = refl
or_swap true false l = refl
or_swap false b l = refl

under : (a b l : Bool) → (b ≡ true → a ≡ false) → (a || cond b false l) ≡ cond b false (a || l)
under a true l h = ap (λ z. z || false) (h refl)
under a false l h = refl

gone : (b l : Bool) → (b ≡ true → l ≡ false) → l ≡ cond b false (b || l)
gone true l h = h refl
gone false l h = refl

swap_in : (b l : Bool) → (b ≡ true → l ≡ false) → (b || l) ≡ cond b (not l) l
swap_in true l h = sym (ap not (h refl))
swap_in false l h = refl

swap_out : (b l : Bool) → (b ≡ true → l ≡ true) → cond b false l ≡ cond b (not l) l
swap_out true l h = sym (ap not (h refl))
swap_out false l h = refl

when_yes : (b : Bool) (P Q : Type 0) → b ≡ true → P → MatchBool b P Q
when_yes b P Q e p = subst (λ z. MatchBool z P Q) (sym e) p

when_no : (b : Bool) (P Q : Type 0) → b ≡ false → Q → MatchBool b P Q
when_no b P Q e q = subst (λ z. MatchBool z P Q) (sym e) q

-- ---- which keys a list has

module _ {K : Type 0} (e : K → K → Bool) where
  has_missing : (k : K) (ks : List K) → Missing e k ks → has e ks k ≡ false
  has_missing k [] m = refl
  has_missing k (x ∷ xs) m = ap (λ z. z || has e xs k) m.0 ∙ has_missing k xs m.1

  has_hit : (k : K) (ks : List K) (i : ℕ) → Hit e k ks i → has e ks k ≡ true
  has_hit k [] i t = absurd t
  has_hit k (x ∷ xs) zero t = ap (λ z. z || has e xs k) t
  has_hit k (x ∷ xs) (suc i) t = ap (λ z. z || has e xs k) t.0 ∙ has_hit k xs i t.1

  module _ (flip : (x y : K) → e x y ≡ e y x) (alike : (x y z : K) → e x y ≡ true → e x z ≡ e y z) (k q : K) where
    has_alike : (ks : List K) → e q k ≡ true → has e ks q ≡ has e ks k
    has_alike [] t = refl
    has_alike (x ∷ xs) t = ap (λ z. z || has e xs q) (alike q k x t) ∙ ap (λ z. e k x || z) (has_alike xs t)

    apart : (x : K) → e k x ≡ false → e q k ≡ true → e q x ≡ false
    apart x f t = alike q k x t ∙ f

    turned : (x : K) → e k x ≡ true → e q x ≡ e q k
    turned x t = flip q x ∙ sym (alike k x q t) ∙ flip k q

    has_put : (i : ℕ) (ks : List K) → Missing e k ks → has e (insert ks i k) q ≡ (e q k || has e ks q)
    has_put zero ks m = refl
    has_put (suc i) [] m = refl
    has_put (suc i) (x ∷ xs) m =
        ap (λ z. e q x || z) (has_put i xs m.1) ∙ or_swap (e q x) (e q k) (has e xs q)

    has_cut : (ks : List K) (i : ℕ) → Hit e k ks i → Missing e k (drop (suc i) ks) → has e (remove ks i) q ≡ cond (e q k) false (has e ks q)
    has_cut [] i t m = absurd t
    has_cut (x ∷ xs) zero t m =
        gone (e q k) (has e xs q) (λ s. has_alike xs s ∙ has_missing k xs m)
        ∙ ap (λ z. cond (e q k) false (z || has e xs q)) (sym (turned x t))
    has_cut (x ∷ xs) (suc i) t m =
        ap (λ z. e q x || z) (has_cut xs i t.1 m) ∙ under (e q x) (e q k) (has e xs q) (apart x t.0)

-- ---- where a search for k ended

module _ {K : Type 0} {R : K → K → Ordering} (o : IsTotalOrder R) (k : K) (ks : List K) (s : IsStrictlySortedBy R ks) where
  lesser : (i : ℕ) → Place R ks k (Err i) → AllByRecursion (λ y. R k y ≡ Greater) (take i ks)
  lesser i p = before o k ks i s p.0 p.1

  greater : (i : ℕ) → Place R ks k (Err i) → AllByRecursion (λ y. R k y ≡ Less) (drop i ks)
  greater i p = after o k ks i s p.2

  none_tied : (i : ℕ) → Place R ks k (Err i) → Missing (eq_by_cmp R) k ks
  none_tied i p = missing o k ks i (lesser i p) (greater i p)

  new_key : (i : ℕ) → Place R ks k (Err i) → has (eq_by_cmp R) ks k ≡ false
  new_key i p = has_missing (eq_by_cmp R) k ks (none_tied i p)

  old_key : (i : ℕ) → Place R ks k (Ok i) → has (eq_by_cmp R) ks k ≡ true
  old_key i p = has_hit (eq_by_cmp R) k ks i (hit o k ks i s p.0 p.1).0

  -- whether it found the key tells whether the key is there
  pub place_has : (r : Result ℕ ℕ) → Place R ks k r → is_ok r ≡ has (eq_by_cmp R) ks k
  place_has (Ok i) p = sym (old_key i p)
  place_has (Err i) p = sym (new_key i p)

  pub place_stands : (r : Result ℕ ℕ) → Place R ks k r → Stands o ks k r
  place_stands (Ok i) p = p
  place_stands (Err i) p =
      (p.0, (front_within (λ y. R k y ≡ Greater) i ks p.0 (lesser i p), back_within (λ y. R k y ≡ Less) i ks (greater i p)))

  flip : (x y : K) → eq_by_cmp R x y ≡ eq_by_cmp R y x
  flip = (eq_by_cmp_equiv o).symm

  tied_alike : (x y z : K) → eq_by_cmp R x y ≡ true → eq_by_cmp R x z ≡ eq_by_cmp R y z
  tied_alike = (eq_by_cmp_equiv o).congr

  alike : (q : K) → eq_by_cmp R q k ≡ true → has (eq_by_cmp R) ks q ≡ has (eq_by_cmp R) ks k
  alike q t = has_alike (eq_by_cmp R) flip tied_alike k q ks t

  put_toggles : (i : ℕ) → Place R ks k (Err i) → Toggled o ks (insert ks i k) k
  put_toggles i p = record {
    rising = sorted_put o k ks i s (lesser i p) (greater i p);
    swaps = λ q. has_put (eq_by_cmp R) flip tied_alike k q i ks (none_tied i p)
        ∙ swap_in (eq_by_cmp R q k) (has (eq_by_cmp R) ks q) (λ t. alike q t ∙ new_key i p);
    one = when_no (has (eq_by_cmp R) ks k) (TakenOut ks (insert ks i k)) (PutIn ks (insert ks i k) k) (new_key i p) (i, p.0, refl);
  }

  cut_toggles : (i : ℕ) → Place R ks k (Ok i) → Toggled o ks (remove ks i) k
  cut_toggles i p =
      let h = hit o k ks i s p.0 p.1 in
      record {
        rising = sorted_cut R i ks s;
        swaps = λ q. has_cut (eq_by_cmp R) flip tied_alike k q ks i h.0 h.1
            ∙ swap_out (eq_by_cmp R q k) (has (eq_by_cmp R) ks q) (λ t. alike q t ∙ old_key i p);
        one = when_yes (has (eq_by_cmp R) ks k) (TakenOut ks (remove ks i)) (PutIn ks (remove ks i) k) (old_key i p) (i, p.0, refl);
      }

module _ {K : Type 0} {R : K → K → Ordering} (k : K) (ks : List K) where
  pub place_tells : (p : Result ℕ ℕ) (r : Bool) → Place R ks k p → r ≡ is_ok p → Tells R ks k r
  place_tells p r at e = record { tells = λ o s. e ∙ place_has o k ks s p at }

module _ {K : Type 0} {R : K → K → Ordering} (k : K) (ks : List K) (i n : ℕ) where
  pub put_answers : (ns : List K) → Place R ks k (Err i) → length ks < n → ns ≡ insert ks i k → Answered R ks ns n k true
  put_answers ns p l e = record {
    answer = λ o s. sym (ap (λ z. z || ltb (length ks) n) (new_key o k ks s i p) ∙ lt-ltb (length ks) n l);
    toggled = λ o s so. subst (λ xs. Toggled o ks xs k) (sym e) (put_toggles o k ks s i p);
  }

  pub full_answers : Place R ks k (Err i) → n ≤ length ks → Answered R ks ks n k false
  full_answers p l = record {
    answer = λ o s. sym (ap (λ z. z || ltb (length ks) n) (new_key o k ks s i p) ∙ le-ltb (length ks) n l);
    toggled = λ o s so. absurd (false≢true so);
  }

  pub cut_answers : (ns : List K) → Place R ks k (Ok i) → ns ≡ remove ks i → Answered R ks ns n k true
  cut_answers ns p e = record {
    answer = λ o s. sym (ap (λ z. z || ltb (length ks) n) (old_key o k ks s i p));
    toggled = λ o s so. subst (λ xs. Toggled o ks xs k) (sym e) (cut_toggles o k ks s i p);
  }

-- ---- the keys toggled so far

pub keeps_none : {K : Type 0} {R : K → K → Ordering} (o : IsTotalOrder R) (ks : List K) → ks ≡ [] → Keeps o ks []
keeps_none {R = R} o ks e = record {
  rising = sorted_none ks e R;
  odd = λ q. ap (λ xs. has (eq_by_cmp R) xs q) e;
}

pub keeps_more : {K : Type 0} {R : K → K → Ordering} (ks ns : List K) (n : ℕ) (k : K) → Answered R ks ns n k true
    → (o : IsTotalOrder R) (ts : List K) → Keeps o ks ts → Keeps o ns (k ∷ ts)
keeps_more {R = R} ks ns n k a o ts h =
    let t = a.toggled o h.rising refl in
    record { rising = t.rising; odd = λ q. t.swaps q ∙ ap (λ z. cond (eq_by_cmp R q k) (not z) z) (h.odd q) }
