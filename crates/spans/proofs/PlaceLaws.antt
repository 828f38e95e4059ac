-- Rising places: which numbers are among them, how many they are, and the drawing that they tell.
use Rattle.std.proofs.Common.{◌≡◌, ℕ, zero, suc, ◌+◌, ◌%◌, ◌<◌, ◌≤◌, Bool, true, false, ◌&&◌, ◌||◌, eqb, ltb, leb, List, [], ◌∷◌, length, get_or, Ordering, Less, Equal, Greater, sym, refl, ap, ◌∙◌, subst, ⊎_elim, arith}
use mathlib.Core.Path.{fun_ext}
use Rattle.std.specs.List.{AllByRecursion, AllWithin}
use Rattle.std.specs.Cmp.{ranks, unsigned_tied}
use Rattle.std.specs.Ordering.{eq_by_cmp, MatchOrdering, nat_cmp}
use Rattle.std.specs.List.Sorted.{IsPartitionPoint, IsStrictlySortedBy, IsStrictlyIncreasing}
use Rattle.std.proofs.lemmas.Map.Keys.{below_from_sorted, sorted_from_strictly_increasing}
use Rattle.std.proofs.lemmas.Bool.{ltb-true, lt-ltb, le-ltb, le-leb, lt-leb, eq-eqb, ne_eqb, cases_eq, cases_lt, and_left, and_parts, or_left, or_right}
use Rattle.algebra.specs.Parity.{◌⊻◌}
use Rattle.algebra.proofs.Parity.{xor_false, xor_same}
use Rattle.block.specs.Drawing.{turned}
use Rattle.toggles.specs.Toggled.{has}
use Rattle.toggles.proofs.Rising.{back_within}
use Rattle.spans.specs.Changes.{ChangePlaces, count, differs}
use Rattle.spans.specs.Shown.{odd, shown, upto}
use Rattle.spans.specs.Laws.{shown_within}
use Rattle.spans.proofs.ChangeLaws.{differs_from, differs_same, differs_xor, told, turned_differs}
use Rattle.spans.proofs.Counts.{but, but_else, count_none, count_same, count_turned, one}

-- ---- tests

-- where the first test passes, both pass just where the second does
and_yes : {a : Bool} (b : Bool) → a ≡ true → (a && b) ≡ b
and_yes b e = ap (λ x. x && b) e

ranked : (x y : ℕ) (r : Ordering) → nat_cmp x y ≡ r → MatchOrdering r (x < y) (x ≡ y) (y < x)
ranked x y r e = subst (λ k. MatchOrdering k (x < y) (x ≡ y) (y < x)) e (ranks x y)

-- one more turns odd and even about
odd_more : (b : Bool) (n : ℕ) → odd (one b + n) ≡ (odd n ⊻ b)
odd_more false n = ap odd (let z : 0 + n ≡ n = omega arith in z) ∙ sym (xor_false (odd n))
odd_more true n = ⊎_elim
    (λ (h : n % 2 < 1). eq-eqb ((1 + n) % 2) 1 (omega arith) ∙ sym (ap (λ b. b ⊻ true) (ne_eqb (n % 2) 1 (λ e. omega arith))))
    (λ (h : 1 ≤ n % 2). ne_eqb ((1 + n) % 2) 1 (λ e. omega arith) ∙ sym (ap (λ b. b ⊻ true) (eq-eqb (n % 2) 1 (omega arith))))
    (cases_lt (n % 2) 1)

-- ---- which numbers are among the places

-- by the order of the numbers or by their equality
pub has_by : (ps : List ℕ) (q : ℕ) → has (eq_by_cmp nat_cmp) ps q ≡ has eqb ps q
has_by [] q = refl
has_by (x ∷ xs) q = let a = unsigned_tied q x in let b = has_by xs q in cc

-- a number below all places is not among them
unlisted : (p : ℕ) (ps : List ℕ) → AllByRecursion (λ y. nat_cmp p y ≡ Less) ps → has eqb ps p ≡ false
unlisted p [] h = refl
unlisted p (x ∷ xs) h =
    let l : p < x = ranked p x Less h.0 in
    ap (λ b. b || has eqb xs p) (ne_eqb p x (λ e. omega arith)) ∙ unlisted p xs h.1

-- with one more place below them
has_more : (p : ℕ) (ps : List ℕ) → AllByRecursion (λ y. nat_cmp p y ≡ Less) ps → (i : ℕ) → has eqb (p ∷ ps) i ≡ but (has eqb ps) p i
has_more p ps h i = ⊎_elim
    (λ (e : i ≡ p).
    ap (λ b. b || has eqb ps i) (eq-eqb i p e)
    ∙ sym (xor_same (ap (has eqb ps) e ∙ unlisted p ps h) (eq-eqb i p e)))
    (λ (ne : i ≡ p → ⊥). ap (λ b. b || has eqb ps i) (ne_eqb i p ne) ∙ sym (but_else (has eqb ps) p i ne))
    (cases_eq i p)

-- ---- how many they are

length_count : (m : ℕ) (ps : List ℕ) → IsStrictlySortedBy nat_cmp ps → ((i : ℕ) → has eqb ps i ≡ true → i < m) → length ps ≡ count m (has eqb ps)
unfolding IsStrictlySortedBy
length_count m [] s h = sym (count_none m)
length_count m (p ∷ ps) s h =
    let more = has_more p ps s.0 in
    let same = count_same m (has eqb (p ∷ ps)) (but (has eqb ps) p) (λ i l. more i) in
    let in_box : p < m = h p (or_left (eqb p p) (has eqb ps p) (eq-eqb p p refl)) in
    let rest = length_count m ps s.1 (λ i e. h i (or_right (eqb i p) (has eqb ps i) e)) in
    let new = unlisted p ps s.0 in
    let a = ap one new in
    let b = ap (λ v. one (v ⊻ true)) new in
    omega (arith, count_turned (has eqb ps) p m in_box)

-- places that rise, and are the change places of a drawing, are as many as those
pub lists : (m : ℕ) (d : ℕ → Bool) (ps : List ℕ) → IsStrictlyIncreasing ps → ((i : ℕ) → has eqb ps i ≡ (ltb i m && differs d i)) → ChangePlaces m d ps
lists m d ps up ex = record {
  rising = up;
  exact = ex;
  many =
      length_count m ps (sorted_from_strictly_increasing ps up) (λ i e. ltb-true i m (and_parts (ltb i m) (differs d i) (sym (ex i) ∙ e)).0)
      ∙ count_same m (has eqb ps) (differs d) (λ i l. ex i ∙ and_yes (differs d i) (lt-ltb i m l));
}

-- ---- the drawing that they tell

-- it differs from the cell before just at the places
parity_differs : (ps : List ℕ) → IsStrictlySortedBy nat_cmp ps → (i : ℕ) → differs (λ k. odd (upto ps k)) i ≡ has eqb ps i
unfolding IsStrictlySortedBy upto differs
parity_differs [] s zero = refl
parity_differs [] s (suc i) = refl
parity_differs (p ∷ ps) s i =
    ap (λ (e : ℕ → Bool). differs e i) (fun_ext (λ k. odd_more (leb p k) (upto ps k)))
    ∙ differs_xor (λ k. odd (upto ps k)) (leb p) i
    ∙ xor_same (parity_differs ps s.1 i) (differs_from p i)
    ∙ sym (has_more p ps s.0 i)

module _ (m : ℕ) (d : ℕ → Bool) (ps : List ℕ) (h : ChangePlaces m d ps) where
  -- a cell of the box differs from the cell before just where its number is among them
  pub listed_differs : (i : ℕ) → i < m → differs d i ≡ has eqb ps i
  listed_differs i l = sym (h.exact i ∙ and_yes (differs d i) (lt-ltb i m l))

  -- the change places of a drawing tell that drawing
  told_in : (k : ℕ) → k < m → shown m ps k ≡ d k
  unfolding shown
  told_in = told m (shown m ps) d (λ i l.
      differs_same (shown m ps) (λ k. odd (upto ps k)) i (λ k le. and_yes (odd (upto ps k)) (lt-ltb k m (omega arith)))
      ∙ parity_differs ps (sorted_from_strictly_increasing ps h.rising) i
      ∙ sym (listed_differs i l))

  pub shown_is : ((k : ℕ) → m ≤ k → d k ≡ false) → shown m ps ≡ d
  shown_is out = fun_ext (λ k. ⊎_elim (told_in k) (λ l. shown_within m ps k l ∙ sym (out k l)) (cases_lt k m))

  pub shown_lists : ((k : ℕ) → m ≤ k → d k ≡ false) → ChangePlaces m (shown m ps) ps
  shown_lists out = subst (λ (e : ℕ → Bool). ChangePlaces m e ps) (sym (shown_is out)) h

  -- no number outside the box is among them
  pub past_box : (i : ℕ) → m ≤ i → has eqb ps i ≡ false
  past_box i l = h.exact i ∙ and_left (ltb i m) (differs d i) (le-ltb i m l)

  -- a run changed
  pub lists_turned : (qs : List ℕ) (lo hi : ℕ) → lo < hi → hi ≤ m → IsStrictlyIncreasing qs
      → ((i : ℕ) → i < m → has eqb qs i ≡ but (but (has eqb ps) lo) hi i) → ((i : ℕ) → m ≤ i → has eqb qs i ≡ false)
      → ChangePlaces m (turned d lo hi) qs
  lists_turned qs lo hi l le up inside outside = lists m (turned d lo hi) qs up (λ i. ⊎_elim
      (λ (k : i < m).
      inside i k
      ∙ ap (λ b. b ⊻ eqb i lo ⊻ eqb i hi) (sym (listed_differs i k))
      ∙ sym (turned_differs d lo hi (omega arith) i)
      ∙ sym (and_yes (differs (turned d lo hi) i) (lt-ltb i m k)))
      (λ (k : m ≤ i). outside i k ∙ sym (and_left (ltb i m) (differs (turned d lo hi) i) (le-ltb i m k)))
      (cases_lt i m))

-- ---- how many of them are at most a number

upto_none : (k : ℕ) (ps : List ℕ) → AllWithin (λ y. nat_cmp k y ≡ Less) ps 0 (length ps) → upto ps k ≡ 0
unfolding upto
upto_none k [] h = refl
upto_none k (p ∷ ps) h =
    let l : k < p = ranked k p Less (h 0 0 (omega arith) (omega arith)) in
    let a = ap one (lt-leb p k l) in
    omega (arith, upto_none k ps (λ j d from to. h (suc j) d (omega arith) (omega arith)))

-- as many as stand before the place at which it belongs
pub upto_missing : (k : ℕ) (ps : List ℕ) (i : ℕ) → i ≤ length ps → IsPartitionPoint (λ y. nat_cmp k y ≡ Greater) (λ y. nat_cmp k y ≡ Less) ps i → upto ps k ≡ i
unfolding upto
upto_missing k ps zero le parts = upto_none k ps parts.1
upto_missing k [] (suc i) le parts = absurd (omega arith)
upto_missing k (p ∷ ps) (suc i) le parts =
    let l : p < k = ranked k p Greater (parts.0 0 0 (omega arith) (omega arith)) in
    let a = ap one (le-leb p k (omega arith)) in
    omega (
      arith,
      upto_missing k ps i (omega arith) (
        λ j d from to. parts.0 (suc j) d (omega arith) (omega arith),
        λ j d from to. parts.1 (suc j) d (omega arith) (omega arith),
      ),
    )

-- and itself, where it is one of them
pub upto_found : (k : ℕ) (ps : List ℕ) (i : ℕ) → IsStrictlySortedBy nat_cmp ps → i < length ps → nat_cmp k (get_or ps i k) ≡ Equal → upto ps k ≡ i + 1
unfolding upto IsStrictlySortedBy
upto_found k [] i s l h = absurd (omega arith)
upto_found k (p ∷ ps) zero s l h =
    let e : k ≡ p = ranked k p Equal h in
    let a = ap one (le-leb p k (omega arith)) in
    let above = back_within (λ y. nat_cmp k y ≡ Less) 0 ps (subst (λ q. AllByRecursion (λ y. nat_cmp q y ≡ Less) ps) (sym e) s.0) in
    omega (arith, upto_none k ps above)
upto_found k (p ∷ ps) (suc i) s l h =
    let e : k ≡ get_or ps i k = ranked k (get_or ps i k) Equal h in
    let b : p < k = omega (arith, below_from_sorted (p ∷ ps) 0 (suc i) k s (omega arith) l) in
    let a = ap one (le-leb p k (omega arith)) in
    omega (arith, upto_found k ps i s.1 (omega arith) h)
