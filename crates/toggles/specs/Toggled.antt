-- A list of keys as a set, and what it is to toggle a key there. An order o of the keys may tie keys that are not the same: tied keys
-- count as one.
use Rattle.std.specs.Prelude.{◌≡◌, ℕ, ◌<◌, ◌≤◌, Bool, true, false, if◌then◌else◌, not, ◌||◌, List, [], ◌∷◌, length, MatchBool, nat_lt}
use Rattle.std.specs.declared.cmp.Ordering.{Ordering}
use Rattle.std.specs.List.{insert, list_any, remove}
use Rattle.std.specs.Cmp.{IsTotalOrder}
use Rattle.std.specs.Ordering.{eq_by_cmp}
use Rattle.std.specs.List.Sorted.{IsStrictlySortedBy}

-- whether ks has a key that e ties to q
abbrev pub has : {K : Type 0} → (K → K → Bool) → List K → K → Bool
has e ks q = list_any (e q) ks

-- the answer r tells whether k is among the keys ks, where they rise
pub record Tells {K : Type 0} (R : K → K → Ordering) (ks : List K) (k : K) (r : Bool) : Type 0 where
  pub tells : (o : IsTotalOrder R) → IsStrictlySortedBy R ks → r ≡ has (eq_by_cmp R) ks k

-- ns is ks with the key k put in at some place
abbrev pub PutIn : {K : Type 0} → List K → List K → K → Type 0
PutIn ks ns k = (i : ℕ) × (i ≤ length ks) × (ns ≡ insert ks i k)

-- ns is ks without the key at some place
abbrev pub TakenOut : {K : Type 0} → List K → List K → Type 0
TakenOut ks ns = (i : ℕ) × (i < length ks) × (ns ≡ remove ks i)

-- ns is ks with the key k toggled: it rises, it has k exactly where ks has not, and any other key exactly where ks has it; what differs
-- is one key that was taken out or put in
pub record Toggled {K : Type 0} {R : K → K → Ordering} (o : IsTotalOrder R) (ks ns : List K) (k : K) : Type 0 where
  pub rising : IsStrictlySortedBy R ns
  pub swaps : (q : K) → has (eq_by_cmp R) ns q ≡ (if eq_by_cmp R q k then not (has (eq_by_cmp R) ks q) else has (eq_by_cmp R) ks q)
  pub one : MatchBool (has (eq_by_cmp R) ks k) (TakenOut ks ns) (PutIn ks ns k)

-- the answer r to toggling k among the keys ks, where they rise, in n places: no exactly where k is new and the places are all taken;
-- at yes, ns is ks with k toggled
pub record Answered {K : Type 0} (R : K → K → Ordering) (ks ns : List K) (n : ℕ) (k : K) (r : Bool) : Type 0 where
  pub answer : (o : IsTotalOrder R) → IsStrictlySortedBy R ks → r ≡ (has (eq_by_cmp R) ks k || nat_lt (length ks) n)
  pub toggled : (o : IsTotalOrder R) → IsStrictlySortedBy R ks → r ≡ true → Toggled o ks ns k

-- whether an odd number of the keys ts are tied to q
abbrev pub odd_times : {K : Type 0} → (K → K → Bool) → List K → K → Bool
odd_times e [] q = false
odd_times e (t ∷ ts) q = if e q t then not (odd_times e ts q) else odd_times e ts q

-- ks rises, and has exactly the keys that were toggled an odd number of times, where ts are the keys toggled, the last one first
pub record Keeps {K : Type 0} {R : K → K → Ordering} (o : IsTotalOrder R) (ks ts : List K) : Type 0 where
  pub rising : IsStrictlySortedBy R ks
  pub odd : (q : K) → has (eq_by_cmp R) ks q ≡ odd_times (eq_by_cmp R) ts q
