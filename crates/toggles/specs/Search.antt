-- Where a search for a key ends, among any keys and then among keys that rise.
use Rattle.std.specs.Prelude.{◌≡◌, ℕ, suc, zero, ◌<◌, ◌≤◌, ⊤, List, length, Ok, Err, Result, slice_index_or}
use Rattle.std.specs.declared.cmp.Ordering.TheVariants.{Less, Equal, Greater}
use Rattle.std.specs.declared.cmp.Ordering.{Ordering}
use Rattle.std.specs.List.Sorted.{IsPartitionPoint}
use Rattle.std.specs.Cmp.{IsTotalOrder}

-- the key before the place i, where there is one, is less than k
abbrev pub IsAbovePrevious : {K : Type 0} → (K → K → Ordering) → List K → K → ℕ → Type 0
IsAbovePrevious R ks k zero = ⊤
IsAbovePrevious R ks k (suc i) = R k (slice_index_or ks i k) ≡ Greater

-- the key at the place i, where there is one, is greater than k
abbrev pub IsBelowNext : {K : Type 0} → (K → K → Ordering) → List K → K → ℕ → Type 0
IsBelowNext R ks k i = i < length ks → R k (slice_index_or ks i k) ≡ Less

-- what the order R answered where a search for k ended. This holds of any keys and any order: at Ok i, the key at i is level with k; at
-- Err i, k is greater than the key before the place i, and less than the one there
abbrev pub Place : {K : Type 0} → (K → K → Ordering) → List K → K → Result ℕ ℕ → Type 0
Place R ks k (Ok i) = (i < length ks) × (R k (slice_index_or ks i k) ≡ Equal)
Place R ks k (Err i) = (i ≤ length ks) × IsAbovePrevious R ks k i × IsBelowNext R ks k i

-- among keys that rise: at Ok i, the key at i is level with k; at Err i, k is greater than each key before the place i, and less than
-- each key from there on
abbrev pub Stands : {K : Type 0} {R : K → K → Ordering} → IsTotalOrder R → List K → K → Result ℕ ℕ → Type 0
Stands {R} o ks k (Ok i) = (i < length ks) × (R k (slice_index_or ks i k) ≡ Equal)
Stands {R} o ks k (Err i) = (i ≤ length ks) × IsPartitionPoint (λ y. R k y ≡ Greater) (λ y. R k y ≡ Less) ks i
