-- The cells that a triangle's closed span meets, by its least and its greatest coordinate.
use Rattle.std.proofs.Common.{◌≡◌, ℕ, suc, ◌<◌, Bool, true, not, ltb, leb, ℤ, pos, ◌+ℤ◌, ◌-ℤ◌, ◌*ℤ◌, ap, ◌∙◌, arith}
use Rattle.std.proofs.lemmas.Int.{ints}
use lib.Signed.{le_z}
use Rattle.geometry.specs.Cells.{high, least, low}
use Rattle.geometry.specs.Read.{half}
use Rattle.geometry.proofs.Least.{least_on}

-- start + 16 k is not negative
abbrev pub risen : ℤ → ℕ → Bool
risen start k = le_z (pos 0) (start +ℤ pos 16 *ℤ pos k)

goes_on : (start : ℤ) (k : ℕ) → risen start k ≡ true → risen start (suc k) ≡ true
goes_on start k e = grind (arith, ints)

-- from the least such k on every cell ends at a or behind it
pub reaching : (a : ℤ) (n k : ℕ) → k < n → leb (least (risen (pos 16 -ℤ a)) n) k ≡ le_z a (high half (pos k))
reaching a n k h = least_on (risen (pos 16 -ℤ a)) n k (goes_on (pos 16 -ℤ a)) h ∙ same a k
  where
    same : (a : ℤ) (k : ℕ) → risen (pos 16 -ℤ a) k ≡ le_z a (high half (pos k))
    same a k = grind (arith, ints)

-- and every cell before it begins at a or before it
pub behind : (a : ℤ) (n k : ℕ) → k < n → ltb k (least (risen (pos 0 -ℤ a -ℤ pos 1)) n) ≡ le_z (low half (pos k)) a
behind a n k h =
    other (least (risen (pos 0 -ℤ a -ℤ pos 1)) n) k ∙ ap not (least_on (risen (pos 0 -ℤ a -ℤ pos 1)) n k (goes_on (pos 0 -ℤ a -ℤ pos 1)) h) ∙ same a k
  where
    other : (m k : ℕ) → ltb k m ≡ not (leb m k)
    other m k = grind arith

    same : (a : ℤ) (k : ℕ) → not (risen (pos 0 -ℤ a -ℤ pos 1) k) ≡ le_z (low half (pos k)) a
    same a k = grind (arith, ints)
