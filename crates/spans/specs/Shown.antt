-- The drawing that a list of places tells.
use Rattle.std.specs.Prelude.{ℕ, ◌+◌, ◌%◌, Bool, if◌then◌else◌, ◌&&◌, List, [], ◌∷◌, ◌==◌, nat_le, nat_lt}

-- how many of the places are at most k
unfoldable pub upto : List ℕ → ℕ → ℕ
upto [] k = 0
upto (p ∷ ps) k = (if nat_le p k then 1 else 0) + upto ps k

abbrev pub odd : ℕ → Bool
odd n = n % 2 == 1

-- cell k of a box of m cells is solid where it lies in the box and an odd number of the places are at most k
unfoldable pub shown : ℕ → List ℕ → ℕ → Bool
shown m ps k = nat_lt k m && odd (upto ps k)
