-- A text that is cut at a byte.
use Rattle.std.proofs.Common.{◌≡◌, ℕ, suc, ◌+◌, ◌==◌, Bool, true, false, cond, not, eqb, List, [], ◌∷◌, take, drop, refl, ap, arith}
use Rattle.std.specs.List.{position_or_len, prefix_len}

-- the bytes before the first `stop`, and those from it on
abbrev pub before : ℕ → List ℕ → List ℕ
before stop [] = []
before stop (c ∷ cs) = cond (eqb c stop) [] (c ∷ before stop cs)

abbrev pub from : ℕ → List ℕ → List ℕ
from stop [] = []
from stop (c ∷ cs) = cond (eqb c stop) (c ∷ cs) (from stop cs)

-- the bytes without the spaces in front
abbrev pub past_spaces : List ℕ → List ℕ
past_spaces [] = []
past_spaces (c ∷ cs) = cond (eqb c 32) (past_spaces cs) (c ∷ cs)

one_more : (n : ℕ) → 1 + n ≡ suc n
one_more n = omega arith

-- one byte more in front, at which the text is cut, or else n bytes behind it
module _ (c : ℕ) (cs : List ℕ) (n : ℕ) where
  before_one : (b : Bool) (xs : List ℕ) → take n cs ≡ xs → take (cond (not b) (1 + n) 0) (c ∷ cs) ≡ cond b [] (c ∷ xs)
  before_one true xs e = refl
  before_one false xs e = rw (one_more n) (ap (λ ys. c ∷ ys) e)

  from_one : (b : Bool) (xs : List ℕ) → drop n cs ≡ xs → drop (cond (not b) (1 + n) 0) (c ∷ cs) ≡ cond b (c ∷ cs) xs
  from_one true xs e = refl
  from_one false xs e = rw (one_more n) e

pub before_is : (stop : ℕ) (bs : List ℕ) → take (position_or_len (λ b. b == stop) bs) bs ≡ before stop bs
before_is stop [] = refl
before_is stop (c ∷ cs) = before_one c cs (position_or_len (λ b. b == stop) cs) (eqb c stop) (before stop cs) (before_is stop cs)

pub from_is : (stop : ℕ) (bs : List ℕ) → drop (position_or_len (λ b. b == stop) bs) bs ≡ from stop bs
from_is stop [] = refl
from_is stop (c ∷ cs) = from_one c cs (position_or_len (λ b. b == stop) cs) (eqb c stop) (from stop cs) (from_is stop cs)

pub past_is : (bs : List ℕ) → drop (prefix_len (λ b. b == 32) bs) bs ≡ past_spaces bs
past_is [] = refl
past_is (c ∷ cs) = by_case (eqb c 32) (past_is cs)
  where
    by_case : (b : Bool) {xs : List ℕ} → drop (prefix_len (λ b. b == 32) cs) cs ≡ xs
        → drop (cond b (1 + prefix_len (λ b. b == 32) cs) 0) (c ∷ cs) ≡ cond b xs (c ∷ cs)
    by_case true e = rw (one_more (prefix_len (λ b. b == 32) cs)) e
    by_case false e = refl
