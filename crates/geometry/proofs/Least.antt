-- The least place at which a test is passed.
use Rattle.std.proofs.Common.{◌≡◌, ℕ, zero, suc, ◌<◌, ◌≤◌, Bool, true, false, cond, leb, sym, refl, ap, ◌∙◌, ⊎_elim, arith}
use Rattle.std.proofs.lemmas.Bool.{cases_Bool}
use Rattle.geometry.specs.Cells.{least}

-- a test that once begun goes on is passed from its least place on
from_first : (p : ℕ → Bool) → ((k : ℕ) → p k ≡ true → p (suc k) ≡ true) → p 0 ≡ true → (x : ℕ) → p x ≡ true
from_first p on e zero = e
from_first p on e (suc x) = on x (from_first p on e x)

pub least_on : (p : ℕ → Bool) (n x : ℕ) → ((k : ℕ) → p k ≡ true → p (suc k) ≡ true) → x < n → leb (least p n) x ≡ p x
least_on p zero x on h = absurd (omega arith)
least_on p (suc n) zero on h = first (p 0) (least (λ k. p (suc k)) n)
  where
    first : (b : Bool) (m : ℕ) → leb (cond b 0 (suc m)) 0 ≡ b
    first true m = refl
    first false m = grind arith
least_on p (suc n) (suc x) on h =
    ⊎_elim
    (λ (e : p 0 ≡ true). ap (λ b. leb (cond b 0 (suc (least (λ k. p (suc k)) n))) (suc x)) e ∙ none (suc x) ∙ sym (from_first p on e (suc x)))
    (λ (e : p 0 ≡ false).
    ap (λ b. leb (cond b 0 (suc (least (λ k. p (suc k)) n))) (suc x)) e ∙ down (least (λ k. p (suc k)) n) x
    ∙ least_on (λ k. p (suc k)) n x (λ k. on (suc k)) (omega arith))
    (cases_Bool (p 0))
  where
    none : (x : ℕ) → leb 0 x ≡ true
    none x = grind arith

    down : (k x : ℕ) → leb (suc k) (suc x) ≡ leb k x
    down k x = grind arith

pub least_le : (p : ℕ → Bool) (n : ℕ) → least p n ≤ n
least_le p zero = omega arith
least_le p (suc n) = step (p 0) (least (λ k. p (suc k)) n) (least_le (λ k. p (suc k)) n)
  where
    step : (b : Bool) (m : ℕ) → m ≤ n → cond b 0 (suc m) ≤ suc n
    step true m h = omega arith
    step false m h = omega arith
