-- Counting the numbers below n that pass a test.
use Rattle.std.proofs.Common.{◌≡◌, ℕ, zero, suc, ◌+◌, ◌<◌, ◌≤◌, Bool, true, false, cond, eqb, refl, ap, ◌∙◌, ⊎_elim, arith}
use Rattle.std.proofs.lemmas.Bool.{eq-eqb, ne_eqb, cases_eq}
use Rattle.algebra.specs.Parity.{◌⊻◌}
use Rattle.algebra.proofs.Parity.{xor_false}
use Rattle.spans.specs.Changes.{count}

-- 1 where the test passes, else 0
abbrev pub one : Bool → ℕ
one b = cond b 1 0

-- tests that agree below n count the same
pub count_same : (n : ℕ) (f g : ℕ → Bool) → ((i : ℕ) → i < n → f i ≡ g i) → count n f ≡ count n g
unfolding count
count_same zero f g h = refl
count_same (suc n) f g h =
    let here = h n (omega arith) in
    let below = count_same n f g (λ i l. h i (omega arith)) in
    cc

pub count_none : (n : ℕ) → count n (λ i. false) ≡ 0
unfolding count
count_none zero = refl
count_none (suc n) = omega (arith, count_none n)

-- the test f, turned at p
abbrev pub but : (ℕ → Bool) → ℕ → ℕ → Bool
but f p i = f i ⊻ eqb i p

module _ (f : ℕ → Bool) (p : ℕ) where
  pub but_here : but f p p ≡ (f p ⊻ true)
  but_here = ap (λ b. f p ⊻ b) (eq-eqb p p refl)

  pub but_else : (i : ℕ) → (i ≡ p → ⊥) → but f p i ≡ f i
  but_else i ne = ap (λ b. f i ⊻ b) (ne_eqb i p ne) ∙ xor_false (f i)

  -- a test turned at a number past the end counts the same
  pub count_past : (n : ℕ) → n ≤ p → count n (but f p) ≡ count n f
  count_past n h = count_same n (but f p) f (λ i l. but_else i (λ e. omega arith))

  -- a test turned at a number below n counts one less where it passed there, else one more
  pub count_turned : (n : ℕ) → p < n → count n (but f p) + one (f p) ≡ count n f + one (f p ⊻ true)
  unfolding count
  count_turned zero h = absurd (omega arith)
  count_turned (suc n) h = ⊎_elim
      (λ (e : n ≡ p).
      let past = count_past n (omega arith) in
      let g : but f p n ≡ (f p ⊻ true) = ap (but f p) e ∙ but_here in
      let k : f n ≡ f p = ap f e in
      let a = ap one g in
      let b = ap one k in
      omega arith)
      (λ (ne : n ≡ p → ⊥).
      let below = count_turned n (omega arith) in
      let a = ap one (but_else n ne) in
      omega arith)
      (cases_eq n p)
