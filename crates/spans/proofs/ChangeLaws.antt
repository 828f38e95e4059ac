-- The change places of drawings: what they tell, and what changing a run does to them.
use Rattle.std.proofs.Common.{◌≡◌, ℕ, zero, suc, ◌+◌, ◌<◌, ◌≤◌, Bool, true, false, cond, not, eqb, ltb, leb, ◌⊎◌, sym, refl, ap, ◌∙◌, inl, inr, ⊎_elim, arith}
use mathlib.Core.Path.{fun_ext}
use mathlib.Core.Bool.{false≢true}
use Rattle.std.proofs.lemmas.Bool.{leb-true, le-leb, lt-leb, lt-ltb, le-ltb, eq-eqb, ne_eqb, cases_lt, cases_order}
use Rattle.algebra.specs.Parity.{◌⊻◌}
use Rattle.algebra.proofs.Parity.{xor_comm, xor_again, xor_same, xor_exchange}
use Rattle.block.specs.Drawing.{turned}
use Rattle.spans.specs.Changes.{changes, differs}
use Rattle.spans.proofs.Counts.{but, but_else, count_past, count_same, count_turned, one}

-- a drawing is told by where it differs from the cell before
pub told : (m : ℕ) (d e : ℕ → Bool) → ((i : ℕ) → i < m → differs d i ≡ differs e i) → (i : ℕ) → i < m → d i ≡ e i
unfolding differs
told m d e h zero l = h zero l
told m d e h (suc i) l =
    let before = told m d e h i (omega arith) in
    let here = h (suc i) l in
    sym (xor_again (d i) (d (suc i))) ∙ xor_same before (xor_comm (d i) (d (suc i)) ∙ here ∙ xor_comm (e (suc i)) (e i)) ∙ xor_again (e i) (e (suc i))

-- drawings that agree up to a cell differ there alike
pub differs_same : (d e : ℕ → Bool) (i : ℕ) → ((k : ℕ) → k ≤ i → d k ≡ e k) → differs d i ≡ differs e i
unfolding differs
differs_same d e zero h = h zero (omega arith)
differs_same d e (suc i) h = xor_same (h (suc i) (omega arith)) (h i (omega arith))

pub differs_xor : (d e : ℕ → Bool) (i : ℕ) → differs (λ k. d k ⊻ e k) i ≡ (differs d i ⊻ differs e i)
unfolding differs
differs_xor d e zero = refl
differs_xor d e (suc i) = xor_exchange (d (suc i)) (e (suc i)) (d i) (e i)

-- what is solid from p on differs at p alone
pub differs_from : (p i : ℕ) → differs (leb p) i ≡ eqb i p
unfolding differs
differs_from p zero = ⊎_elim
    (λ (h : p < 1). le-leb p 0 (omega arith) ∙ sym (eq-eqb 0 p (omega arith)))
    (λ (h : 1 ≤ p). lt-leb p 0 h ∙ sym (ne_eqb 0 p (λ e. omega arith)))
    (cases_lt p 1)
differs_from p (suc i) = ⊎_elim
    (λ (e : p ≡ suc i). xor_same (le-leb p (suc i) (omega arith)) (lt-leb p i (omega arith)) ∙ sym (eq-eqb (suc i) p (sym e)))
    (⊎_elim
    (λ (h : p < suc i). xor_same (le-leb p (suc i) (omega arith)) (le-leb p i (omega arith)) ∙ sym (ne_eqb (suc i) p (λ e. omega arith)))
    (λ (h : suc i < p). xor_same (lt-leb p (suc i) h) (lt-leb p i (omega arith)) ∙ sym (ne_eqb (suc i) p (λ e. omega arith))))
    (cases_order p (suc i))

-- a run changed where c is behind it, and a at its first cell or later
turn : (a c v : Bool) → (c ≡ true → a ≡ true) → cond a (cond (not c) (not v) v) v ≡ (v ⊻ a ⊻ c)
turn true true true h = refl
turn true true false h = refl
turn true false true h = refl
turn true false false h = refl
turn false true v h = absurd (false≢true (h refl))
turn false false true h = refl
turn false false false h = refl

module _ (d : ℕ → Bool) (lo hi : ℕ) (rises : lo ≤ hi) where
  -- to change a run is to change all cells from its first on, and again all cells behind it
  turned_xor : (k : ℕ) → turned d lo hi k ≡ (d k ⊻ leb lo k ⊻ leb hi k)
  unfolding turned
  turned_xor k =
      ap (λ b. cond (leb lo k) (cond b (not (d k)) (d k)) (d k)) (behind (cases_lt k hi))
      ∙ turn (leb lo k) (leb hi k) (d k) (λ e. let h = leb-true hi k e in le-leb lo k (omega arith))
    where
      behind : (k < hi) ⊎ (hi ≤ k) → ltb k hi ≡ not (leb hi k)
      behind (inl h) = lt-ltb k hi h ∙ sym (ap not (lt-leb hi k h))
      behind (inr h) = le-ltb k hi h ∙ sym (ap not (le-leb hi k h))

  -- so it differs from the cell before in other places than before: at the first cell, and at the cell behind the last
  pub turned_differs : (i : ℕ) → differs (turned d lo hi) i ≡ but (but (differs d) lo) hi i
  turned_differs i =
      ap (λ (e : ℕ → Bool). differs e i) (fun_ext turned_xor)
      ∙ differs_xor (λ k. d k ⊻ leb lo k) (leb hi) i
      ∙ xor_same (differs_xor d (leb lo) i ∙ ap (λ b. differs d i ⊻ b) (differs_from lo i)) (differs_from hi i)

-- how many change places there are once a run is changed that goes up to the end of the box
pub changes_to_end : (m : ℕ) (d : ℕ → Bool) (lo hi : ℕ) → lo < m → m ≤ hi
    → changes m (turned d lo hi) + one (differs d lo) ≡ changes m d + one (differs d lo ⊻ true)
changes_to_end m d lo hi l h =
    let e = count_same m (differs (turned d lo hi)) (but (but (differs d) lo) hi) (λ i k. turned_differs d lo hi (omega arith) i) in
    omega (arith, count_past (but (differs d) lo) hi m h, count_turned (differs d) lo m l)

-- and of one that ends before
pub changes_within : (m : ℕ) (d : ℕ → Bool) (lo hi : ℕ) → lo < hi → hi < m
    → changes m (turned d lo hi) + one (differs d lo) + one (differs d hi) ≡ changes m d + one (differs d lo ⊻ true) + one (differs d hi ⊻ true)
changes_within m d lo hi l h =
    let e = count_same m (differs (turned d lo hi)) (but (but (differs d) lo) hi) (λ i k. turned_differs d lo hi (omega arith) i) in
    let other = but_else (differs d) lo hi (λ e. omega arith) in
    let a = ap one other in
    let b = ap (λ v. one (v ⊻ true)) other in
    omega (arith, count_turned (differs d) lo m (omega arith), count_turned (but (differs d) lo) hi m h)
