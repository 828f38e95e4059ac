-- Runs of cells, changed.
use Rattle.std.proofs.Common.{◌≡◌, ℕ, ◌+◌, ◌<◌, ◌≤◌, Bool, true, false, cond, not, eqb, ltb, leb, refl, arith}
use mathlib.Core.Path.{fun_ext}
use Rattle.std.proofs.lemmas.Bool.Decides.{nat_tests}
use Rattle.block.specs.Drawing.{turned}

-- an empty run changes nothing
pub turned_none : (d : ℕ → Bool) (lo : ℕ) → turned d lo lo ≡ d
unfolding turned
turned_none d lo = fun_ext (λ k. grind (arith, nat_tests))

-- a cell in the run
pub turned_in : (d : ℕ → Bool) (lo hi k : ℕ) → lo ≤ k → k < hi → turned d lo hi k ≡ not (d k)
unfolding turned
turned_in d lo hi k a b = grind (arith, nat_tests)

-- a cell before the run
pub turned_low : (d : ℕ → Bool) (lo hi k : ℕ) → k < lo → turned d lo hi k ≡ d k
unfolding turned
turned_low d lo hi k a = grind (arith, nat_tests)

-- a cell behind the run
pub turned_high : (d : ℕ → Bool) (lo hi k : ℕ) → hi ≤ k → turned d lo hi k ≡ d k
unfolding turned
turned_high d lo hi k a = grind (arith, nat_tests)

-- a run of one cell
pub turned_one : (d : ℕ → Bool) (lo k : ℕ) → turned d lo (lo + 1) k ≡ cond (eqb k lo) (not (d k)) (d k)
unfolding turned
turned_one d lo k = grind (arith, nat_tests)

-- two runs, one after the other
pub turned_joins : (d : ℕ → Bool) (lo mid hi : ℕ) → lo ≤ mid → mid ≤ hi → turned (turned d lo mid) mid hi ≡ turned d lo hi
unfolding turned
turned_joins d lo mid hi a b = fun_ext (λ k. grind (arith, nat_tests))

-- the same run twice
pub turned_twice : (d : ℕ → Bool) (lo hi : ℕ) → turned (turned d lo hi) lo hi ≡ d
unfolding turned
turned_twice d lo hi = fun_ext (λ k. twice (leb lo k) (ltb k hi) (d k))
  where
    twice : (a b v : Bool) → cond a (cond b (not (cond a (cond b (not v) v) v)) (cond a (cond b (not v) v) v)) (cond a (cond b (not v) v) v) ≡ v
    twice true true true = refl
    twice true true false = refl
    twice true false v = refl
    twice false b v = refl
