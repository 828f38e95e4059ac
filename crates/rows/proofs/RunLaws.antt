-- The runs of a row are its longest runs of solid cells, and no other list of runs is.
use Rattle.std.proofs.Common.{◌≡◌, ℕ, zero, suc, ◌+◌, ◌-◌, ◌<◌, ◌≤◌, Bool, true, false, eqb, List, [], ◌∷◌, length, get_or, sym, refl, ap, ◌∙◌, subst, ap₂, ⊎_elim, arith}
use Rattle.std.proofs.lemmas.Bool.{true≢false, cases_lt, cases_order, cond_both, eqb-true, eqb-false}
use Rattle.std.specs.Iterator.{YieldsFirst}
use Rattle.std.proofs.lemmas.Iterator.{YieldsList}
use Rattle.std.proofs.lemmas.Iterator.Consumers.{YieldsList-from_first}
use Rattle.rows.specs.Rows.{AllAre as CellsAre, Longest}
use Rattle.geometry.specs.declared.facet.extent.Span.{Span}
use Rattle.rows.specs.declared.RowRuns.{RowRuns}
use Rattle.rows.specs.Runs.{LongestRun, LongestRuns, run_in, led, runs, told_from, told_runs, runs_left}

-- runs of the same cells
pub runs_same : (p q : ℕ → Bool) (x k : ℕ) → ((j : ℕ) → x ≤ j → j < x + k → p j ≡ q j) → runs p x k ≡ runs q x k
runs_same p q x zero e = refl
runs_same p q x (suc k) e =
    let here : p x ≡ q x = e x (omega arith) (omega arith) in
    let on = runs_same p q (x + 1) k (λ j a b. e j (omega arith) (omega arith)) in
    cc

module _ (n : ℕ) (p : ℕ → Bool) where
  abbrev AllAre : Bool → ℕ → ℕ → Type 0
  AllAre v a b = (j : ℕ) → a ≤ j → j < b → p j ≡ v

  -- the first longest run from a place on
  pub record First (from : ℕ) (r : Span) : Type 0 where
    pub after : from ≤ r.start
    pub some : r.start < r.end
    pub within : r.end ≤ n
    pub before : AllAre false from r.start
    pub solid : AllAre true r.start r.end
    pub behind : r.end < n → p r.end ≡ false

  -- each run is the first one behind the one before, and no cell behind the last is solid
  abbrev pub Chain : ℕ → List Span → Type 0
  Chain from [] = AllAre false from n
  Chain from (r ∷ rs) = First from r × Chain r.end rs

  -- ---- the runs are a chain

  are_none : (v : Bool) (a b : ℕ) → b ≤ a → AllAre v a b
  are_none v a b h j l m = absurd (omega arith)

  -- one cell in front
  are_front : (v : Bool) (a b : ℕ) → p a ≡ v → AllAre v (a + 1) b → AllAre v a b
  are_front v a b e h j l m = ⊎_elim (λ (k : a < j). h j (omega arith) m) (λ k. let same : j ≡ a = omega arith in ap p same ∙ e) (cases_lt a j)

  -- an empty cell in front
  skipped : (x : ℕ) (rs : List Span) → p x ≡ false → Chain (x + 1) rs → Chain x rs
  skipped x [] e h = are_front false x n e h
  skipped x (r ∷ rs) e h =
      let f = h.0 in
      (record { after = omega (arith, f.after); some = f.some; within = f.within; before = are_front false x r.start e f.before; solid = f.solid; behind = f.behind }, h.1)

  -- a solid cell in front
  led_on : (x : ℕ) (rs : List Span) → x < n → p x ≡ true → Chain (x + 1) rs → Chain x (led x rs)
  led_on x [] l e h = (
    record {
      after = omega arith;
      some = omega arith;
      within = omega arith;
      before = are_none false x x (omega arith);
      solid = are_front true x (x + 1) e (are_none true (x + 1) (x + 1) (omega arith));
      behind = λ b. h (x + 1) (omega arith) b;
    },
    h,
  )
  led_on x (r ∷ rs) l e h =
      let f = h.0 in
      cond_both (eqb r.start (x + 1)) _ _ (Chain x)
      (λ q.
      let s = eqb-true r.start (x + 1) q in (
        record {
          after = omega arith;
          some = omega (arith, f.some);
          within = f.within;
          before = are_none false x x (omega arith);
          solid = are_front true x r.end e (subst (λ a. AllAre true a r.end) s f.solid);
          behind = f.behind;
        },
        h.1,
      ))
      (λ q.
      let s : x + 1 < r.start = omega (arith, f.after, eqb-false r.start (x + 1) q) in (
        record {
          after = omega arith;
          some = omega arith;
          within = omega arith;
          before = are_none false x x (omega arith);
          solid = are_front true x (x + 1) e (are_none true (x + 1) (x + 1) (omega arith));
          behind = λ b. f.before (x + 1) (omega arith) s;
        },
        h,
      ))

  pub from_place : (x k : ℕ) → x + k ≡ n → Chain x (runs p x k)
  from_place x zero e = are_none false x n (omega arith)
  from_place x (suc k) e =
      let on = from_place (x + 1) k (omega arith) in
      cond_both (p x) _ _ (Chain x) (λ t. led_on x (runs p (x + 1) k) (omega arith) t on) (λ t. skipped x (runs p (x + 1) k) t on)

  pub runs_chain : Chain 0 (runs p 0 n)
  runs_chain = from_place 0 n (omega arith)

  -- ---- and no other list is

  apart : {X : Type 0} (j : ℕ) → p j ≡ true → p j ≡ false → X
  apart j a b = absurd (true≢false (sym a ∙ b))

  module _ {from : ℕ} (r s : Span) (f : First from r) (g : First from s) where
    starts_late : s.start ≤ r.start
    starts_late = ⊎_elim (λ (k : r.start < s.start). apart r.start (f.solid r.start (omega arith) f.some) (g.before r.start f.after k)) (λ k. k) (cases_lt r.start s.start)

    ends_late : r.start ≡ s.start → s.end ≤ r.end
    ends_late e = ⊎_elim (λ (k : r.end < s.end). apart r.end (g.solid r.end (omega (arith, f.some)) k) (f.behind (omega (arith, g.within)))) (λ k. k) (cases_lt r.end s.end)

  same_run : (r s : Span) → r.start ≡ s.start → r.end ≡ s.end → r ≡ s
  same_run r s start end = ap₂ (λ (a b : ℕ). record { start = a; end = b }) start end

  first_same : {from : ℕ} (r s : Span) → First from r → First from s → r ≡ s
  first_same r s f g =
      let start : r.start ≡ s.start = omega (arith, starts_late r s f g, starts_late s r g f) in
      same_run r s start (omega (arith, ends_late r s f g start, ends_late s r g f (sym start)))

  some_left : {X : Type 0} {from : ℕ} (r : Span) → AllAre false from n → First from r → X
  some_left r none f = apart r.start (f.solid r.start (omega arith) f.some) (none r.start f.after (omega (arith, f.some, f.within)))

  pub chain_same : (from : ℕ) (rs ss : List Span) → Chain from rs → Chain from ss → rs ≡ ss
  chain_same from [] [] h k = refl
  chain_same from [] (s ∷ ss) h k = some_left s h k.0
  chain_same from (r ∷ rs) [] h k = some_left r k h.0
  chain_same from (r ∷ rs) (s ∷ ss) h k =
      let same = first_same r s h.0 k.0 in
      ap₂ (λ (t : Span) (ts : List Span). t ∷ ts) same (chain_same s.end rs ss (subst (λ (t : Span). Chain t.end rs) same h.1) k.1)

  -- ---- a chain has the longest runs, every one of them, by rising x

  -- where a run starts right at a place, no solid cell stands before that place
  abbrev Free : ℕ → Type 0
  Free from = from < n → p from ≡ true → (x : ℕ) → x + 1 ≡ from → p x ≡ false

  chain_each : (from : ℕ) (rs : List Span) → Chain from rs → Free from → (i : ℕ) → i < length rs → LongestRun n p (run_in rs i)
  chain_each from [] h free i l = absurd (omega arith)
  chain_each from (r ∷ rs) h free zero l =
      let f = h.0 in
      record {
        some = f.some;
        within = f.within;
        cells = f.solid;
        behind = f.behind;
        before = λ x e. ⊎_elim
            (λ (k : x < from).
            let same : r.start ≡ from = omega (arith, f.after) in
            free (omega (arith, f.some, f.within)) (ap p (sym same) ∙ f.solid r.start (omega arith) f.some) x (e ∙ same))
            (λ (k : from ≤ x). f.before x k (omega arith))
            (cases_lt x from);
      }
  chain_each from (r ∷ rs) h free (suc i) l = chain_each r.end rs h.1 (λ b t. apart r.end t (h.0.behind b)) i (omega arith)

  module _ (s : Span) (f : LongestRun n p s) where
    starts_solid : p s.start ≡ true
    starts_solid = f.cells s.start (omega arith) f.some

    ends_same : (r : Span) {from : ℕ} → First from r → s.start ≡ r.start → s.end ≡ r.end
    ends_same r g e = ⊎_elim (λ t. t)
        (⊎_elim
        (λ (k : s.end < r.end). apart s.end (g.solid s.end (omega (arith, f.some)) k) (f.behind (omega (arith, g.within))))
        (λ (k : r.end < s.end). apart r.end (f.cells r.end (omega (arith, g.some)) k) (g.behind (omega (arith, f.within)))))
        (cases_order s.end r.end)

    chain_every : (from : ℕ) (rs : List Span) → Chain from rs → from ≤ s.start → (i : ℕ) × ((i < length rs) × (run_in rs i ≡ s))
    chain_every from [] h l = apart s.start starts_solid (h s.start l (omega (arith, f.some, f.within)))
    chain_every from (r ∷ rs) h l =
        let g = h.0 in
        ⊎_elim
        (λ (e : s.start ≡ r.start). (0, (omega arith, same_run r s (sym e) (sym (ends_same r g e)))))
        (⊎_elim
        (λ (k : s.start < r.start). apart s.start starts_solid (g.before s.start l k))
        (λ (k : r.start < s.start). ⊎_elim
        (λ (u : s.start < r.end).
        apart (s.start - 1) (g.solid (s.start - 1) (omega arith) (omega arith)) (f.before (s.start - 1) (omega arith)))
        (λ (u : r.end ≤ s.start). let t = chain_every r.end rs h.1 u in (suc t.0, (omega (arith, t.1.0), t.1.1)))
        (cases_lt s.start r.end)))
        (cases_order s.start r.start)

  chain_rising : (from : ℕ) (rs : List Span) → Chain from rs → (i : ℕ) → i + 1 < length rs → (run_in rs i).start < (run_in rs (i + 1)).start
  chain_rising from [] h i l = absurd (omega arith)
  chain_rising from (r ∷ []) h i l = absurd (omega arith)
  chain_rising from (r ∷ s ∷ rs) h zero l = omega (arith, h.0.some, h.1.0.after)
  chain_rising from (r ∷ s ∷ rs) h (suc i) l =
      let e : suc i + 1 ≡ suc (i + 1) = omega arith in
      subst (λ (k : ℕ). (run_in (s ∷ rs) i).start < (run_in (r ∷ s ∷ rs) k).start) (sym e) (chain_rising r.end (s ∷ rs) h.1 i (omega arith))

  -- THE RUNS OF A ROW ARE ITS LONGEST RUNS OF SOLID CELLS
  pub runs_longest : LongestRuns n p (runs p 0 n)
  runs_longest =
      let h = runs_chain in
      record {
        each = chain_each 0 (runs p 0 n) h (λ b t x e. absurd (omega arith));
        every = λ s f. chain_every s f 0 (runs p 0 n) h (omega arith);
        rising = chain_rising 0 (runs p 0 n) h;
      }

-- the first run of a row whose cells are told one by one
pub first_told : (cells : List Bool) (from : ℕ) (r : Span) → Longest cells from r.start r.end → First (length cells) (λ x. get_or cells x false) from r
first_told cells from r f = record { after = f.after; some = f.some; within = f.within; before = f.before; solid = f.solid; behind = f.behind }

-- ---- the runs from a place on

runs_none : (p : ℕ → Bool) (x k : ℕ) → ((j : ℕ) → x ≤ j → j < x + k → p j ≡ false) → runs p x k ≡ []
runs_none p x zero e = refl
runs_none p x (suc k) e =
    let here : p x ≡ false = e x (omega arith) (omega arith) in
    let on = runs_none p (x + 1) k (λ j a b. e j (omega arith) (omega arith)) in
    cc

-- where no cell from a place on is solid, there are none
pub told_none : (cells : List Bool) (from : ℕ) → CellsAre cells false from (length cells) → told_from cells from ≡ []
told_none cells from none = runs_none (λ x. get_or cells x false) from (length cells - from) (λ j a b. none j a (omega arith))

-- the first one, and those from its end on
pub told_first : (cells : List Bool) (from : ℕ) (r : Span) → Longest cells from r.start r.end → told_from cells from ≡ r ∷ told_from cells r.end
told_first cells from r f =
    let n = length cells in
    let p : ℕ → Bool = λ x. get_or cells x false in
    chain_same n p from (told_from cells from) (r ∷ told_from cells r.end)
    (from_place n p from (n - from) (omega (arith, f.after, f.some, f.within)))
    (first_told cells from r f, from_place n p r.end (n - r.end) (omega (arith, f.within)))

-- those from the first cell on are all of them
pub told_all : (cells : List Bool) → told_from cells 0 ≡ told_runs cells
told_all cells = ap (runs (λ x. get_or cells x false) 0) (omega arith)

-- and all of them are the longest runs
pub told_longest : (cells : List Bool) (rs : List Span) → rs ≡ told_runs cells → LongestRuns (length cells) (λ x. get_or cells x false) rs
told_longest cells rs e = subst (LongestRuns (length cells) (λ x. get_or cells x false)) (sym e) (runs_longest (length cells) (λ x. get_or cells x false))

-- ---- there are no more runs than cells

length-led : (x : ℕ) (rs : List Span) → length (led x rs) ≤ length rs + 1
length-led x [] = omega arith
length-led x (r ∷ rs) = cond_both (eqb r.start (x + 1)) _ _ (λ ts. length ts ≤ length (r ∷ rs) + 1) (λ e. omega arith) (λ e. omega arith)

length-runs : (p : ℕ → Bool) (x k : ℕ) → length (runs p x k) ≤ k
length-runs p x zero = omega arith
length-runs p x (suc k) =
    cond_both (p x) _ _ (λ ts. length ts ≤ suc k) (λ e. omega (arith, length-led x (runs p (x + 1) k), length-runs p (x + 1) k)) (λ e. omega (arith, length-runs p (x + 1) k))

pub length-told_runs : (cells : List Bool) → length (told_runs cells) ≤ length cells
length-told_runs cells = length-runs (λ x. get_or cells x false) 0 (length cells)

-- ---- what a loop over them takes

pub YieldsList-from_runs : {s : RowRuns} (cells : List Bool) → runs_left s ≡ told_runs cells → YieldsList (YieldsFirst runs_left) (λ r. r) s (told_runs cells)
YieldsList-from_runs cells e = YieldsList-from_first (λ r. r) runs_left (told_runs cells) e
