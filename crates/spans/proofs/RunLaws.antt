-- A run of cells changed in a drawing, by the change places of the drawing.
use Rattle.std.proofs.Common.{◌≡◌, ℕ, ◌+◌, ◌<◌, ◌≤◌, Bool, true, false, eqb, leb, List, length, is_ok, Ok, Err, OnErr, OnOk, Result, sym, refl, ap, ◌∙◌, arith}
use Rattle.std.specs.Ordering.{nat_cmp}
use Rattle.std.proofs.lemmas.Bool.{lt-leb}
use Rattle.std.proofs.lemmas.Result.{on_err_weaker, on_ok_weaker}
use Rattle.algebra.specs.Parity.{◌⊻◌}
use Rattle.block.specs.Drawing.{turned}
use Rattle.toggles.specs.Toggled.{Answered, has}
use Rattle.spans.specs.Changes.{ChangePlaces, TogglesBoth, changes, differs}
use Rattle.spans.specs.Laws.{listed_fits}
use Rattle.spans.proofs.ChangeLaws.{changes_to_end, changes_within}
use Rattle.spans.proofs.Counts.{but, but_else, one}
use Rattle.spans.proofs.PlaceLaws.{lists_turned, listed_differs, past_box}
use Rattle.spans.proofs.StepLaws.{toggle_has, toggle_refused, toggle_rises}

-- the answer r to changing the cells from lo up to, and without, hi of the drawing d of a box of m cells, in n places: whether the changed
-- drawing fits; if so, qs are its change places
pub record Ran {T E : Type 0} (m : ℕ) (d : ℕ → Bool) (lo hi n : ℕ) (qs : List ℕ) (r : Result T E) : Type 0 where
  pub fits : is_ok r ≡ leb (changes m (turned d lo hi)) n
  pub drawn : OnOk r (ChangePlaces m (turned d lo hi) qs)

module _ (m : ℕ) (d : ℕ → Bool) (ps qs : List ℕ) (lo hi n : ℕ) (h : ChangePlaces m d ps) (l : lo < hi) (le : hi ≤ m) (room : length qs ≤ n) where
  ran : {T E : Type 0} (r : Result T E) → OnOk r (ChangePlaces m (turned d lo hi) qs) → OnErr r (n < changes m (turned d lo hi)) → Ran m d lo hi n qs r
  ran (Ok v) done full = record { fits = sym (listed_fits m n (turned d lo hi) qs done room); drawn = done }
  ran (Err e) done full = record { fits = sym (lt-leb (changes m (turned d lo hi)) n full); drawn = tt }

  -- a new place is one where the drawing has none
  new_place : (i : ℕ) → i < m → has eqb ps i ≡ false → differs d i ≡ false
  new_place i k e = listed_differs m d ps h i k ∙ e

  -- a run that ends before the box does: both its ends are toggled, unless both are new and there is no room for two
  pub ran_within : {T E : Type 0} (r : Result T E) → hi < m → OnOk r (TogglesBoth ps qs lo hi)
      → OnErr r ((has eqb ps lo ≡ false) × (has eqb ps hi ≡ false) × (n < length ps + 2)) → Ran m d lo hi n qs r
  ran_within r e done full = ran r
      (on_ok_weaker r (λ (f : TogglesBoth ps qs lo hi).
      lists_turned m d ps h qs lo hi l le f.rising (λ i _. f.exact i)
      (λ i k.
      f.exact i
      ∙ but_else (but (has eqb ps) lo) hi i (λ z. omega arith)
      ∙ but_else (has eqb ps) lo i (λ z. omega arith)
      ∙ past_box m d ps h i k)) done)
      (on_err_weaker r (λ (f : (has eqb ps lo ≡ false) × (has eqb ps hi ≡ false) × (n < length ps + 2)).
      let a = new_place lo (omega arith) f.0 in
      let b = new_place hi e f.1 in
      omega (arith, h.many, f.2, changes_within m d lo hi l e, ap one a, ap one b, ap (λ v. one (v ⊻ true)) a, ap (λ v. one (v ⊻ true)) b)) full)

  -- a run that goes up to the end of the box: its first cell alone is toggled, unless that is new and there is no room
  pub ran_to_end : {T E : Type 0} (r : Result T E) → m ≤ hi → Answered nat_cmp ps qs n lo (is_ok r) → Ran m d lo hi n qs r
  ran_to_end (Ok v) e answer =
      let up = toggle_rises ps qs n lo true answer h.rising refl in
      let more = toggle_has ps qs n lo true answer h.rising refl in
      ran (Ok v)
      (lists_turned m d ps h qs lo hi l le up
      (λ i k. more i ∙ sym (but_else (but (has eqb ps) lo) hi i (λ z. omega arith)))
      (λ i k. more i ∙ but_else (has eqb ps) lo i (λ z. omega arith) ∙ past_box m d ps h i k))
      tt
  ran_to_end (Err v) e answer =
      let f = toggle_refused ps qs n lo false answer h.rising refl in
      let a = new_place lo (omega arith) f.0 in
      let short : n < changes m (turned d lo hi) =
      omega (arith, h.many, f.1, changes_to_end m d lo hi (omega arith) e, ap one a, ap (λ v. one (v ⊻ true)) a) in
      ran (Err v) tt short
