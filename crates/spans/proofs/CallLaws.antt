-- What the calls of a span block answer, and leave.
use Rattle.std.proofs.Common.{◌≡◌, ℕ, zero, suc, ◌<◌, ◌≤◌, false, cond, ◌&&◌, ltb, List, [], is_ok, Ok, Err, OnErr, OnOk, Result, sym, refl, ap, ◌∙◌, subst, arith}
use Rattle.std.proofs.lemmas.Bool.{and_right, lt-ltb}
use Rattle.block.specs.Drawing.{blank, turned}
use Rattle.block.proofs.Turns.{turned_high}
use Rattle.spans.specs.Changes.{ChangePlaces, differs}
use Rattle.spans.specs.Shown.{odd, shown, upto}
use Rattle.spans.specs.Laws.{shown_within}
use Rattle.spans.proofs.PlaceLaws.{lists, shown_is, shown_lists}

-- ---- a new block

blank_differs : (i : ℕ) → differs blank i ≡ false
unfolding differs
blank_differs zero = refl
blank_differs (suc i) = refl

-- no places are the change places of the blank drawing
blank_lists : (m : ℕ) (ps : List ℕ) → ps ≡ [] → ChangePlaces m blank ps
blank_lists m ps e = subst (ChangePlaces m blank) (sym e)
    (lists m blank [] (λ k h. absurd (omega arith)) (λ i. sym (and_right (ltb i m) (differs blank i) (blank_differs i))))

pub none_sound : (m : ℕ) (ps : List ℕ) → ps ≡ [] → ChangePlaces m (shown m ps) ps
none_sound m ps e = shown_lists m blank ps (blank_lists m ps e) (λ k l. refl)

pub none_blank : (m : ℕ) (ps : List ℕ) → ps ≡ [] → shown m ps ≡ blank
none_blank m ps e = shown_is m blank ps (blank_lists m ps e) (λ k l. refl)

-- ---- a look at a cell

pub odd_shown : (m k before : ℕ) (ps : List ℕ) → k < m → before ≡ upto ps k → odd before ≡ shown m ps k
unfolding shown
odd_shown m k before ps l e = ap odd e ∙ ap (λ b. b && odd (upto ps k)) (sym (lt-ltb k m l))

-- ---- a run changed

-- the places ps become those of the changed drawing at `Ok`, and stay as they are at `Err`
module _ {T E : Type 0} (m lo hi : ℕ) (ps qs : List ℕ) (le : hi ≤ m) (r : Result T E)
    (done : OnOk r (ChangePlaces m (turned (shown m ps) lo hi) qs)) (same : OnErr r (qs ≡ ps)) where
  none_past : (k : ℕ) → m ≤ k → turned (shown m ps) lo hi k ≡ false
  none_past k l = turned_high (shown m ps) lo hi k (omega arith) ∙ shown_within m ps k l

  pub change_listed : ChangePlaces m (shown m ps) ps → ChangePlaces m (shown m qs) qs
  change_listed h = by r done same
    where
      by : (q : Result T E) → OnOk q (ChangePlaces m (turned (shown m ps) lo hi) qs) → OnErr q (qs ≡ ps) → ChangePlaces m (shown m qs) qs
      by (Ok v) d s = shown_lists m (turned (shown m ps) lo hi) qs d none_past
      by (Err e) d s = subst (λ xs. ChangePlaces m (shown m xs) xs) (sym s) h

  pub change_shown : shown m qs ≡ cond (is_ok r) (turned (shown m ps) lo hi) (shown m ps)
  change_shown = by r done same
    where
      by : (q : Result T E) → OnOk q (ChangePlaces m (turned (shown m ps) lo hi) qs) → OnErr q (qs ≡ ps)
          → shown m qs ≡ cond (is_ok q) (turned (shown m ps) lo hi) (shown m ps)
      by (Ok v) d s = shown_is m (turned (shown m ps) lo hi) qs d none_past
      by (Err e) d s = ap (shown m) s
