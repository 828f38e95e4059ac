-- The front of a list after a `copy_within` by one place: with an element put in, or taken out.
use Rattle.std.proofs.Common.{◌≡◌, ℕ, ◌+◌, ◌-◌, ◌<◌, ◌≤◌, List, length, get_or, set, take, sym, ap, ◌∙◌, ⊎_elim, arith, length-set, get_or-set_other, get_or-set_same}
use Rattle.std.specs.List.{CopiedTo, SameBelow, insert, remove}
use Rattle.std.proofs.lemmas.List.{same_lists, get_or-take, length-take-le}
use Rattle.std.proofs.lemmas.Bool.{cases_lt, cases_order}
use Rattle.std.proofs.lemmas.List.Edits.{length-insert, get_or-insert_below, get_or-insert_at, get_or-insert_above, length-remove, get_or-remove_below, get_or-remove_above}

module _ {X : Type 0} (xs ys : List X) (at len : ℕ) (same : length ys ≡ length xs) where
  -- the elements from `at` on moved up by one, and x written at `at`
  module _ (x : X) (le : at ≤ len) (room : len < length xs) (moved : CopiedTo xs ys at (at + 1) (len - at)) (below : SameBelow xs ys (at + 1)) where
    put_in_at : (k : ℕ) (d : X) → k < len + 1 → get_or (take (len + 1) (set ys at x)) k d ≡ get_or (insert (take len xs) at x) k d
    put_in_at k d h =
        let n = length-take-le len xs (omega arith) in
        let ks = take len xs in
        let ok : at ≤ length ks = omega arith in
        let put : ℕ → X = λ j. get_or (insert ks at x) j d in
        get_or-take (len + 1) (set ys at x) k d h ∙
        ⊎_elim
        (λ (e : k ≡ at). ap (λ j. get_or (set ys at x) j d) e ∙ get_or-set_same ys at x d (omega arith) ∙ sym (ap put e ∙ get_or-insert_at ks at x d ok))
        (⊎_elim
        (λ (l : k < at).
        get_or-set_other ys at k x d (λ e. omega arith) ∙ below k d (omega arith)
        ∙ sym (get_or-insert_below ks at x d k l ok ∙ get_or-take len xs k d (omega arith)))
        (λ (l : at < k).
        let e : k ≡ (k - 1) + 1 = omega arith in
        let from : at + (k - (at + 1)) ≡ k - 1 = omega arith in
        get_or-set_other ys at k x d (λ e. omega arith) ∙ moved k d (omega arith) (omega arith) ∙ ap (λ j. get_or xs j d) from
        ∙ sym (ap put e ∙ get_or-insert_above ks at x d (k - 1) (omega arith) ok ∙ get_or-take len xs (k - 1) d (omega arith))))
        (cases_order k at)

    pub put_in : take (len + 1) (set ys at x) ≡ insert (take len xs) at x
    put_in =
        let n = length-take-le len xs (omega arith) in
        let s = length-set ys at x in
        let m = length-take-le (len + 1) (set ys at x) (omega arith) in
        let q = length-insert (take len xs) at x (omega arith) in
        same_lists (take (len + 1) (set ys at x)) (insert (take len xs) at x) (omega arith) (λ k d h. put_in_at k d (omega arith))

  -- the elements behind `at` moved down by one
  module _ (lt : at < len) (le : len ≤ length xs) (moved : CopiedTo xs ys (at + 1) at (len - (at + 1))) (below : SameBelow xs ys at) where
    taken_out_at : (k : ℕ) (d : X) → k < len - 1 → get_or (take (len - 1) ys) k d ≡ get_or (remove (take len xs) at) k d
    taken_out_at k d h =
        let n = length-take-le len xs le in
        let ks = take len xs in
        let ok : at < length ks = omega arith in
        get_or-take (len - 1) ys k d h ∙
        ⊎_elim
        (λ (l : k < at). below k d l ∙ sym (get_or-remove_below ks at d k l ok ∙ get_or-take len xs k d (omega arith)))
        (λ (l : at ≤ k).
        let from : at + 1 + (k - at) ≡ k + 1 = omega arith in
        moved k d l (omega arith) ∙ ap (λ j. get_or xs j d) from
        ∙ sym (get_or-remove_above ks at d k l ok ∙ get_or-take len xs (k + 1) d (omega arith)))
        (cases_lt k at)

    pub taken_out : take (len - 1) ys ≡ remove (take len xs) at
    taken_out =
        let n = length-take-le len xs le in
        let m = length-take-le (len - 1) ys (omega arith) in
        let q = length-remove (take len xs) at (omega arith) in
        same_lists (take (len - 1) ys) (remove (take len xs) at) (omega arith) (λ k d h. taken_out_at k d (omega arith))
