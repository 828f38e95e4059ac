-- What a toggle of a place answers, and leaves.
use Rattle.std.proofs.Common.{◌≡◌, ℕ, ◌+◌, ◌<◌, ◌≤◌, Bool, true, false, cond, not, ◌||◌, eqb, ltb, List, length, MatchBool, sym, refl, ap, ◌∙◌, subst, true≢false, arith}
use Rattle.std.specs.Ordering.{eq_by_cmp, nat_cmp}
use Rattle.std.specs.Cmp.{nat_cmp_total, unsigned_tied}
use Rattle.std.specs.List.Sorted.{IsStrictlyIncreasing}
use Rattle.std.proofs.lemmas.List.Edits.{length-insert, length-remove}
use Rattle.std.proofs.lemmas.Map.Keys.{IsStrictlyIncreasing-from_sorted, sorted_from_strictly_increasing}
use Rattle.std.proofs.lemmas.Bool.{lt-ltb, ltb-false, or_parts, or_right}
use Rattle.algebra.specs.Parity.{◌⊻◌}
use Rattle.algebra.proofs.Parity.{xor_assoc, xor_comm}
use Rattle.toggles.specs.Toggled.{Answered, PutIn, TakenOut, Tells, Toggled, has}
use Rattle.spans.specs.Changes.{TogglesBoth}
use Rattle.spans.proofs.Counts.{but, one}
use Rattle.spans.proofs.PlaceLaws.{has_by}

-- whether a place is kept, as a list of places tells it
pub tells_place : (ps : List ℕ) (p : ℕ) (r : Bool) → Tells nat_cmp ps p r → IsStrictlyIncreasing ps → r ≡ has eqb ps p
tells_place ps p r t up = t.tells nat_cmp_total (sorted_from_strictly_increasing ps up) ∙ has_by ps p

-- a test that one number turns
turn : (a b v : Bool) → a ≡ b → cond a (not v) v ≡ (v ⊻ b)
turn true true true e = refl
turn true true false e = refl
turn true false v e = absurd (true≢false e)
turn false true v e = absurd (true≢false (sym e))
turn false false true e = refl
turn false false false e = refl

module _ (ps qs : List ℕ) (n p : ℕ) (r : Bool) (a : Answered nat_cmp ps qs n p r) (up : IsStrictlyIncreasing ps) where
  -- it is refused only where the place is new and there is no room
  pub toggle_answer : r ≡ (has eqb ps p || ltb (length ps) n)
  toggle_answer = a.answer nat_cmp_total (sorted_from_strictly_increasing ps up) ∙ ap (λ b. b || ltb (length ps) n) (has_by ps p)

  pub toggle_refused : r ≡ false → (has eqb ps p ≡ false) × (n ≤ length ps)
  toggle_refused e =
      let h = or_parts (has eqb ps p) (ltb (length ps) n) (sym toggle_answer ∙ e) in
      (h.0, ltb-false (length ps) n h.1)

  module _ (so : r ≡ true) where
    made : Toggled nat_cmp_total ps qs p
    made = a.toggled nat_cmp_total (sorted_from_strictly_increasing ps up) so

    pub toggle_rises : IsStrictlyIncreasing qs
    toggle_rises = IsStrictlyIncreasing-from_sorted qs made.rising

    -- the place is kept where it was not, and all others are as they were
    pub toggle_has : (i : ℕ) → has eqb qs i ≡ but (has eqb ps) p i
    toggle_has i =
        sym (has_by qs i) ∙ made.swaps i
        ∙ ap (λ v. cond (eq_by_cmp nat_cmp i p) (not v) v) (has_by ps i)
        ∙ turn (eq_by_cmp nat_cmp i p) (eqb i p) (has eqb ps i) (unsigned_tied i p)

    -- one less where the place was kept, else one more
    pub toggle_length : length qs + one (has eqb ps p) ≡ length ps + one (has eqb ps p ⊻ true)
    toggle_length = by (has eqb ps p) (subst (λ b. MatchBool b (TakenOut ps qs) (PutIn ps qs p)) (has_by ps p) made.one)
      where
        by : (b : Bool) → MatchBool b (TakenOut ps qs) (PutIn ps qs p) → length qs + one b ≡ length ps + one (b ⊻ true)
        by true w = omega (arith, ap (length {A = ℕ}) w.2, length-remove ps w.0 w.1)
        by false w = omega (arith, ap (length {A = ℕ}) w.2, length-insert ps w.0 p w.1)

-- ---- two toggles in turn, of which the first makes room, or there is room for both

-- b tells whether the first place is kept
first_goes : (b : Bool) (len n : ℕ) → (b ≡ false → len + 2 ≤ n) → (b || ltb len n) ≡ true
first_goes true len n h = refl
first_goes false len n h = lt-ltb len n (omega (arith, h refl))

second_goes : (b : Bool) (len next n : ℕ) → len ≤ n → (b ≡ false → len + 2 ≤ n) → next + one b ≡ len + one (b ⊻ true) → next < n
second_goes true len next n l h e = omega arith
second_goes false len next n l h e = omega (arith, h refl)

module _ (ps qs : List ℕ) (n p : ℕ) (r : Bool) (a : Answered nat_cmp ps qs n p r) (up : IsStrictlyIncreasing ps)
    (fits : has eqb ps p ≡ false → length ps + 2 ≤ n) where
  pub first_done : r ≡ true
  first_done = toggle_answer ps qs n p r a up ∙ first_goes (has eqb ps p) (length ps) n fits

  module _ (rs : List ℕ) (m q : ℕ) (s : Bool) (b : Answered nat_cmp qs rs m q s) (same : m ≡ n) (within : length ps ≤ n) where
    next_up : IsStrictlyIncreasing qs
    next_up = toggle_rises ps qs n p r a up first_done

    pub second_done : s ≡ true
    second_done =
        let l = second_goes (has eqb ps p) (length ps) (length qs) n within fits (toggle_length ps qs n p r a up first_done) in
        toggle_answer qs rs m q s b next_up ∙ or_right (has eqb qs q) (ltb (length qs) m) (lt-ltb (length qs) m (omega arith))

    pub both_toggled : TogglesBoth ps rs p q
    both_toggled = record {
      rising = toggle_rises qs rs m q s b next_up second_done;
      exact = λ i.
          toggle_has qs rs m q s b next_up second_done i
          ∙ ap (λ v. v ⊻ eqb i q) (toggle_has ps qs n p r a up first_done i);
    }

either_first : (v x y : Bool) → (v ⊻ x ⊻ y) ≡ (v ⊻ y ⊻ x)
either_first v x y = xor_assoc v x y ∙ ap (λ w. v ⊻ w) (xor_comm x y) ∙ sym (xor_assoc v y x)

-- two toggles may change places
pub swapped : (ks ns : List ℕ) (a b : ℕ) → TogglesBoth ks ns b a → TogglesBoth ks ns a b
swapped ks ns a b t = record { rising = t.rising; exact = λ i. t.exact i ∙ either_first (has eqb ks i) (eqb i b) (eqb i a) }
