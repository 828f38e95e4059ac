-- Flips, made one after the other.
use Rattle.std.proofs.Common.{◌≡◌, ℕ, zero, suc, ◌+◌, ◌<◌, Bool, true, false, cond, ◌&&◌, List, [], ◌∷◌, ◌++◌, length, get_or, take, drop, is_ok, Some, None, Ok, Err, Result, sym, refl, ap, ◌∙◌, subst, ⊎_elim, arith}
use Rattle.std.proofs.lemmas.List.{take_more, drop_more, take-append-drop}
use Rattle.std.proofs.lemmas.List.Elements.{All-get_or}
use Rattle.std.proofs.lemmas.Bool.{cond-true, cond-false, true≢false, and_parts, and_cases, and_from, and_left, and_right}
use Rattle.refusals.specs.declared.Refusal.{Refusal}
use Rattle.refusals.specs.declared.Refusal.TheVariants.{NoSand}
use Rattle.block.specs.declared.cells.Run.{Run}
use Rattle.block.specs.Drawing.{number, changed, in_row, flip_refusal, refusal_of}
use Rattle.block.proofs.Turns.{turned_twice}
use Rattle.flips.specs.Drawn.{drawn, all_fit, InBox}

-- a flip made twice
pub changed_twice : (n : ℕ) (d : ℕ → Bool) (w : Run) → changed n (changed n d w) w ≡ d
changed_twice n d w = turned_twice d (number n w.start w.y w.z) (number n w.end w.y w.z)

pub drawn_append : (n : ℕ) (d : ℕ → Bool) (vs ws : List Run) → drawn n d (vs ++ ws) ≡ drawn n (drawn n d vs) ws
drawn_append n d [] ws = refl
drawn_append n d (v ∷ vs) ws = drawn_append n (changed n d v) vs ws

module _ (n : ℕ) (F : (ℕ → Bool) → Bool) where
  pub all_fit_append : (d : ℕ → Bool) (vs ws : List Run) → all_fit n F d (vs ++ ws) ≡ (all_fit n F d vs && all_fit n F (drawn n d vs) ws)
  all_fit_append d [] ws = refl
  all_fit_append d (v ∷ vs) ws = ap (λ b. F (changed n d v) && b) (all_fit_append (changed n d v) vs ws) ∙ and_assoc (F (changed n d v)) _ _
    where
      and_assoc : (a b c : Bool) → (a && (b && c)) ≡ ((a && b) && c)
      and_assoc true b c = refl
      and_assoc false b c = refl

  -- where every drawing on the way fits, so does each of them
  pub fits_after : (d : ℕ → Bool) (ws : List Run) (i : ℕ) → F d ≡ true → all_fit n F d ws ≡ true → F (drawn n d (take i ws)) ≡ true
  fits_after d ws zero e h = e
  fits_after d [] (suc i) e h = e
  fits_after d (w ∷ ws) (suc i) e h = let p = and_parts (F (changed n d w)) _ h in fits_after (changed n d w) ws i p.0 p.1

  pub fits_end : (d : ℕ → Bool) (ws : List Run) → F d ≡ true → all_fit n F d ws ≡ true → F (drawn n d ws) ≡ true
  fits_end d [] e h = e
  fits_end d (w ∷ ws) e h = let p = and_parts (F (changed n d w)) _ h in fits_end (changed n d w) ws p.0 p.1

  -- where it is not so, some drawing on the way does not fit
  pub some_not : (d : ℕ → Bool) (ws : List Run) → all_fit n F d ws ≡ false → (i : ℕ) × ((i < length ws) × (F (drawn n d (take (i + 1) ws)) ≡ false))
  some_not d [] e = absurd (true≢false e)
  some_not d (w ∷ ws) e =
      ⊎_elim
      (λ (here : F (changed n d w) ≡ false). (0, (omega arith, here)))
      (λ (later : all_fit n F (changed n d w) ws ≡ false).
      let r = some_not (changed n d w) ws later in
      (suc r.0, (omega (arith, r.1.0), ap (λ k. F (drawn n d (take k (w ∷ ws)))) (next r.0) ∙ r.1.1)))
      (and_cases (F (changed n d w)) _ e)
    where
      next : (i : ℕ) → suc i + 1 ≡ suc (i + 1)
      next i = omega arith

pub fit_moved : {m n : ℕ} {G F : (ℕ → Bool) → Bool} (d : ℕ → Bool) (ws : List Run) → m ≡ n → G ≡ F → all_fit m G d ws ≡ all_fit n F d ws
fit_moved {m} {n} {G} {F} d ws p q = ap (λ k. all_fit k G d ws) p ∙ ap (λ (K : (ℕ → Bool) → Bool). all_fit n K d ws) q

-- ---- one flip of a block

-- what a block promises of a flip of the drawing d, which becomes e
abbrev pub FlipOf : ℕ → ((ℕ → Bool) → Bool) → (ℕ → Bool) → (ℕ → Bool) → Run → Result (Unit {0}) Refusal → Type 0
FlipOf n F d e w q = (refusal_of q ≡ flip_refusal n F d w) × (e ≡ cond (is_ok q) (changed n d w) d)

flip_moved : {m n : ℕ} {G F : (ℕ → Bool) → Bool} {c d : ℕ → Bool} (e : ℕ → Bool) (w : Run) (q : Result (Unit {0}) Refusal)
    → m ≡ n → G ≡ F → c ≡ d → FlipOf m G c e w q → FlipOf n F d e w q
flip_moved {m} {n} {G} {F} {c} {d} e w q p r s h =
    let a : FlipOf n G c e w q = subst (λ (k : ℕ). FlipOf k G c e w q) p h in
    let b : FlipOf n F c e w q = subst (λ (K : (ℕ → Bool) → Bool). FlipOf n K c e w q) r a in
    subst (λ (k : ℕ → Bool). FlipOf n F k e w q) s b

-- what is refused with 12 unless a test passes is done exactly where it passes
pub done_if : (q : Result (Unit {0}) Refusal) (b : Bool) → refusal_of q ≡ cond b None (Some NoSand) → is_ok q ≡ b
done_if (Ok v) true e = refl
done_if (Ok v) false e = let z : ◌≡◌ {A = ℕ} 0 1 = cc in absurd (omega arith)
done_if (Err r) true e = let z : ◌≡◌ {A = ℕ} 0 1 = cc in absurd (omega arith)
done_if (Err r) false e = refl

-- a flip in the box is made exactly where the changed drawing fits, and is refused with 12 where it does not
made_if : (n : ℕ) (F : (ℕ → Bool) → Bool) (d e : ℕ → Bool) (w : Run) (q : Result (Unit {0}) Refusal) → in_row n w ≡ true
    → FlipOf n F d e w q → (is_ok q ≡ F (changed n d w)) × (e ≡ cond (F (changed n d w)) (changed n d w) d) × (refusal_of q ≡ cond (F (changed n d w)) None (Some NoSand))
made_if n F d e w q inside h =
    let told : refusal_of q ≡ cond (F (changed n d w)) None (Some NoSand) = h.0 ∙ cond-true (in_row n w) _ _ inside in
    let ok : is_ok q ≡ F (changed n d w) = done_if q (F (changed n d w)) told in
    (ok, h.1 ∙ ap (λ b. cond b (changed n d w) d) ok, told)

-- ---- the flip w at the place i of a list that lies in the box, on the way from the drawing d

module _ (n : ℕ) (F : (ℕ → Bool) → Bool) (d : ℕ → Bool) (ws : List Run) (i : ℕ) (w v : Run) (h : i < length ws) (at : w ≡ get_or ws i v) (box : InBox n ws) where
  abbrev here : ℕ → Bool
  here = drawn n d (take i ws)

  abbrev there : ℕ → Bool
  there = changed n here w

  taken : take (i + 1) ws ≡ take i ws ++ w ∷ []
  taken = take_more ws i v h ∙ ap (λ u. take i ws ++ u ∷ []) (sym at)

  drawn_more : drawn n d (take (i + 1) ws) ≡ there
  drawn_more = ap (drawn n d) taken ∙ drawn_append n d (take i ws) (w ∷ [])

  inside : in_row n w ≡ true
  inside = ap (in_row n) at ∙ All-get_or (λ u. in_row n u ≡ true) ws i v h box

  module _ {m : ℕ} {G : (ℕ → Bool) → Bool} {c : ℕ → Bool} (e : ℕ → Bool) (q : Result (Unit {0}) Refusal)
      (side : m ≡ n) (fits : G ≡ F) (told : FlipOf m G c e w q) where
    one : c ≡ here → (is_ok q ≡ F there) × (e ≡ cond (F there) there here) × (refusal_of q ≡ cond (F there) None (Some NoSand))
    one now = made_if n F here e w q inside (flip_moved e w q side fits now told)

    -- it is made, after all before it were
    pub made_more : c ≡ here → all_fit n F d (take i ws) ≡ true → is_ok q ≡ true → (e ≡ drawn n d (take (i + 1) ws)) × (all_fit n F d (take (i + 1) ws) ≡ true)
    made_more now a ok =
        let fit : F there ≡ true = sym (one now).0 ∙ ok in (
          (one now).1 ∙ cond-true (F there) there here fit ∙ sym drawn_more,
          ap (all_fit n F d) taken ∙ all_fit_append n F d (take i ws) (w ∷ []) ∙ and_from _ _ a (and_from _ _ fit refl),
        )

    -- it is refused
    pub made_not : c ≡ here → is_ok q ≡ false → (e ≡ here) × (all_fit n F d ws ≡ false) × (refusal_of q ≡ Some NoSand)
    made_not now off =
        let full : F there ≡ false = sym (one now).0 ∙ off in (
          (one now).1 ∙ cond-false (F there) there here full,
          ap (all_fit n F d) (sym (take-append-drop i ws) ∙ ap (λ vs. take i ws ++ vs) (drop_more ws i v h ∙ ap (λ u. u ∷ drop (i + 1) ws) (sym at)))
              ∙ all_fit_append n F d (take i ws) (w ∷ drop (i + 1) ws) ∙ and_right _ _ (and_left _ _ full),
          (one now).2 ∙ cond-false (F there) _ _ full,
        )

    -- it is made again
    pub made_again : c ≡ drawn n d (take (i + 1) ws) → F d ≡ true → all_fit n F d ws ≡ true → e ≡ here
    made_again now start way =
        let back : changed n there w ≡ here = changed_twice n here w in
        (made_if n F there e w q inside (flip_moved e w q side fits (now ∙ drawn_more) told)).1
        ∙ cond-true (F (changed n there w)) _ _ (ap F back ∙ fits_after n F d ws i start way) ∙ back
