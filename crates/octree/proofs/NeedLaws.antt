-- What a drawing of a region needs depends on the region's cells alone, and is made up of what its children need.
use Rattle.std.proofs.Common.{◌≡◌, ℕ, zero, suc, ◌+◌, ◌*◌, ◌<◌, ◌≤◌, Bool, true, false, cond, not, ◌&&◌, ◌||◌, ◌⊎◌, sym, refl, ap, ◌∙◌, inl, inr, ⊎_elim, arith}
use Rattle.std.proofs.lemmas.Bool.{cond-true}
use Rattle.block.specs.declared.cells.Cell.{Cell}
use Rattle.octree.specs.declared.cells.Kind.{Kind}
use Rattle.octree.specs.declared.cells.Kind.TheVariants.{AllEmpty, AllSolid, Mixed}
use Rattle.octree.specs.Regions.{width, origin, plus, start_of, sum8, all8, all_are, mixed, need_of}
use Rattle.octree.specs.OnTheWay.{Inside, all_empty, all_solid, both, blend, wants, Shows}
use Rattle.octree.proofs.Eights.{sum8_ext, sum8_most, all8_ext, all8_each}
use Rattle.octree.proofs.Places.{cell_path, child_inside}

-- ---- two drawings with the same cells, each in a region of its own

-- the cells from c on are those from c' on
abbrev Same : ℕ → (Cell → Bool) → Cell → (Cell → Bool) → Cell → Type 0
Same n p c q c' = (a : Cell) → Inside (width n) a → p (plus c a) ≡ q (plus c' a)

plus_origin : (c : Cell) → plus c origin ≡ c
plus_origin c = cell_path (omega arith) (omega arith) (omega arith)

plus_plus : (c s a : Cell) → plus (plus c s) a ≡ plus c (plus s a)
plus_plus c s a = cell_path (omega arith) (omega arith) (omega arith)

first_same : (p q : Cell → Bool) (c c' : Cell) → Same 0 p c q c' → p c ≡ q c'
first_same p q c c' h = sym (ap p (plus_origin c)) ∙ h origin (omega arith, omega arith, omega arith) ∙ ap q (plus_origin c')

child_same : (n : ℕ) (p q : Cell → Bool) (c c' : Cell) → Same (suc n) p c q c' → (k : ℕ) → Same n p (plus c (start_of (width n) k)) q (plus c' (start_of (width n) k))
child_same n p q c c' h k a m = ap p (plus_plus c (start_of (width n) k) a) ∙ h (plus (start_of (width n) k) a) (child_inside (width n) k a m) ∙ sym (ap q (plus_plus c' (start_of (width n) k) a))

pub all_same : (v : Bool) (n : ℕ) (p q : Cell → Bool) (c c' : Cell) → Same n p c q c' → all_are v n p c ≡ all_are v n q c'
all_same v zero p q c c' h = ap (λ b. cond v b (not b)) (first_same p q c c' h)
all_same v (suc n) p q c c' h = all8_ext _ _ (λ k l. all_same v n p q (plus c (start_of (width n) k)) (plus c' (start_of (width n) k)) (child_same n p q c c' h k))

mixed_same : (n : ℕ) (p q : Cell → Bool) (c c' : Cell) → Same n p c q c' → mixed n p c ≡ mixed n q c'
mixed_same n p q c c' h =
    let f = all_same true n p q c c' h in
    let e = all_same false n p q c c' h in
    cc

pub need_same : (n : ℕ) (p q : Cell → Bool) (c c' : Cell) → Same n p c q c' → need_of n p c ≡ need_of n q c'
need_same zero p q c c' h = refl
need_same (suc n) p q c c' h =
    let s = sum8_ext (λ k. need_of n p (plus c (start_of (width n) k))) (λ k. need_of n q (plus c' (start_of (width n) k))) (λ k l. need_same n p q (plus c (start_of (width n) k)) (plus c' (start_of (width n) k)) (child_same n p q c c' h k)) in
    omega (arith, mixed_same (suc n) p q c c' h, s)

-- ---- two drawings of one region

abbrev pub Agree : ℕ → (Cell → Bool) → (Cell → Bool) → Type 0
Agree n p q = (a : Cell) → Inside (width n) a → p a ≡ q a

agree_same : (n : ℕ) (p q : Cell → Bool) → Agree n p q → Same n p origin q origin
agree_same n p q h a m = h (plus origin a) (omega arith, omega arith, omega arith)

pub need_agree : (n : ℕ) (p q : Cell → Bool) → Agree n p q → need_of n p origin ≡ need_of n q origin
need_agree n p q h = need_same n p q origin origin (agree_same n p q h)

pub shows_agree : (k : Kind) (n : ℕ) (p q : Cell → Bool) → Agree n p q → Shows k n p → Shows k n q
shows_agree k n p q h s = record {
  empty = sym (all_same false n p q origin origin (agree_same n p q h)) ∙ s.empty;
  full = sym (all_same true n p q origin origin (agree_same n p q h)) ∙ s.full;
}

-- ---- a region and its children, each seen from where it begins

-- the drawing q k has the cells of the child k
abbrev pub Parts : ℕ → (Cell → Bool) → (ℕ → Cell → Bool) → Type 0
Parts n p q = (k : ℕ) → k < 8 → (a : Cell) → Inside (width n) a → p (plus (start_of (width n) k) a) ≡ q k a

part_same : (n : ℕ) (p : Cell → Bool) (q : ℕ → Cell → Bool) → Parts n p q → (k : ℕ) → k < 8 → Same n p (plus origin (start_of (width n) k)) (q k) origin
part_same n p q h k l a m = ap p (cell_path (omega arith) (omega arith) (omega arith)) ∙ h k l a m ∙ ap (q k) (cell_path (omega arith) (omega arith) (omega arith))

pub all_split : (v : Bool) (n : ℕ) (p : Cell → Bool) (q : ℕ → Cell → Bool) → Parts n p q → all_are v (suc n) p origin ≡ all8 (λ k. all_are v n (q k) origin)
all_split v n p q h = all8_ext _ _ (λ k l. all_same v n p (q k) (plus origin (start_of (width n) k)) origin (part_same n p q h k l))

pub need_split : (n : ℕ) (p : Cell → Bool) (q : ℕ → Cell → Bool) → Parts n p q → need_of (suc n) p origin ≡ mixed (suc n) p origin + sum8 (λ k. need_of n (q k) origin)
need_split n p q h = ap (λ m. mixed (suc n) p origin + m) (sum8_ext _ _ (λ k l. need_same n p (q k) (plus origin (start_of (width n) k)) origin (part_same n p q h k l)))

-- ---- regions that are all alike

pub mixed_most : (n : ℕ) (p : Cell → Bool) (c : Cell) → mixed n p c ≤ 1
mixed_most n p c = most (all_are true n p c || all_are false n p c)
  where
    most : (b : Bool) → cond b 0 1 ≤ 1
    most true = omega arith
    most false = omega arith

pub mixed_alike : (v : Bool) (n : ℕ) (p : Cell → Bool) (c : Cell) → all_are v n p c ≡ true → mixed n p c ≡ 0
mixed_alike true n p c e = cc
mixed_alike false n p c e = either (all_are true n p c) (all_are false n p c) e
  where
    either : (a b : Bool) → b ≡ true → ◌≡◌ {A = ℕ} (cond (a || b) 0 1) 0
    either true b f = refl
    either false b f = cond-true b 0 1 f

alike_mixed : (n : ℕ) (p : Cell → Bool) (c : Cell) → mixed n p c ≡ 0 → (all_are true n p c ≡ true) ⊎ (all_are false n p c ≡ true)
alike_mixed n p c = either (all_are true n p c) (all_are false n p c)
  where
    either : (a b : Bool) → ◌≡◌ {A = ℕ} (cond (a || b) 0 1) 0 → (a ≡ true) ⊎ (b ≡ true)
    either true b e = inl refl
    either false true e = inr refl
    either false false e = absurd (omega arith)

pub need_alike : (v : Bool) (n : ℕ) (p : Cell → Bool) (c : Cell) → all_are v n p c ≡ true → need_of n p c ≡ 0
need_alike v zero p c e = refl
need_alike v (suc n) p c e =
    let s = sum8_ext (λ k. need_of n p (plus c (start_of (width n) k))) (λ k. 0) (λ k l. need_alike v n p (plus c (start_of (width n) k)) (all8_each (λ j. all_are v n p (plus c (start_of (width n) j))) e k l)) in
    omega (arith, mixed_alike v (suc n) p c e, s)

pub need_unmixed : (n : ℕ) (p : Cell → Bool) (c : Cell) → mixed n p c ≡ 0 → need_of n p c ≡ 0
need_unmixed n p c e = ⊎_elim (need_alike true n p c) (need_alike false n p c) (alike_mixed n p c e)

-- ---- what a region needs at most

abbrev pub most : ℕ → ℕ
most zero = 0
most (suc n) = 1 + 8 * most n

pub need_most : (n : ℕ) (p : Cell → Bool) (c : Cell) → need_of n p c ≤ most n
need_most zero p c = omega arith
need_most (suc n) p c =
    let s = sum8_most (λ k. need_of n p (plus c (start_of (width n) k))) (most n) (λ k. need_most n p (plus c (start_of (width n) k))) in
    omega (arith, mixed_most (suc n) p c, s)

-- ---- kinds

pub shows_wants : (k : Kind) (n : ℕ) (p : Cell → Bool) → Shows k n p → mixed n p origin ≡ wants k
shows_wants k n p s = ap (λ b. cond (b || all_are false n p origin) 0 1) s.full ∙ ap (λ b. cond (all_solid k || b) 0 1) s.empty ∙ wanted k
  where
    wanted : (j : Kind) → cond (all_solid j || all_empty j) 0 1 ≡ wants j
    wanted AllEmpty = refl
    wanted AllSolid = refl
    wanted Mixed = refl

both_empty : (a b : Kind) → all_empty (both a b) ≡ (all_empty a && all_empty b)
both_empty AllEmpty AllEmpty = refl
both_empty AllEmpty AllSolid = refl
both_empty AllEmpty Mixed = refl
both_empty AllSolid AllEmpty = refl
both_empty AllSolid AllSolid = refl
both_empty AllSolid Mixed = refl
both_empty Mixed b = refl

both_solid : (a b : Kind) → all_solid (both a b) ≡ (all_solid a && all_solid b)
both_solid AllEmpty AllEmpty = refl
both_solid AllEmpty AllSolid = refl
both_solid AllEmpty Mixed = refl
both_solid AllSolid AllEmpty = refl
both_solid AllSolid AllSolid = refl
both_solid AllSolid Mixed = refl
both_solid Mixed b = refl

pub blend_empty : (f : ℕ → Kind) → all_empty (blend f) ≡ all8 (λ k. all_empty (f k))
blend_empty f = simp both_empty

pub blend_solid : (f : ℕ → Kind) → all_solid (blend f) ≡ all8 (λ k. all_solid (f k))
blend_solid f = simp both_solid

-- eight children that show their cells show together what the region holds
pub blend_shows : (n : ℕ) (p : Cell → Bool) (q : ℕ → Cell → Bool) (f : ℕ → Kind) → Parts n p q → ((k : ℕ) → k < 8 → Shows (f k) n (q k)) → Shows (blend f) (suc n) p
blend_shows n p q f h s = record {
  empty = all_split false n p q h ∙ all8_ext _ _ (λ k l. (s k l).empty) ∙ sym (blend_empty f);
  full = all_split true n p q h ∙ all8_ext _ _ (λ k l. (s k l).full) ∙ sym (blend_solid f);
}
