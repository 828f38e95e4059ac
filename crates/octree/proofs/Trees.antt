-- What the groups hold.
use Rattle.std.proofs.Common.{◌≡◌, ℕ, zero, suc, ◌+◌, ◌<◌, ◌≤◌, Bool, true, false, cond, not, ◌||◌, eqb, List, get_or, refl, ap, ◌∙◌, ⊎_elim, arith}
use mathlib.Core.Path.{fun_ext}
use Rattle.std.proofs.lemmas.List.{get_or_past}
use Rattle.std.proofs.lemmas.Bool.{cond-true, eq-eqb, cases_lt}
use Rattle.block.specs.declared.cells.Cell.{Cell}
use Rattle.octree.specs.declared.cells.Child.{Child}
use Rattle.octree.specs.declared.cells.Child.TheVariants.{Empty, Solid, Split}
use Rattle.octree.specs.declared.cells.Group.{Group}
use Rattle.octree.specs.declared.cells.Kind.TheVariants.{Mixed}
use Rattle.octree.specs.Regions.{width, origin, plus, start_of, sum8, all8, all_are, mixed, need_of}
use Rattle.octree.specs.Trees.{no_group, children_of, child_at, which_child, minus, is_solid, solid_at, one, has_group, has, group_count, uses}
use Rattle.octree.specs.OnTheWay.{kind_of, wants, Shows, Tight}
use Rattle.octree.proofs.Eights.{eight, sum8_part, sum8_ext, all8_ext}
use Rattle.octree.proofs.Places.{child_below, child_of_start, minus_plus}
use Rattle.octree.proofs.NeedLaws.{Parts, need_split, mixed_most, mixed_alike}

-- ---- children

-- a child of an empty region is empty, also where there is none of that number
pub child_empty : (gs : List Group) (k : ℕ) → child_at gs Empty k ≡ Empty
child_empty gs k = ⊎_elim (eight (λ j. child_at gs Empty j ≡ Empty) refl refl refl refl refl refl refl refl k) (get_or_past (children_of gs Empty) k Empty) (cases_lt k 8)

-- each child of a region with no group is that region again
pub leaf_child : (gs : List Group) (r : Child) (k : ℕ) → has_group r ≡ 0 → k < 8 → child_at gs r k ≡ r
leaf_child gs Empty k z l = child_empty gs k
leaf_child gs Solid k z l = eight (λ j. child_at gs Solid j ≡ Solid) refl refl refl refl refl refl refl refl k l
leaf_child gs (Split g) k z l = absurd (omega arith)

pub leaf_has : (r : Child) (i : ℕ) → has_group r ≡ 0 → has r i ≡ 0
leaf_has Empty i z = refl
leaf_has Solid i z = refl
leaf_has (Split g) i z = absurd (omega arith)

-- the cells of a region whose eight children are cs
abbrev pub joined : List Group → ℕ → List Child → Cell → Bool
joined gs n cs c = solid_at gs n (get_or cs (which_child (width n) c) Empty) (minus c (start_of (width n) (which_child (width n) c)))

-- the cells of a region are those of its children
pub joined_parts : (gs : List Group) (n : ℕ) (cs : List Child) → Parts n (joined gs n cs) (λ k. solid_at gs n (get_or cs k Empty))
joined_parts gs n cs k l a m =
    ap (λ j. solid_at gs n (get_or cs j Empty) (minus (plus (start_of (width n) k) a) (start_of (width n) j))) (child_of_start (width n) k a l m)
    ∙ ap (solid_at gs n (get_or cs k Empty)) (minus_plus (start_of (width n) k) a)

pub tree_parts : (gs : List Group) (n : ℕ) (r : Child) → Parts n (solid_at gs (suc n) r) (λ k. solid_at gs n (child_at gs r k))
tree_parts gs n r = joined_parts gs n (children_of gs r)

pub tree_need : (gs : List Group) (n : ℕ) (r : Child) → need_of (suc n) (solid_at gs (suc n) r) origin ≡ mixed (suc n) (solid_at gs (suc n) r) origin + sum8 (λ k. need_of n (solid_at gs n (child_at gs r k)) origin)
tree_need gs n r = need_split n (solid_at gs (suc n) r) (λ k. solid_at gs n (child_at gs r k)) (tree_parts gs n r)

-- a region wants a group for itself where it has one
pub wants_own : (r : Child) → wants (kind_of r) ≡ has_group r
wants_own Empty = refl
wants_own Solid = refl
wants_own (Split g) = refl

-- ---- a region that is all alike

all_constant : (v b : Bool) (n : ℕ) (c : Cell) → all_are v n (λ a. b) c ≡ cond v b (not b)
all_constant v b zero c = refl
all_constant v b (suc n) c = all8_ext _ (λ k. cond v b (not b)) (λ k l. all_constant v b n (plus c (start_of (width n) k))) ∙ eightfold (cond v b (not b))
  where
    eightfold : (t : Bool) → all8 (λ k. t) ≡ t
    eightfold true = refl
    eightfold false = refl

module _ (gs : List Group) where
  pub leaf_shows : (n : ℕ) (r : Child) (c : Cell) → has_group r ≡ 0 → solid_at gs n r c ≡ is_solid r
  leaf_shows zero r c z = refl
  leaf_shows (suc n) r c z =
      let k : ℕ = which_child (width n) c in
      ap (λ (x : Child). solid_at gs n x (minus c (start_of (width n) k))) (leaf_child gs r k z (child_below (width n) c)) ∙ leaf_shows n r (minus c (start_of (width n) k)) z

  leaf_alike : (v : Bool) (n : ℕ) (r : Child) → has_group r ≡ 0 → all_are v n (solid_at gs n r) origin ≡ cond v (is_solid r) (not (is_solid r))
  leaf_alike v n r z = ap (λ (p : Cell → Bool). all_are v n p origin) (fun_ext (λ c. leaf_shows n r c z)) ∙ all_constant v (is_solid r) n origin

  pub leaf_uses : (n : ℕ) (r : Child) (i : ℕ) → has_group r ≡ 0 → uses gs n r i ≡ 0
  leaf_uses zero r i z = leaf_has r i z
  leaf_uses (suc n) r i z = omega (arith, leaf_has r i z, sum8_ext (λ k. uses gs n (child_at gs r k) i) (λ k. 0) (λ k l. ap (λ (x : Child). uses gs n x i) (leaf_child gs r k z l) ∙ leaf_uses n r i z))

  pub leaf_count : (n : ℕ) (r : Child) → has_group r ≡ 0 → group_count gs n r ≡ 0
  leaf_count zero r z = z
  leaf_count (suc n) r z = omega (arith, z, sum8_ext (λ k. group_count gs n (child_at gs r k)) (λ k. 0) (λ k l. ap (λ (x : Child). group_count gs n x) (leaf_child gs r k z l) ∙ leaf_count n r z))

  leaf_unmixed : (n : ℕ) (r : Child) → has_group r ≡ 0 → mixed n (solid_at gs n r) origin ≡ 0
  leaf_unmixed n Empty e = mixed_alike false n (solid_at gs n Empty) origin (leaf_alike false n Empty refl)
  leaf_unmixed n Solid e = mixed_alike true n (solid_at gs n Solid) origin (leaf_alike true n Solid refl)
  leaf_unmixed n (Split g) e = absurd (omega arith)

  -- ---- a drawing needs no more groups than hold it; where it needs all of them, each region shows what it holds

  group_most : (n : ℕ) (r : Child) → mixed n (solid_at gs n r) origin ≤ has_group r
  group_most n Empty = omega (arith, leaf_unmixed n Empty refl)
  group_most n Solid = omega (arith, leaf_unmixed n Solid refl)
  group_most n (Split g) = omega (arith, mixed_most n (solid_at gs n (Split g)) origin)

  pub need_least : (n : ℕ) (r : Child) → need_of n (solid_at gs n r) origin ≤ group_count gs n r
  need_least zero r = omega arith
  need_least (suc n) r =
      let e = λ (k : ℕ). need_least n (child_at gs r k) in
      omega (arith, tree_need gs n r, group_most (suc n) r, e 0, e 1, e 2, e 3, e 4, e 5, e 6, e 7)

  pub tight_group : (n : ℕ) (r : Child) → Tight gs (suc n) r → has_group r ≡ mixed (suc n) (solid_at gs (suc n) r) origin
  tight_group n r t =
      let e = λ (k : ℕ). need_least n (child_at gs r k) in
      omega (arith, t, tree_need gs n r, group_most (suc n) r, e 0, e 1, e 2, e 3, e 4, e 5, e 6, e 7)

  pub tight_child : (n : ℕ) (r : Child) → Tight gs (suc n) r → (k : ℕ) → k < 8 → Tight gs n (child_at gs r k)
  tight_child n r t =
      let s = tight_group n r t in
      let m = tree_need gs n r in
      let e = λ (k : ℕ). need_least n (child_at gs r k) in
      eight (λ k. Tight gs n (child_at gs r k))
      (omega (arith, e 0, e 1, e 2, e 3, e 4, e 5, e 6, e 7))
      (omega (arith, e 0, e 1, e 2, e 3, e 4, e 5, e 6, e 7))
      (omega (arith, e 0, e 1, e 2, e 3, e 4, e 5, e 6, e 7))
      (omega (arith, e 0, e 1, e 2, e 3, e 4, e 5, e 6, e 7))
      (omega (arith, e 0, e 1, e 2, e 3, e 4, e 5, e 6, e 7))
      (omega (arith, e 0, e 1, e 2, e 3, e 4, e 5, e 6, e 7))
      (omega (arith, e 0, e 1, e 2, e 3, e 4, e 5, e 6, e 7))
      (omega (arith, e 0, e 1, e 2, e 3, e 4, e 5, e 6, e 7))

  split_shows : (n : ℕ) (p : Cell → Bool) → ◌≡◌ {A = ℕ} 1 (mixed n p origin) → Shows Mixed n p
  split_shows n p e = let q = neither (all_are true n p origin) (all_are false n p origin) e in record { empty = q.1; full = q.0 }
    where
      neither : (a b : Bool) → ◌≡◌ {A = ℕ} 1 (cond (a || b) 0 1) → (a ≡ false) × (b ≡ false)
      neither true b f = absurd (omega arith)
      neither false true f = absurd (omega arith)
      neither false false f = (refl, refl)

  pub tight_shows : (n : ℕ) (r : Child) → Tight gs n r → Shows (kind_of r) n (solid_at gs n r)
  tight_shows n Empty t = record { empty = leaf_alike false n Empty refl; full = leaf_alike true n Empty refl }
  tight_shows n Solid t = record { empty = leaf_alike false n Solid refl; full = leaf_alike true n Solid refl }
  tight_shows zero (Split g) t = absurd (omega arith)
  tight_shows (suc n) (Split g) t = split_shows (suc n) (solid_at gs (suc n) (Split g)) (tight_group n (Split g) t)

-- ---- groups that a region does not use may change

pub uses_child : (gs : List Group) (n : ℕ) (r : Child) (i k : ℕ) → k < 8 → uses gs n (child_at gs r k) i ≤ uses gs (suc n) r i
uses_child gs n r i k l = omega (arith, sum8_part (λ j. uses gs n (child_at gs r j) i) k l)

pub one_self : (i : ℕ) → one (eqb i i) ≡ 1
one_self i = cond-true (eqb i i) 1 0 (eq-eqb i i refl)

pub record Framed (gs gs' : List Group) (n : ℕ) (r : Child) : Type 0 where
  pub drawn : (c : Cell) → solid_at gs' n r c ≡ solid_at gs n r c
  pub used : (i : ℕ) → uses gs' n r i ≡ uses gs n r i
  pub counted : group_count gs' n r ≡ group_count gs n r

children_same : (gs gs' : List Group) (n : ℕ) (r : Child) → ((i : ℕ) → 0 < uses gs (suc n) r i → get_or gs' i no_group ≡ get_or gs i no_group) → children_of gs' r ≡ children_of gs r
children_same gs gs' n Empty h = refl
children_same gs gs' n Solid h = refl
children_same gs gs' n (Split g) h = ap (λ (x : Group). x.children) (h g.index (omega (arith, one_self g.index)))

pub frame : (gs gs' : List Group) (n : ℕ) (r : Child) → ((i : ℕ) → 0 < uses gs n r i → get_or gs' i no_group ≡ get_or gs i no_group) → Framed gs gs' n r
frame gs gs' zero r h = record { drawn = λ c. refl; used = λ i. refl; counted = refl }
frame gs gs' (suc n) r h =
    let same : (k : ℕ) → child_at gs' r k ≡ child_at gs r k = λ k. ap (λ (cs : List Child). get_or cs k Empty) (children_same gs gs' n r h) in
    let below : (k : ℕ) → k < 8 → Framed gs gs' n (child_at gs r k) = λ k l. frame gs gs' n (child_at gs r k) (λ i p. h i (omega (arith, uses_child gs n r i k l))) in
    record {
      drawn = λ c. ap (λ (x : Child). solid_at gs' n x (minus c (start_of (width n) (which_child (width n) c)))) (same (which_child (width n) c)) ∙ (below (which_child (width n) c) (child_below (width n) c)).drawn _;
      used = λ i. ap (λ m. has r i + m) (sum8_ext _ _ (λ k l. ap (λ (x : Child). uses gs' n x i) (same k) ∙ (below k l).used i));
      counted = ap (λ m. has_group r + m) (sum8_ext _ _ (λ k l. ap (λ (x : Child). group_count gs' n x) (same k) ∙ (below k l).counted));
    }
