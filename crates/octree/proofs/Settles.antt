-- Writing down a region.
use Rattle.std.proofs.Common.{◌≡◌, ℕ, ◌<◌, true, List, length, get_or, set, sym, refl, ap, ◌∙◌, subst, arith}
use Rattle.std.proofs.lemmas.List.{get_or-set_same, get_or-set_other, length-set}
use Rattle.octree.specs.declared.cells.Child.{Child}
use Rattle.octree.specs.declared.cells.Child.TheVariants.{Empty, Solid, Split}
use Rattle.octree.specs.declared.cells.Group.{Group}
use Rattle.octree.specs.declared.cells.GroupId.{GroupId}
use Rattle.octree.specs.declared.cells.Kind.{Kind}
use Rattle.octree.specs.declared.cells.Kind.TheVariants.{Mixed}
use Rattle.octree.specs.declared.store.Store.{Store}
use Rattle.octree.specs.Trees.{no_group, child_at, has_group, FreedList, freed_at}
use Rattle.octree.specs.OnTheWay.{all_empty, all_solid, kind_of, blend, Apart, Taken, Freed, Settled}
use Rattle.octree.proofs.Eights.{all8_each}
use Rattle.octree.proofs.NeedLaws.{blend_empty, blend_solid}
use Rattle.octree.proofs.Trees.{leaf_child, leaf_has}
use Rattle.octree.proofs.Stock.{one_eq, freed_frame, listed_frame, with_groups}

pub blend_ext : (f g : ℕ → Kind) → ((k : ℕ) → k < 8 → f k ≡ g k) → blend f ≡ blend g
blend_ext f g h =
    let e0 : f 0 ≡ g 0 = h 0 (omega arith) in
    let e1 : f 1 ≡ g 1 = h 1 (omega arith) in
    let e2 : f 2 ≡ g 2 = h 2 (omega arith) in
    let e3 : f 3 ≡ g 3 = h 3 (omega arith) in
    let e4 : f 4 ≡ g 4 = h 4 (omega arith) in
    let e5 : f 5 ≡ g 5 = h 5 (omega arith) in
    let e6 : f 6 ≡ g 6 = h 6 (omega arith) in
    let e7 : f 7 ≡ g 7 = h 7 (omega arith) in
    cc

-- eight children whose region is all alike

is_empty : (r : Child) → all_empty (kind_of r) ≡ true → r ≡ Empty
is_empty Empty e = refl
is_empty Solid e = absurd cc
is_empty (Split g) e = absurd cc

is_solid : (r : Child) → all_solid (kind_of r) ≡ true → r ≡ Solid
is_solid Empty e = absurd cc
is_solid Solid e = refl
is_solid (Split g) e = absurd cc

leaf_holds : (gs : List Group) (r : Child) (f : ℕ → Child) → has_group r ≡ 0 → kind_of r ≡ blend (λ k. kind_of (f k)) → (k : ℕ) → k < 8 → child_at gs r k ≡ f k
leaf_holds gs Empty f z e k l = leaf_child gs Empty k refl l ∙ sym (is_empty (f k) (all8_each (λ j. all_empty (kind_of (f j))) (sym (blend_empty (λ j. kind_of (f j))) ∙ sym (ap all_empty e)) k l))
leaf_holds gs Solid f z e k l = leaf_child gs Solid k refl l ∙ sym (is_solid (f k) (all8_each (λ j. all_solid (kind_of (f j))) (sym (blend_solid (λ j. kind_of (f j))) ∙ sym (ap all_solid e)) k l))
leaf_holds gs (Split g) f z e k l = absurd (omega arith)

-- a region that is all alike frees its group
pub settled_leaf : (s s' : Store) (r r' : Child) (cs : List Child) → has_group r' ≡ 0 → kind_of r' ≡ blend (λ k. kind_of (get_or cs k Empty)) → Freed s r s' → Settled s r cs s' r'
settled_leaf s s' r r' cs z e F = record {
  lent = F.lent;
  long = F.long;
  kind = e;
  holds = leaf_holds s'.groups.now r' (λ k. get_or cs k Empty) z e;
  shared = λ i. omega (arith, leaf_has r' i z, F.back i);
  total = omega (arith, z, F.more);
  kept = λ i p. F.kept i (omega (arith, p));
  counted = F.counted;
}

-- a region that is not has one
pub settled_split : (s t : Store) (r : Child) (g : GroupId) (cs : List Child) (gs' : List Group) → Apart s r → Mixed ≡ blend (λ k. kind_of (get_or cs k Empty)) → Taken s r g t → gs' ≡ set t.groups.now g.index (record { children = cs }) → Settled s r cs (with_groups t gs') (Split g)
settled_split s t r g cs gs' A e K w = record {
  lent = ap (λ x. x.ghost_name) K.same;
  long = long;
  kind = e;
  holds = λ k l. ap (λ (x : Group). get_or x.children k Empty) (ap (λ (x : List Group). get_or x g.index no_group) v ∙ get_or-set_same s.groups.now g.index (record { children = cs }) no_group K.within);
  shared = λ i. omega (arith, K.spent i, ap (λ (x : List Group). freed_at x t.freed t.last i) here, freed_frame s.groups.now gs' t.freed t.last apart i);
  total = omega (arith, K.fewer, long, ap length here);
  kept = λ i p. else_same i (λ f. omega (arith, p, K.spent i, one_eq g.index i (sym f)));
  counted = record {
    marked = omega (arith, K.counted.marked, long, ap length here);
    below = K.counted.below;
    listed = listed_frame s.groups.now gs' t.freed t.last apart (subst (λ (x : List Group). FreedList x t.freed t.last) here K.counted.listed);
  };
}
  where
    here : t.groups.now ≡ s.groups.now
    here = ap (λ x. x.now) K.same

    v : gs' ≡ set s.groups.now g.index (record { children = cs })
    v = w ∙ ap (λ (x : List Group). set x g.index (record { children = cs })) here

    long : length gs' ≡ length s.groups.now
    long = ap length v ∙ length-set s.groups.now g.index _

    else_same : (i : ℕ) → (i ≡ g.index → ⊥) → get_or gs' i no_group ≡ get_or s.groups.now i no_group
    else_same i ne = ap (λ (x : List Group). get_or x i no_group) v ∙ get_or-set_other s.groups.now g.index i _ no_group ne

    apart : (i : ℕ) → 0 < freed_at s.groups.now t.freed t.last i → get_or gs' i no_group ≡ get_or s.groups.now i no_group
    apart i p = else_same i (λ f. omega (arith, A.once i, K.spent i, p, ap (λ (x : List Group). freed_at x t.freed t.last i) here, one_eq g.index i (sym f)))
