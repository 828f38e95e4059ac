-- One child of a region changes, and then the region is written down.
use Rattle.std.proofs.Common.{◌≡◌, ℕ, suc, ◌+◌, ◌<◌, ◌≤◌, Bool, List, length, get_or, set, sym, ap, ◌∙◌, subst, ⊎_elim, arith}
use Rattle.std.proofs.lemmas.List.{get_or-set_same, get_or-set_other, length-set}
use Rattle.std.proofs.lemmas.Bool.{cases_eq}
use Rattle.block.specs.declared.cells.Cell.{Cell}
use Rattle.octree.specs.declared.cells.Child.{Child}
use Rattle.octree.specs.declared.cells.Child.TheVariants.{Empty}
use Rattle.octree.specs.declared.cells.Group.{Group}
use Rattle.octree.specs.declared.store.Store.{Store}
use Rattle.octree.specs.Regions.{width, origin, start_of, sum8, need_of}
use Rattle.octree.specs.Trees.{no_group, which_child, minus, solid_at, has_group, has, group_count, uses, idle, capacity, Counted}
use Rattle.octree.specs.OnTheWay.{kind_of, wants, Tight, left, Apart, Settled, Moved}
use Rattle.octree.proofs.Eights.{sum8_part, sum8_ext, sum8_one, sum8_pair}
use Rattle.octree.proofs.Places.{child_below}
use Rattle.octree.proofs.NeedLaws.{need_agree, need_split, shows_wants, blend_shows}
use Rattle.octree.proofs.Trees.{wants_own, joined, joined_parts, tight_shows, Framed, frame}

-- how many groups eight children use, and how often the group i
abbrev pub count8 : List Group → ℕ → List Child → ℕ
count8 gs n cs = sum8 (λ k. group_count gs n (get_or cs k Empty))

abbrev pub uses8 : List Group → ℕ → List Child → ℕ → ℕ
uses8 gs n cs i = sum8 (λ k. uses gs n (get_or cs k Empty) i)

-- a region r and eight children that it is to have: no group is in use twice, or in use and unused
pub record Family (s : Store) (n : ℕ) (r : Child) (cs : List Child) : Type 0 where
  pub eight : length cs ≡ 8
  pub tight : (k : ℕ) → k < 8 → Tight s.groups.now n (get_or cs k Empty)
  pub once : (i : ℕ) → has r i + uses8 s.groups.now n cs i + idle s i ≤ 1
  pub few : has_group r + count8 s.groups.now n cs + left s ≤ capacity s.groups.now
  pub counted : Counted s

-- ---- one child changes

module _ (s : Store) (n : ℕ) (r : Child) (cs : List Child) (F : Family s n r cs) (a : ℕ) (la : a < 8) where
  abbrev gs : List Group
  gs = s.groups.now

  pub part_once : (i : ℕ) → uses gs n (get_or cs a Empty) i + idle s i ≤ 1
  part_once i = omega (arith, sum8_part (λ k. uses gs n (get_or cs k Empty) i) a la, F.once i)

  pub part_few : group_count gs n (get_or cs a Empty) + left s ≤ capacity gs
  part_few = omega (arith, sum8_part (λ k. group_count gs n (get_or cs k Empty)) a la, F.few)

  module _ (p : Cell → Bool) (s' : Store) (r' : Child) (M : Moved s n (get_or cs a Empty) p s' r') where
    abbrev gs' : List Group
    gs' = s'.groups.now

    pub new_here : get_or (set cs a r') a Empty ≡ r'
    new_here = get_or-set_same cs a r' Empty (omega (arith, F.eight))

    pub new_else : (k : ℕ) → (k ≡ a → ⊥) → get_or (set cs a r') k Empty ≡ get_or cs k Empty
    new_else k ne = get_or-set_other cs a k r' Empty ne

    framed : (k : ℕ) → k < 8 → (k ≡ a → ⊥) → Framed gs gs' n (get_or cs k Empty)
    framed k l ne = frame gs gs' n (get_or cs k Empty) (λ i q. M.kept i (omega (arith, sum8_pair (λ j. uses gs n (get_or cs j Empty) i) a k la l (λ e. ne (sym e)), F.once i, q)))

    -- the other children show what they showed
    pub drawn_else : (k : ℕ) → k < 8 → (k ≡ a → ⊥) → (c : Cell) → solid_at gs' n (get_or (set cs a r') k Empty) c ≡ solid_at gs n (get_or cs k Empty) c
    drawn_else k l ne c = ap (λ (x : Child). solid_at gs' n x c) (new_else k ne) ∙ (framed k l ne).drawn c

    pub step_uses : (i : ℕ) → uses8 gs' n (set cs a r') i + idle s' i ≡ uses8 gs n cs i + idle s i
    step_uses i =
        let q = sum8_one (λ k. uses gs n (get_or cs k Empty) i) (λ k. uses gs' n (get_or (set cs a r') k Empty) i) a la (λ k l ne. ap (λ (x : Child). uses gs' n x i) (new_else k ne) ∙ (framed k l ne).used i) in
        omega (arith, q, ap (λ (x : Child). uses gs' n x i) new_here, M.shared i)

    pub step_count : count8 gs' n (set cs a r') + left s' ≡ count8 gs n cs + left s
    step_count =
        let q = sum8_one (λ k. group_count gs n (get_or cs k Empty)) (λ k. group_count gs' n (get_or (set cs a r') k Empty)) a la (λ k l ne. ap (λ (x : Child). group_count gs' n x) (new_else k ne) ∙ (framed k l ne).counted) in
        omega (arith, q, ap (λ (x : Child). group_count gs' n x) new_here, M.total)

    pub step_family : Family s' n r (set cs a r')
    step_family = record {
      eight = length-set cs a r' ∙ F.eight;
      tight = λ k l. ⊎_elim
          (λ e. subst (λ j. Tight gs' n (get_or (set cs a r') j Empty)) (sym e) (subst (λ (x : Child). Tight gs' n x) (sym new_here) M.tight))
          (λ ne. subst (λ (x : Child). Tight gs' n x) (sym (new_else k ne)) ((framed k l ne).counted ∙ F.tight k l ∙ sym (need_agree n _ _ (λ c m. (framed k l ne).drawn c))))
          (cases_eq k a);
      once = λ i. omega (arith, step_uses i, F.once i);
      few = omega (arith, step_count, F.few, M.long);
      counted = M.counted;
    }

    pub step_kept : (i : ℕ) → has r i + uses8 gs n cs i + idle s i ≡ 0 → get_or gs' i no_group ≡ get_or gs i no_group
    step_kept i z = M.kept i (omega (arith, sum8_part (λ k. uses gs n (get_or cs k Empty) i) a la, z))

-- ---- the region is written down

module _ (s : Store) (n : ℕ) (r : Child) (cs : List Child) (F : Family s n r cs) where
  pub family_apart : Apart s r
  family_apart = record { once = λ i. omega (arith, F.once i); few = omega (arith, F.few); counted = F.counted }

  module _ (s' : Store) (r' : Child) (S : Settled s r cs s' r') where
    abbrev old : List Group
    old = s.groups.now

    abbrev new : List Group
    new = s'.groups.now

    child_framed : (k : ℕ) → k < 8 → Framed old new n (get_or cs k Empty)
    child_framed k l = frame old new n (get_or cs k Empty) (λ i q. S.kept i (omega (arith, sum8_part (λ j. uses old n (get_or cs j Empty) i) k l, F.once i, q)))

    pub settled_drawn : (c : Cell) → solid_at new (suc n) r' c ≡ joined old n cs c
    settled_drawn c =
        let k : ℕ = which_child (width n) c in
        ap (λ (x : Child). solid_at new n x (minus c (start_of (width n) k))) (S.holds k (child_below (width n) c)) ∙ (child_framed k (child_below (width n) c)).drawn (minus c (start_of (width n) k))

    settled_count : group_count new (suc n) r' ≡ has_group r' + count8 old n cs
    settled_count = ap (λ m. has_group r' + m) (sum8_ext _ _ (λ k l. ap (λ (x : Child). group_count new n x) (S.holds k l) ∙ (child_framed k l).counted))

    settled_uses : (i : ℕ) → uses new (suc n) r' i ≡ has r' i + uses8 old n cs i
    settled_uses i = ap (λ m. has r' i + m) (sum8_ext _ _ (λ k l. ap (λ (x : Child). uses new n x i) (S.holds k l) ∙ (child_framed k l).used i))

    pub settled_tight : Tight new (suc n) r'
    settled_tight =
        let parts = joined_parts old n cs in
        let shows = blend_shows n (joined old n cs) (λ k. solid_at old n (get_or cs k Empty)) (λ k. kind_of (get_or cs k Empty)) parts (λ k l. tight_shows old n (get_or cs k Empty) (F.tight k l)) in
        omega (
          arith,
          settled_count,
          wants_own r',
          ap wants S.kind,
          shows_wants _ (suc n) (joined old n cs) shows,
          need_agree (suc n) _ _ (λ c m. settled_drawn c),
          need_split n (joined old n cs) (λ k. solid_at old n (get_or cs k Empty)) parts,
          sum8_ext (λ k. group_count old n (get_or cs k Empty)) (λ k. need_of n (solid_at old n (get_or cs k Empty)) origin) F.tight,
        )

    pub settled_shared : (i : ℕ) → uses new (suc n) r' i + idle s' i ≡ has r i + uses8 old n cs i + idle s i
    settled_shared i = omega (arith, settled_uses i, S.shared i)

    pub settled_total : group_count new (suc n) r' + left s' ≡ has_group r + count8 old n cs + left s
    settled_total = omega (arith, settled_count, S.total)
