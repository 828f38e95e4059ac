-- Changing a run: first the one part, then the other, then the region.
use Rattle.std.proofs.Common.{◌≡◌, ℕ, suc, ◌+◌, ◌<◌, ◌≤◌, Bool, cond, not, List, length, get_or, set, sym, refl, ap, ◌∙◌, subst, ⊎_elim, arith}
use Rattle.std.proofs.lemmas.Bool.{cases_eq}
use Rattle.block.specs.declared.cells.Cell.{Cell}
use Rattle.octree.specs.declared.cells.Child.{Child}
use Rattle.octree.specs.declared.cells.Child.TheVariants.{Empty}
use Rattle.octree.specs.declared.cells.Group.{Group}
use Rattle.octree.specs.declared.cells.Part.{Part}
use Rattle.block.specs.declared.cells.Run.{Run}
use Rattle.octree.specs.declared.store.Store.{Store}
use Rattle.octree.specs.Regions.{width, origin, start_of, mixed, need_of}
use Rattle.octree.specs.Trees.{children_of, child_at, which_child, minus, solid_at, has_group, has, group_count, uses}
use Rattle.octree.specs.OnTheWay.{in_run, flipped, Lies, run_in, row_child, IsPartAt, kind_of, blend, wants, Tight, Readable, left, Apart, Settled, Ready, Moved, Halves, Ordered}
use Rattle.octree.proofs.Eights.{sum8_part, sum8_ext, sum8_two}
use Rattle.octree.proofs.Places.{width_pos, child_below, rest_inside, back_again, rows_differ}
use Rattle.octree.proofs.NeedLaws.{Agree, need_agree, need_split, mixed_most, need_unmixed, shows_wants, shows_agree, blend_shows}
use Rattle.octree.proofs.Trees.{tight_group, tight_child, tight_shows}
use Rattle.octree.proofs.Stock.{one_le}
use Rattle.octree.proofs.Planning.{from, part_lies_in, lower_agrees, higher_agrees, other_agrees}
use Rattle.octree.proofs.Steps.{count8, uses8, Family, part_once, part_few, new_here, drawn_else, step_uses, step_count, step_family, step_kept, family_apart, settled_drawn, settled_tight, settled_shared, settled_total}

-- what can be changed can be read
pub ready_readable : (st : Store) (n : ℕ) (r : Child) (w : Run) → Ready st n r w → Readable st.groups.now n r
ready_readable st n r w R = record {
  tight = R.tight;
  there = λ i l. omega (arith, R.apart i, one_le st.mark i (omega (arith, R.counted.marked, l)));
}

-- ---- the two children that change

pub record Two (gs : List Group) (n : ℕ) (r : Child) (w : Run) (s v : Part) : Type 0 where
  pub differ : s.child ≡ v.child → ⊥
  pub first_agrees : Agree n (from n s.child (flipped w (solid_at gs (suc n) r))) (flipped s.run (solid_at gs n (child_at gs r s.child)))
  pub second_agrees : Agree n (from n v.child (flipped w (solid_at gs (suc n) r))) (flipped v.run (solid_at gs n (child_at gs r v.child)))
  pub others : (k : ℕ) → k < 8 → (k ≡ s.child → ⊥) → (k ≡ v.child → ⊥) → Agree n (from n k (flipped w (solid_at gs (suc n) r))) (solid_at gs n (child_at gs r k))
  pub first_lies : Lies n s.run
  pub second_lies : Lies n v.run

swapped : (gs : List Group) (n : ℕ) (r : Child) (w : Run) (s v : Part) → Two gs n r w s v → Two gs n r w v s
swapped gs n r w s v T = record {
  differ = λ e. T.differ (sym e);
  first_agrees = T.second_agrees;
  second_agrees = T.first_agrees;
  others = λ k l ns nv. T.others k l nv ns;
  first_lies = T.second_lies;
  second_lies = T.first_lies;
}

halves_two : (gs : List Group) (n : ℕ) (r : Child) (w : Run) (s v : Part) → Lies (suc n) w → Halves (width n) w s v → Two gs n r w s v
halves_two gs n r w s v m H = record {
  differ = λ e. rows_differ (width n) w (width_pos n) (sym H.0.child ∙ e ∙ H.1.child);
  first_agrees = agrees s 0 H.0 (lower_agrees gs n r w);
  second_agrees = agrees v (width n) H.1 (higher_agrees gs n r w);
  others = λ k l ns nv. other_agrees gs n r w k l (λ e. ns (e ∙ sym H.0.child)) (λ e. nv (e ∙ sym H.1.child));
  first_lies = part_lies_in n (suc n) w 0 s refl H.0 m;
  second_lies = part_lies_in n (suc n) w (width n) v refl H.1 m;
}
  where
    -- a child that is known to change so, by what the code has of it
    agrees : (p : Part) (x : ℕ) → IsPartAt (width n) w x p
        → Agree n (from n (row_child (width n) w x) (flipped w (solid_at gs (suc n) r))) (flipped (run_in (width n) w (row_child (width n) w x)) (solid_at gs n (child_at gs r (row_child (width n) w x))))
        → Agree n (from n p.child (flipped w (solid_at gs (suc n) r))) (flipped p.run (solid_at gs n (child_at gs r p.child)))
    agrees p x e t =
        subst (λ k. Agree n (from n k (flipped w (solid_at gs (suc n) r))) (flipped p.run (solid_at gs n (child_at gs r k)))) (sym e.child)
        (subst (λ (z : Run). Agree n (from n (row_child (width n) w x) (flipped w (solid_at gs (suc n) r))) (flipped z (solid_at gs n (child_at gs r (row_child (width n) w x))))) (sym e.run) t)

pub ordered_two : (gs : List Group) (n : ℕ) (r : Child) (cs : List Child) (w : Run) (s v : Part) → Lies (suc n) w → Ordered gs n cs w s v → Two gs n r w s v
ordered_two gs n r cs w s v m O = ⊎_elim (halves_two gs n r w s v m) (λ H. swapped gs n r w v s (halves_two gs n r w v s m H)) O.halves

-- ---- one after the other

module _ (st : Store) (lv n : ℕ) (r : Child) (w : Run) (s v : Part) (cs : List Child) (el : lv ≡ suc n) (ec : cs ≡ children_of st.groups.now r) (len : length cs ≡ 8) (here : Ready st lv r w) (O : Ordered st.groups.now n cs w s v) where
  R : Ready st (suc n) r w
  R = subst (λ m. Ready st m r w) el here

  abbrev gs : List Group
  gs = st.groups.now

  T : Two gs n r w s v
  T = ordered_two gs n r cs w s v R.lies O

  at_cs : (k : ℕ) → child_at gs r k ≡ get_or cs k Empty
  at_cs k = ap (λ (ds : List Child). get_or ds k Empty) (sym ec)

  -- the drawing of the child k afterwards
  abbrev new_at : ℕ → Cell → Bool
  new_at k = from n k (flipped w (solid_at gs (suc n) r))

  first_new : Agree n (new_at s.child) (flipped s.run (solid_at gs n (get_or cs s.child Empty)))
  first_new a m = T.first_agrees a m ∙ ap (λ (x : Child). flipped s.run (solid_at gs n x) a) (at_cs s.child)

  second_new : Agree n (new_at v.child) (flipped v.run (solid_at gs n (get_or cs v.child Empty)))
  second_new a m = T.second_agrees a m ∙ ap (λ (x : Child). flipped v.run (solid_at gs n x) a) (at_cs v.child)

  other_new : (k : ℕ) → k < 8 → (k ≡ s.child → ⊥) → (k ≡ v.child → ⊥) → Agree n (new_at k) (solid_at gs n (get_or cs k Empty))
  other_new k l ns nv a m = T.others k l ns nv a m ∙ ap (λ (x : Child). solid_at gs n x a) (at_cs k)

  count_is : group_count gs (suc n) r ≡ has_group r + count8 gs n cs
  count_is = ap (λ (ds : List Child). has_group r + count8 gs n ds) (sym ec)

  uses_is : (i : ℕ) → uses gs (suc n) r i ≡ has r i + uses8 gs n cs i
  uses_is i = ap (λ (ds : List Child). has r i + uses8 gs n ds i) (sym ec)

  family : Family st n r cs
  family = record {
    eight = len;
    tight = λ k l. subst (λ (x : Child). Tight gs n x) (at_cs k) (tight_child gs n r R.tight k l);
    once = λ i. omega (arith, uses_is i, R.apart i);
    few = omega (arith, count_is, R.few);
    counted = R.counted;
  }

  -- the groups that the two children need afterwards are there, once both have changed
  enough : need_of n (new_at s.child) origin + need_of n (new_at v.child) origin ≤ group_count gs n (get_or cs s.child Empty) + group_count gs n (get_or cs v.child Empty) + left st
  enough =
      let D : Cell → Bool = flipped w (solid_at gs (suc n) r) in
      let whole = need_split n D new_at (λ k l a m. refl) in
      let two = sum8_two (λ k. group_count gs n (get_or cs k Empty)) (λ k. need_of n (new_at k) origin) s.child v.child s.within v.within T.differ
      (λ k l ns nv. need_agree n _ _ (other_new k l ns nv) ∙ sym (family.tight k l)) in
      ⊎_elim
      (λ e. omega (arith, whole, need_unmixed (suc n) D origin e, sum8_part (λ k. need_of n (new_at k) origin) s.child s.within, sum8_part (λ k. need_of n (new_at k) origin) v.child v.within))
      (λ e. omega (arith, e, whole, two, count_is, R.fits, tight_group gs n r R.tight, mixed_most (suc n) (solid_at gs (suc n) r) origin))
      (cases_eq (mixed (suc n) D origin) 0)

  pub first_ready : Ready st n (get_or cs s.child Empty) s.run
  first_ready = record {
    tight = family.tight s.child s.within;
    apart = part_once st n r cs family s.child s.within;
    few = part_few st n r cs family s.child s.within;
    counted = R.counted;
    lies = T.first_lies;
    fits = omega (arith, enough, O.order, need_agree n _ _ first_new, need_agree n _ _ second_new, family.tight s.child s.within, family.tight v.child v.within);
  }

  module _ (st₁ : Store) (r₁ : Child) (M : Moved st n (get_or cs s.child Empty) (flipped s.run (solid_at gs n (get_or cs s.child Empty))) st₁ r₁) where
    abbrev gs₁ : List Group
    gs₁ = st₁.groups.now

    family₁ : Family st₁ n r (set cs s.child r₁)
    family₁ = step_family st n r cs family s.child s.within _ st₁ r₁ M

    second_same : (c : Cell) → solid_at gs₁ n (get_or (set cs s.child r₁) v.child Empty) c ≡ solid_at gs n (get_or cs v.child Empty) c
    second_same = drawn_else st n r cs family s.child s.within _ st₁ r₁ M v.child v.within (λ e. T.differ (sym e))

    flip_same : (p q : Cell → Bool) (z : Run) → ((c : Cell) → p c ≡ q c) → (c : Cell) → flipped z p c ≡ flipped z q c
    flip_same p q z h c = ap (λ b. cond (in_run z c) (not b) b) (h c)

    pub second_ready : Ready st₁ n (get_or (set cs s.child r₁) v.child Empty) v.run
    second_ready = record {
      tight = family₁.tight v.child v.within;
      apart = part_once st₁ n r (set cs s.child r₁) family₁ v.child v.within;
      few = part_few st₁ n r (set cs s.child r₁) family₁ v.child v.within;
      counted = M.counted;
      lies = T.second_lies;
      fits = omega (
        arith,
        enough,
        M.total,
        M.tight,
        need_agree n _ _ M.drawn,
        need_agree n _ _ first_new,
        need_agree n _ _ second_new,
        need_agree n _ _ (λ c m. flip_same _ _ v.run second_same c),
        need_agree n _ _ (λ c m. second_same c),
        family₁.tight v.child v.within,
        family.tight v.child v.within,
      );
    }

    module _ (st₂ : Store) (r₂ : Child) (N : Moved st₁ n (get_or (set cs s.child r₁) v.child Empty) (flipped v.run (solid_at gs₁ n (get_or (set cs s.child r₁) v.child Empty))) st₂ r₂) where
      abbrev gs₂ : List Group
      gs₂ = st₂.groups.now

      family₂ : Family st₂ n r (set (set cs s.child r₁) v.child r₂)
      family₂ = step_family st₁ n r (set cs s.child r₁) family₁ v.child v.within _ st₂ r₂ N

      -- every child shows what it should
      all_new : (k : ℕ) → k < 8 → Agree n (solid_at gs₂ n (get_or (set (set cs s.child r₁) v.child r₂) k Empty)) (new_at k)
      all_new k l a m = ⊎_elim
          (λ e. subst (λ j. solid_at gs₂ n (get_or (set (set cs s.child r₁) v.child r₂) j Empty) a ≡ new_at j a) (sym e)
          (ap (λ (x : Child). solid_at gs₂ n x a) (new_here st₁ n r (set cs s.child r₁) family₁ v.child v.within _ st₂ r₂ N) ∙ N.drawn a m ∙ flip_same _ _ v.run second_same a ∙ sym (second_new a m)))
          (λ nv. drawn_else st₁ n r (set cs s.child r₁) family₁ v.child v.within _ st₂ r₂ N k l nv a ∙ ⊎_elim
          (λ e. subst (λ j. solid_at gs₁ n (get_or (set cs s.child r₁) j Empty) a ≡ new_at j a) (sym e)
          (ap (λ (x : Child). solid_at gs₁ n x a) (new_here st n r cs family s.child s.within _ st₁ r₁ M) ∙ M.drawn a m ∙ sym (first_new a m)))
          (λ ns. drawn_else st n r cs family s.child s.within _ st₁ r₁ M k l ns a ∙ sym (other_new k l ns nv a m))
          (cases_eq k s.child))
          (cases_eq k v.child)

      total : count8 gs₂ n (set (set cs s.child r₁) v.child r₂) + left st₂ ≡ count8 gs n cs + left st
      total = step_count st₁ n r (set cs s.child r₁) family₁ v.child v.within _ st₂ r₂ N ∙ step_count st n r cs family s.child s.within _ st₁ r₁ M

      pub settle_apart : Apart st₂ r
      settle_apart = family_apart st₂ n r (set (set cs s.child r₁) v.child r₂) family₂

      pub settle_some : wants (blend (λ k. kind_of (get_or (set (set cs s.child r₁) v.child r₂) k Empty))) ≤ has_group r + left st₂
      settle_some =
          let D : Cell → Bool = flipped w (solid_at gs (suc n) r) in
          let ds : List Child = set (set cs s.child r₁) v.child r₂ in
          let sh = blend_shows n D new_at (λ k. kind_of (get_or ds k Empty)) (λ k l a m. refl) (λ k l. shows_agree (kind_of (get_or ds k Empty)) n (solid_at gs₂ n (get_or ds k Empty)) (new_at k) (all_new k l) (tight_shows gs₂ n (get_or ds k Empty) (family₂.tight k l))) in
          let sums = sum8_ext (λ k. group_count gs₂ n (get_or ds k Empty)) (λ k. need_of n (new_at k) origin) (λ k l. family₂.tight k l ∙ need_agree n _ _ (all_new k l)) in
          omega (arith, shows_wants _ (suc n) D sh, need_split n D new_at (λ k l a m. refl), sums, total, count_is, R.fits)

      moved : (st₃ : Store) (r₃ : Child) → Settled st₂ r (set (set cs s.child r₁) v.child r₂) st₃ r₃ → Moved st (suc n) r (flipped w (solid_at gs (suc n) r)) st₃ r₃
      moved st₃ r₃ S =
          let ds : List Child = set (set cs s.child r₁) v.child r₂ in
          let uses₁ = step_uses st n r cs family s.child s.within _ st₁ r₁ M in
          let uses₂ = step_uses st₁ n r (set cs s.child r₁) family₁ v.child v.within _ st₂ r₂ N in
          record {
            lent = S.lent ∙ N.lent ∙ M.lent;
            long = S.long ∙ N.long ∙ M.long;
            drawn = λ c m. settled_drawn st₂ n r ds family₂ st₃ r₃ S c
                ∙ all_new (which_child (width n) c) (child_below (width n) c) (minus c (start_of (width n) (which_child (width n) c))) (rest_inside (width n) c m)
                ∙ ap (flipped w (solid_at gs (suc n) r)) (back_again (width n) c);
            tight = settled_tight st₂ n r ds family₂ st₃ r₃ S;
            shared = λ i. omega (arith, settled_shared st₂ n r ds family₂ st₃ r₃ S i, uses₁ i, uses₂ i, uses_is i);
            total = omega (arith, settled_total st₂ n r ds family₂ st₃ r₃ S, total, count_is);
            kept = λ i z. S.kept i (omega (arith, z, uses_is i, uses₁ i, uses₂ i))
                ∙ step_kept st₁ n r (set cs s.child r₁) family₁ v.child v.within _ st₂ r₂ N i (omega (arith, z, uses_is i, uses₁ i))
                ∙ step_kept st n r cs family s.child s.within _ st₁ r₁ M i (omega (arith, z, uses_is i));
            counted = S.counted;
          }

      pub turned : (st₃ : Store) (r₃ : Child) → Settled st₂ r (set (set cs s.child r₁) v.child r₂) st₃ r₃ → Moved st lv r (flipped w (solid_at gs lv r)) st₃ r₃
      turned st₃ r₃ S = subst (λ m. Moved st m r (flipped w (solid_at gs m r)) st₃ r₃) (sym el) (moved st₃ r₃ S)
