-- What a change of a run needs, from what its two parts need.
use Rattle.std.proofs.Common.{◌≡◌, ℕ, suc, ◌+◌, ◌<◌, ◌≤◌, Bool, false, not, List, length, get_or, set, sym, refl, ap, ◌∙◌, subst, inl, inr, ⊎_elim, arith}
use Rattle.std.proofs.lemmas.List.{get_or-set_same, get_or-set_other, length-set}
use Rattle.std.proofs.lemmas.Bool.{cond-false, cases_eq}
use Rattle.std.proofs.lemmas.Bool.Decides.{nat_tests}
use Rattle.block.specs.declared.cells.Cell.{Cell}
use Rattle.octree.specs.declared.cells.Change.{Change}
use Rattle.octree.specs.declared.cells.Child.{Child}
use Rattle.octree.specs.declared.cells.Child.TheVariants.{Empty}
use Rattle.octree.specs.declared.cells.Group.{Group}
use Rattle.octree.specs.declared.cells.Kind.{Kind}
use Rattle.octree.specs.declared.cells.Kind.TheVariants.{AllEmpty, AllSolid, Mixed}
use Rattle.octree.specs.declared.cells.Part.{Part}
use Rattle.block.specs.declared.cells.Run.{Run}
use Rattle.octree.specs.Regions.{width, origin, plus, start_of, need_of}
use Rattle.octree.specs.Trees.{children_of, child_at, solid_at}
use Rattle.octree.specs.OnTheWay.{in_run, flipped, Lies, run_in, row_child, IsPartAt, kind_of, blend, wants, Shows, Tight, Planned, Halves, Ordered}
use Rattle.octree.proofs.Eights.{sum8_two}
use Rattle.octree.proofs.Places.{width_pos, child_below, run_part, run_none, rows_differ, part_lies}
use Rattle.octree.proofs.NeedLaws.{Agree, need_agree, shows_agree, Parts, need_split, shows_wants, blend_shows}
use Rattle.octree.proofs.Trees.{wants_own, tree_parts, tree_need, tight_group, tight_child, tight_shows}

-- ---- a changed drawing in the children

-- the cells of a region from where the child k begins
abbrev pub from : ℕ → ℕ → (Cell → Bool) → Cell → Bool
from n k p a = p (plus (start_of (width n) k) a)

module _ (n : ℕ) (w : Run) (p : Cell → Bool) (q : ℕ → Cell → Bool) (h : Parts n p q) where
  pub flip_part : (x : ℕ) → Agree n (from n (row_child (width n) w x) (flipped w p)) (flipped (run_in (width n) w (row_child (width n) w x)) (q (row_child (width n) w x)))
  flip_part x a m =
      let e = run_part (width n) w x a m in
      let f = h (row_child (width n) w x) (child_below (width n) (record { x = x; y = w.y; z = w.z })) a m in
      cc

  pub flip_none : (k : ℕ) → k < 8 → (k ≡ row_child (width n) w 0 → ⊥) → (k ≡ row_child (width n) w (width n) → ⊥) → Agree n (from n k (flipped w p)) (q k)
  flip_none k l low high a m = cond-false (in_run w (plus (start_of (width n) k) a)) _ _ (run_none (width n) w k a l m low high) ∙ h k l a m

-- ---- plans

-- a run with no cell
run_empty : (w : Run) → w.end ≤ w.start → (c : Cell) → in_run w c ≡ false
run_empty w l c = grind (arith, nat_tests)

pub flip_empty : (w : Run) (p : Cell → Bool) → w.end ≤ w.start → (c : Cell) → p c ≡ flipped w p c
flip_empty w p l c = sym (cond-false (in_run w c) (not (p c)) (p c) (run_empty w l c))

pub plan_none : (gs : List Group) (n : ℕ) (r : Child) (w : Run) (k : Kind) → Tight gs n r → w.end ≤ w.start → k ≡ kind_of r → Planned gs n r w (record { kind = k; before = 0; after = 0 })
plan_none gs n r w k t l e =
    let same : Agree n (solid_at gs n r) (flipped w (solid_at gs n r)) = λ c m. flip_empty w (solid_at gs n r) l c in
    record {
      shows = shows_agree k n (solid_at gs n r) (flipped w (solid_at gs n r)) same (subst (λ (x : Kind). Shows x n (solid_at gs n r)) (sym e) (tight_shows gs n r t));
      needs = ap (λ m. m + 0) (sym (need_agree n (solid_at gs n r) (flipped w (solid_at gs n r)) same));
      few_before = omega (arith, width_pos n);
      few_after = omega (arith, width_pos n);
    }

-- a region with children: what its two parts need
own_most : (k : Kind) → wants k ≤ 1
own_most AllEmpty = omega arith
own_most AllSolid = omega arith
own_most Mixed = omega arith

-- the two children that the row goes through
abbrev pub lower : ℕ → Run → ℕ
lower n w = row_child (width n) w 0

abbrev pub higher : ℕ → Run → ℕ
higher n w = row_child (width n) w (width n)

pub lower_below : (n : ℕ) (w : Run) → lower n w < 8
lower_below n w = child_below (width n) (record { x = 0; y = w.y; z = w.z })

pub higher_below : (n : ℕ) (w : Run) → higher n w < 8
higher_below n w = child_below (width n) (record { x = width n; y = w.y; z = w.z })

-- the kinds of the eight children, those of the two replaced
abbrev replaced : ℕ → Run → List Kind → Kind → Kind → List Kind
replaced n w ks a b = set (set ks (lower n w) a) (higher n w) b

module _ (gs : List Group) (n : ℕ) (r : Child) (w : Run) where
  -- the child k, changed
  abbrev pub changed_at : ℕ → Cell → Bool
  changed_at k = from n k (flipped w (solid_at gs (suc n) r))

  pub lower_agrees : Agree n (changed_at (lower n w)) (flipped (run_in (width n) w (lower n w)) (solid_at gs n (child_at gs r (lower n w))))
  lower_agrees = flip_part n w (solid_at gs (suc n) r) (λ k. solid_at gs n (child_at gs r k)) (tree_parts gs n r) 0

  pub higher_agrees : Agree n (changed_at (higher n w)) (flipped (run_in (width n) w (higher n w)) (solid_at gs n (child_at gs r (higher n w))))
  higher_agrees = flip_part n w (solid_at gs (suc n) r) (λ k. solid_at gs n (child_at gs r k)) (tree_parts gs n r) (width n)

  pub other_agrees : (k : ℕ) → k < 8 → (k ≡ lower n w → ⊥) → (k ≡ higher n w → ⊥) → Agree n (changed_at k) (solid_at gs n (child_at gs r k))
  other_agrees = flip_none n w (solid_at gs (suc n) r) (λ k. solid_at gs n (child_at gs r k)) (tree_parts gs n r)

  module _ (t : Tight gs (suc n) r) (p q : Change) (ks : List Kind) (len : length ks ≡ 8) (each : (k : ℕ) → k < 8 → get_or ks k AllEmpty ≡ kind_of (child_at gs r k))
      (P : Planned gs n (child_at gs r (lower n w)) (run_in (width n) w (lower n w)) p)
      (Q : Planned gs n (child_at gs r (higher n w)) (run_in (width n) w (higher n w)) q)
    where
      each_shows : (k : ℕ) → k < 8 → Shows (get_or (replaced n w ks p.kind q.kind) k AllEmpty) n (changed_at k)
      each_shows k l = ⊎_elim at_higher (λ nh. ⊎_elim (at_lower nh) (elsewhere nh) (cases_eq k (lower n w))) (cases_eq k (higher n w))
        where
          shown_as : (x : Kind) → get_or (replaced n w ks p.kind q.kind) k AllEmpty ≡ x → (d : Cell → Bool) → Agree n d (changed_at k) → Shows x n d → Shows (get_or (replaced n w ks p.kind q.kind) k AllEmpty) n (changed_at k)
          shown_as x e d h z = subst (λ (y : Kind). Shows y n (changed_at k)) (sym e) (shows_agree x n d (changed_at k) h z)

          at_higher : k ≡ higher n w → Shows (get_or (replaced n w ks p.kind q.kind) k AllEmpty) n (changed_at k)
          at_higher e = shown_as q.kind
              (ap (λ j. get_or (replaced n w ks p.kind q.kind) j AllEmpty) e ∙ get_or-set_same (set ks (lower n w) p.kind) (higher n w) q.kind AllEmpty (simp length-set (omega (arith, len, higher_below n w))))
              _ (λ a m. sym (ap (λ j. changed_at j a) e ∙ higher_agrees a m)) Q.shows

          at_lower : (k ≡ higher n w → ⊥) → k ≡ lower n w → Shows (get_or (replaced n w ks p.kind q.kind) k AllEmpty) n (changed_at k)
          at_lower nh e = shown_as p.kind
              (get_or-set_other (set ks (lower n w) p.kind) (higher n w) k q.kind AllEmpty nh ∙ ap (λ j. get_or (set ks (lower n w) p.kind) j AllEmpty) e ∙ get_or-set_same ks (lower n w) p.kind AllEmpty (omega (arith, len, lower_below n w)))
              _ (λ a m. sym (ap (λ j. changed_at j a) e ∙ lower_agrees a m)) P.shows

          elsewhere : (k ≡ higher n w → ⊥) → (k ≡ lower n w → ⊥) → Shows (get_or (replaced n w ks p.kind q.kind) k AllEmpty) n (changed_at k)
          elsewhere nh nl = shown_as (kind_of (child_at gs r k))
              (get_or-set_other (set ks (lower n w) p.kind) (higher n w) k q.kind AllEmpty nh ∙ get_or-set_other ks (lower n w) k p.kind AllEmpty nl ∙ each k l)
              _ (λ a m. sym (other_agrees k l nl nh a m)) (tight_shows gs n (child_at gs r k) (tight_child gs n r t k l))

      pub parts_planned : Planned gs (suc n) r w (record {
        kind = blend (λ k. get_or (replaced n w ks p.kind q.kind) k AllEmpty);
        before = p.before + q.before + wants (kind_of r);
        after = p.after + q.after + wants (blend (λ k. get_or (replaced n w ks p.kind q.kind) k AllEmpty));
      })
      parts_planned =
          let kind : Kind = blend (λ k. get_or (replaced n w ks p.kind q.kind) k AllEmpty) in
          let new : Cell → Bool = flipped w (solid_at gs (suc n) r) in
          let whole : Shows kind (suc n) new = blend_shows n new changed_at (λ k. get_or (replaced n w ks p.kind q.kind) k AllEmpty) (λ k l a m. refl) each_shows in
          let two = sum8_two (λ k. need_of n (solid_at gs n (child_at gs r k)) origin) (λ k. need_of n (changed_at k) origin) (lower n w) (higher n w) (lower_below n w) (higher_below n w) (rows_differ (width n) w (width_pos n))
          (λ k l nl nh. need_agree n (changed_at k) (solid_at gs n (child_at gs r k)) (other_agrees k l nl nh)) in
          record {
            shows = whole;
            needs = omega (arith, need_split n new changed_at (λ k l a m. refl), tree_need gs n r, two, need_agree n _ _ lower_agrees, need_agree n _ _ higher_agrees, P.needs, Q.needs, shows_wants kind (suc n) new whole, tight_group gs n r t, wants_own r);
            few_before = omega (arith, P.few_before, Q.few_before, own_most (kind_of r));
            few_after = omega (arith, P.few_after, Q.few_after, own_most kind);
          }

-- the same by what the code has of it
pub part_planned : (gs : List Group) (n : ℕ) (r : Child) (w : Run) (x : ℕ) (s : Part) (cs : List Child) (p : Change) → IsPartAt (width n) w x s → cs ≡ children_of gs r → Planned gs n (get_or cs s.child Empty) s.run p → Planned gs n (child_at gs r (row_child (width n) w x)) (run_in (width n) w (row_child (width n) w x)) p
part_planned gs n r w x s cs p es ec P =
    subst (λ k. Planned gs n (child_at gs r k) (run_in (width n) w (row_child (width n) w x)) p) es.child
    (subst (λ (z : Run). Planned gs n (child_at gs r s.child) z p) es.run
    (subst (λ (ds : List Child). Planned gs n (get_or ds s.child Empty) s.run p) ec P))

pub plan_step : (gs : List Group) (n lv : ℕ) (r : Child) (w : Run) (s u : Part) (cs : List Child) (p q : Change) (ks : List Kind) (k : Kind) (a b : ℕ)
    → lv ≡ suc n → Tight gs lv r → Halves (width n) w s u → cs ≡ children_of gs r → length ks ≡ 8 → ((j : ℕ) → j < 8 → get_or ks j AllEmpty ≡ kind_of (get_or cs j Empty))
    → Planned gs n (get_or cs s.child Empty) s.run p → Planned gs n (get_or cs u.child Empty) u.run q
    → k ≡ blend (λ j. get_or (set (set ks s.child p.kind) u.child q.kind) j AllEmpty) → a ≡ wants (kind_of r) → b ≡ wants k
    → Planned gs lv r w (record { kind = k; before = p.before + q.before + a; after = p.after + q.after + b })
plan_step gs n lv r w s u cs p q ks k a b el t H ec len each P Q ek ea eb =
    let N = parts_planned gs n r w (subst (λ m. Tight gs m r) el t) p q ks len (λ j l. each j l ∙ ap (λ (ds : List Child). kind_of (get_or ds j Empty)) ec) (part_planned gs n r w 0 s cs p H.0 ec P) (part_planned gs n r w (width n) u cs q H.1 ec Q) in
    let fk : k ≡ blend (λ j. get_or (replaced n w ks p.kind q.kind) j AllEmpty) = ek
    ∙ ap (λ c. blend (λ j. get_or (set (set ks c p.kind) u.child q.kind) j AllEmpty)) H.0.child
    ∙ ap (λ c. blend (λ j. get_or (set (set ks (lower n w) p.kind) c q.kind) j AllEmpty)) H.1.child in
    let fb : b ≡ wants (blend (λ j. get_or (replaced n w ks p.kind q.kind) j AllEmpty)) = eb ∙ ap wants fk in
    subst (λ m. Planned gs m r w (record { kind = k; before = p.before + q.before + a; after = p.after + q.after + b })) (sym el)
    (subst (λ (y : Change). Planned gs (suc n) r w y) (λ i. record { kind = sym fk i; before = p.before + q.before + sym ea i; after = p.after + q.after + sym fb i }) N)

pub part_lies_in : (n lv : ℕ) (w : Run) (x : ℕ) (s : Part) → lv ≡ suc n → IsPartAt (width n) w x s → Lies lv w → Lies n s.run
part_lies_in n lv w x s el es m = subst (λ (z : Run). Lies n z) (sym es.run) (part_lies n w x (subst (λ k. Lies k w) el m))

-- ---- which of two parts comes first

pub low_first : (gs : List Group) (n : ℕ) (cs : List Child) (w : Run) (s u : Part) (p q : Change) → Halves (width n) w s u
    → Planned gs n (get_or cs s.child Empty) s.run p → Planned gs n (get_or cs u.child Empty) u.run q
    → p.after + q.before ≤ q.after + p.before → Ordered gs n cs w s u
low_first gs n cs w s u p q H P Q l = record { halves = inl H; order = omega (arith, P.needs, Q.needs, l) }

pub high_first : (gs : List Group) (n : ℕ) (cs : List Child) (w : Run) (s u : Part) (p q : Change) → Halves (width n) w s u
    → Planned gs n (get_or cs s.child Empty) s.run p → Planned gs n (get_or cs u.child Empty) u.run q
    → q.after + p.before < p.after + q.before → Ordered gs n cs w u s
high_first gs n cs w s u p q H P Q l = record { halves = inr H; order = omega (arith, P.needs, Q.needs, l) }
