-- What the calls on a whole octree rest on.
use Rattle.std.proofs.Common.{◌≡◌, ℕ, ◌+◌, ◌-◌, ◌*◌, ◌≤◌, Bool, true, false, ltb, leb, Option, None, List, length, sym, refl, ap, ◌∙◌, subst, ⊎_elim, arith, lit≤}
use mathlib.Core.Path.{fun_ext}
use Rattle.std.proofs.lemmas.Bool.{leb-true, le-leb, lt-leb, cases_lt, cond_both}
use Rattle.refusals.specs.declared.box_side.BoxSide.{BoxSide}
use Rattle.refusals.specs.BoxSides.{cells_of}
use Rattle.refusals.specs.Sides.{is_side}
use Rattle.refusals.proofs.SideLaws.{cells_of_one}
use Rattle.block.specs.Drawing.{blank, changed, in_box, in_row, number}
use Rattle.block.proofs.Numbers.{in_box_true, in_row_true}
use Rattle.block.proofs.Sides.{by_side}
use Rattle.block.specs.declared.cells.Cell.{Cell}
use Rattle.octree.specs.declared.cells.Change.{Change}
use Rattle.octree.specs.declared.cells.Child.{Child}
use Rattle.octree.specs.declared.cells.Child.TheVariants.{Empty}
use Rattle.octree.specs.declared.cells.Group.{Group}
use Rattle.octree.specs.declared.cells.GroupId.{GroupId}
use Rattle.block.specs.declared.cells.Run.{Run}
use Rattle.octree.specs.declared.store.Store.{Store}
use Rattle.octree.specs.declared.Octree.{Octree}
use Rattle.octree.specs.Meaning.{edge_of, drawing_of, Kept, Sound}
use Rattle.octree.specs.Laws.{blank_need}
use Rattle.octree.specs.Regions.{level_of, origin, need_of, needed, room}
use Rattle.octree.specs.Trees.{cell_of, solid_at, group_count, uses, shown, FreedList, freed_at, Whole}
use Rattle.octree.specs.OnTheWay.{flipped, Lies, Tight, Readable, Planned, left, Ready, Moved}
use Rattle.octree.proofs.NeedLaws.{most, need_most}
use Rattle.octree.proofs.Trees.{leaf_shows, leaf_uses, leaf_count}
use Rattle.octree.proofs.Stock.{one_le}
use Rattle.octree.proofs.Boxes.{box_width, shown_cell, shown_need, changed_need, changed_shown}

-- a drawing never needs more groups than can be named
few_needed : (n : ℕ) → is_side n ≡ true → most (level_of n) ≤ 37449
few_needed = by_side (λ n. most (level_of n) ≤ 37449) (lit≤ tt) (lit≤ tt) (lit≤ tt) (lit≤ tt) (lit≤ tt) (lit≤ tt)

-- a run of the box lies in the region that the box is
pub row_lies : (n : ℕ) (w : Run) → is_side n ≡ true → in_row n w ≡ true → Lies (level_of n) w
row_lies n w s h =
    let p = in_row_true n w h in
    let e = box_width n s in
    record { short = omega (arith, e, p.3); in_y = omega (arith, e, p.0); in_z = omega (arith, e, p.1) }

-- a cell of the box is shown as it is solid in that region
pub look_shown : (n : ℕ) (gs : List Group) (r : Child) (c : Cell) → is_side n ≡ true → in_box n c.x c.y c.z ≡ true → solid_at gs (level_of n) r c ≡ shown n gs r (number n c.x c.y c.z)
look_shown n gs r c s h = sym (shown_cell n s gs r c (in_box_true n c.x c.y c.z h))

module _ (o : Octree) (W : Sound o) where
  abbrev n : ℕ
  n = edge_of o

  a : is_side n ≡ true
  a = cells_of_one o.side

  abbrev st : Store
  st = o.store

  abbrev gs : List Group
  gs = st.groups.now

  abbrev r : Child
  r = o.root

  tight : Tight gs (level_of n) r
  tight = W.exact ∙ shown_need n a gs r

  readable : Readable gs (level_of n) r
  readable = record {
    tight = tight;
    there = λ i l. omega (arith, W.once i, one_le st.mark i (omega (arith, W.counted.marked, l)));
  }

  -- the same by what the code has of the box's level
  module _ (lv : ℕ) (el : lv ≡ level_of n) where
    pub whole_readable : Readable gs lv r
    whole_readable = subst (λ m. Readable gs m r) (sym el) readable

    pub whole_look : (c : Cell) → in_box n c.x c.y c.z ≡ true → solid_at gs lv r c ≡ shown n gs r (number n c.x c.y c.z)
    whole_look c h = ap (λ m. solid_at gs m r c) el ∙ look_shown n gs r c a h

    module _ (w : Run) (h : in_row n w ≡ true) where
      abbrev after : ℕ → Bool
      after = changed n (shown n gs r) w

      need_is : needed n after ≡ need_of lv (flipped w (solid_at gs lv r)) origin
      need_is = changed_need n a gs r w (row_lies n w a h) ∙ ap (λ m. need_of m (flipped w (solid_at gs m r)) origin) (sym el)

      need_few : needed n after ≤ 37449
      need_few = omega (arith, need_is, need_most lv (flipped w (solid_at gs lv r)) origin, ap most el, few_needed n a)

      whole_tight : Tight gs lv r
      whole_tight = whole_readable.tight

      own_count : group_count gs lv r + st.freed ≡ st.mark
      own_count = ap (λ m. group_count gs m r + st.freed) el ∙ W.count

      pub whole_lies : Lies lv w
      whole_lies = subst (λ m. Lies m w) (sym el) (row_lies n w a h)

      -- the drawing fits with the run changed where the groups that it needs more are there
      pub whole_takes : (q : Change) → Planned gs lv r w q → leb (q.after - q.before) (left st) ≡ room n (length gs) after
      unfolding room
      whole_takes q P = ⊎_elim
          (λ f. lt-leb (q.after - q.before) (left st) f ∙ sym (lt-leb (needed n after) (length gs) (omega (arith, f, need_is, P.needs, whole_tight, own_count, W.counted.marked, need_few))))
          (λ f. le-leb (q.after - q.before) (left st) f ∙ sym (le-leb (needed n after) (length gs) (omega (arith, f, need_is, P.needs, whole_tight, own_count, W.counted.marked))))
          (cases_lt (left st) (q.after - q.before))

      pub whole_ready : room n (length gs) after ≡ true → Ready st lv r w
      unfolding room
      whole_ready f = record {
        tight = whole_tight;
        apart = λ i. omega (arith, W.once i, ap (λ m. uses gs m r i) el);
        few = omega (arith, own_count, W.counted.marked);
        counted = W.counted;
        lies = whole_lies;
        fits = omega (arith, leb-true (needed n after) (length gs) f, need_is, need_few, own_count, W.counted.marked);
      }

      module _ (st' : Store) (r' : Child) (M : Moved st lv r (flipped w (solid_at gs lv r)) st' r') where
        abbrev gs' : List Group
        gs' = st'.groups.now

        moved : Moved st (level_of n) r (flipped w (solid_at gs (level_of n) r)) st' r'
        moved = subst (λ m. Moved st m r (flipped w (solid_at gs m r)) st' r') el M

        sound : Whole n st' r'
        sound = record {
          exact = moved.tight ∙ sym (shown_need n a gs' r');
          once = λ i. moved.shared i ∙ W.once i;
          count = omega (arith, moved.total, moved.long, moved.counted.marked, W.count, W.counted.marked);
          counted = moved.counted;
        }

        pub whole_kept : Kept o (record o { store = st'; root = r' })
        whole_kept = record { still_sound = sound; same_loans = M.lent; same_side = refl; same_fits = ap (room n) M.long }

        pub whole_drawn : drawing_of (record o { store = st'; root = r' }) ≡ after
        whole_drawn = changed_shown n a gs r w (row_lies n w a h) gs' r' moved.drawn

-- ---- a new octree

pub fresh_blank : (n : ℕ) (gs : List Group) → shown n gs Empty ≡ blank
unfolding shown
fresh_blank n gs = fun_ext (λ k. cond_both (ltb k (n * n * n)) _ false (λ b. b ≡ false) (λ e. leaf_shows gs (level_of n) Empty (cell_of n k) refl) (λ e. refl))

pub fresh_whole : (b : BoxSide) (s : Store) → s.mark ≡ 0 → s.freed ≡ 0 → s.last ≡ None → Whole (cells_of b) s Empty
unfolding needed
fresh_whole b s em ef el = record {
  exact = leaf_count s.groups.now (level_of (cells_of b)) Empty refl ∙ sym (ap (needed (cells_of b)) (fresh_blank (cells_of b) s.groups.now) ∙ blank_need (level_of (cells_of b)) origin);
  once = λ i. omega (arith, leaf_uses s.groups.now (level_of (cells_of b)) Empty i refl, one_le s.mark i (omega (arith, em)), ap (λ m. freed_at s.groups.now m s.last i) ef);
  count = omega (arith, leaf_count s.groups.now (level_of (cells_of b)) Empty refl, em, ef);
  counted = record {
    marked = omega (arith, em);
    below = omega (arith, ef);
    listed = subst (λ m. FreedList s.groups.now m s.last) (sym ef) (subst (λ (l : Option GroupId). FreedList s.groups.now 0 l) (sym el) tt);
  };
}
