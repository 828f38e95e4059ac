-- The whole box: its cells by number, and what its drawing needs.
use Rattle.std.proofs.Common.{◌≡◌, ℕ, ◌*◌, ◌<◌, ◌≤◌, true, false, ltb, List, sym, refl, ap, ◌∙◌, ⊎_elim, arith, lit<}
use mathlib.Core.Path.{fun_ext}
use Rattle.std.proofs.lemmas.Bool.{cond-true, cond-false, lt-ltb, le-ltb, cases_lt}
use Rattle.refusals.specs.Sides.{is_side}
use Rattle.block.specs.Drawing.{number, changed}
use Rattle.block.proofs.Numbers.{number_le, number_lt}
use Rattle.block.proofs.Rows.{number_x, number_y, number_z, number_again, cell_below, turned_row}
use Rattle.block.proofs.Sides.{by_side}
use Rattle.block.proofs.Turns.{turned_high}
use Rattle.block.specs.declared.cells.Cell.{Cell}
use Rattle.octree.specs.declared.cells.Child.{Child}
use Rattle.octree.specs.declared.cells.Group.{Group}
use Rattle.block.specs.declared.cells.Run.{Run}
use Rattle.octree.specs.Regions.{width, level_of, origin, need_of, needed}
use Rattle.octree.specs.Trees.{cell_of, solid_at, shown}
use Rattle.octree.specs.OnTheWay.{Inside, flipped, Lies}
use Rattle.octree.proofs.Places.{cell_path}
use Rattle.octree.proofs.NeedLaws.{Agree, need_agree}

-- the box is the region of its level
pub box_width : (n : ℕ) → is_side n ≡ true → width (level_of n) ≡ n
box_width = by_side (λ n. width (level_of n) ≡ n) refl refl refl refl refl refl

box_some : (n : ℕ) → is_side n ≡ true → 0 < n
box_some = by_side (λ n. 0 < n) (lit< tt) (lit< tt) (lit< tt) (lit< tt) (lit< tt) (lit< tt)

module _ (n : ℕ) (s : is_side n ≡ true) (gs : List Group) (r : Child) where
  -- the cell of a cell's number
  same_cell : (c : Cell) → Inside n c → cell_of n (number n c.x c.y c.z) ≡ c
  same_cell c m = cell_path (number_x n c.x c.y c.z m.0) (number_y n c.x c.y c.z m.0 m.1) (number_z n c.x c.y c.z m.0 m.1)

  -- a cell of the box is what the tree shows there
  pub shown_cell : (c : Cell) → Inside n c → shown n gs r (number n c.x c.y c.z) ≡ solid_at gs (level_of n) r c
  unfolding shown
  shown_cell c m = cond-true (ltb (number n c.x c.y c.z) (n * n * n)) _ false (lt-ltb (number n c.x c.y c.z) (n * n * n) (number_lt n c.x c.y c.z m.0 m.1 m.2)) ∙ ap (solid_at gs (level_of n) r) (same_cell c m)

  in_box : (c : Cell) → Inside (width (level_of n)) c → Inside n c
  in_box c m = let e = box_width n s in (omega (arith, e, m.0), omega (arith, e, m.1), omega (arith, e, m.2))

  -- what the drawing needs
  pub shown_need : needed n (shown n gs r) ≡ need_of (level_of n) (solid_at gs (level_of n) r) origin
  unfolding needed
  shown_need = need_agree (level_of n) _ _ (λ c m. shown_cell c (in_box c m))

  module _ (w : Run) (l : Lies (level_of n) w) where
    -- a cell of the changed drawing
    changed_cell : (c : Cell) → Inside n c → changed n (shown n gs r) w (number n c.x c.y c.z) ≡ flipped w (solid_at gs (level_of n) r) c
    changed_cell c m =
        let e = box_width n s in
        let a = turned_row n w.start w.end w.y w.z c.x c.y c.z (omega (arith, e, l.short)) (omega (arith, e, l.in_y)) m.0 m.1 (shown n gs r) in
        let b = shown_cell c m in
        cc

    pub changed_need : needed n (changed n (shown n gs r) w) ≡ need_of (level_of n) (flipped w (solid_at gs (level_of n) r)) origin
    unfolding needed
    changed_need = need_agree (level_of n) _ _ (λ c m. changed_cell c (in_box c m))

    -- a tree that shows the changed cells shows the changed drawing
    pub changed_shown : (gs' : List Group) (r' : Child) → Agree (level_of n) (solid_at gs' (level_of n) r') (flipped w (solid_at gs (level_of n) r)) → shown n gs' r' ≡ changed n (shown n gs r) w
    unfolding shown
    changed_shown gs' r' h = fun_ext (λ k. ⊎_elim (inside k) (outside k) (cases_lt k (n * n * n)))
      where
        e : width (level_of n) ≡ n
        e = box_width n s

        inside : (k : ℕ) → k < n * n * n → shown n gs' r' k ≡ changed n (shown n gs r) w k
        inside k p =
            let m : Inside n (cell_of n k) = cell_below n k (box_some n s) p in
            cond-true (ltb k (n * n * n)) _ false (lt-ltb k (n * n * n) p)
            ∙ h (cell_of n k) (omega (arith, e, m.0), omega (arith, e, m.1), omega (arith, e, m.2))
            ∙ sym (changed_cell (cell_of n k) m)
            ∙ ap (changed n (shown n gs r) w) (number_again n k)

        outside : (k : ℕ) → n * n * n ≤ k → shown n gs' r' k ≡ changed n (shown n gs r) w k
        outside k p = cond-false (ltb k (n * n * n)) _ false (le-ltb k (n * n * n) p)
            ∙ sym (cond-false (ltb k (n * n * n)) _ false (le-ltb k (n * n * n) p))
            ∙ sym (turned_high (shown n gs r) (number n w.start w.y w.z) (number n w.end w.y w.z) k (omega (arith, p, number_le n w.end w.y w.z (omega (arith, e, l.short)) (omega (arith, e, l.in_y)) (omega (arith, e, l.in_z)))))
