-- Where children lie in a region, and the cells of a run in them.
use Rattle.std.proofs.Common.{◌≡◌, ℕ, zero, suc, ◌+◌, ◌-◌, ◌*◌, ◌/◌, ◌%◌, ◌^◌, ◌<◌, ◌≤◌, min, false, eqb, ltb, leb, sym, refl, ap, ◌∙◌, ⊎_elim, arith, pow_mono}
use native.Mathlib.Nat.{pow-succ'}
use Rattle.std.proofs.lemmas.Bool.{cond-true, cond-false, lt-ltb, le-ltb, le-leb, lt-leb, eq-eqb, ne_eqb, cases_eq, cases_lt, and_left, and_right}
use Rattle.block.specs.declared.cells.Cell.{Cell}
use Rattle.block.specs.declared.cells.Run.{Run}
use Rattle.octree.specs.Regions.{width, plus, start_of}
use Rattle.octree.specs.Trees.{upper, which_child, minus}
use Rattle.octree.specs.OnTheWay.{Inside, in_run, Lies, run_in, row_child}
use Rattle.octree.proofs.Eights.{eight}

pub width_pos : (n : ℕ) → 1 ≤ width n
width_pos zero = omega arith
width_pos (suc n) = let q = width_pos n in omega arith

pub width_pow : (n : ℕ) → width n ≡ 2 ^ n
width_pow zero = refl
width_pow (suc n) = omega (arith, width_pow n, pow-succ' 2 n)

pub width_low : (n : ℕ) → n ≤ 6 → width n ≤ 64
width_low n l = omega (arith, width_pow n, pow_mono l)

pub cell_path : {a b : Cell} → a.x ≡ b.x → a.y ≡ b.y → a.z ≡ b.z → a ≡ b
cell_path ex ey ez = λ i. record { x = ex i; y = ey i; z = ez i }

-- ---- halves of an axis

pub upper_low : (h x : ℕ) → x < h → upper h x ≡ 0
upper_low h x l = cond-true (ltb x h) 0 1 (lt-ltb x h l)

pub upper_high : (h x : ℕ) → h ≤ x → upper h x ≡ 1
upper_high h x l = cond-false (ltb x h) 0 1 (le-ltb x h l)

pub upper_most : (h x : ℕ) → upper h x ≤ 1
upper_most h x = ⊎_elim (λ l. omega (arith, upper_low h x l)) (λ l. omega (arith, upper_high h x l)) (cases_lt x h)

-- the x-th cell of the lower half or of the upper one
pub upper_at : (h b x : ℕ) → b < 2 → x < h → upper h (h * b + x) ≡ b
upper_at h zero x l m = upper_low h (h * 0 + x) (omega arith)
upper_at h (suc zero) x l m = upper_high h (h * 1 + x) (omega arith)
upper_at h (suc (suc b)) x l m = absurd (omega arith)

-- a cell is that many beyond the start of its half
pub upper_start : (h x : ℕ) → h * upper h x ≤ x
upper_start h x = ⊎_elim
    (λ l. omega (arith, ap (λ b. h * b) (upper_low h x l)))
    (λ l. omega (arith, ap (λ b. h * b) (upper_high h x l)))
    (cases_lt x h)

pub upper_rest : (h x : ℕ) → x < h + h → x - h * upper h x < h
upper_rest h x m = ⊎_elim
    (λ l. omega (arith, ap (λ b. h * b) (upper_low h x l)))
    (λ l. omega (arith, ap (λ b. h * b) (upper_high h x l)))
    (cases_lt x h)

-- ---- the child of a cell, and the start of a child

pub child_below : (h : ℕ) (c : Cell) → which_child h c < 8
child_below h c = omega (arith, upper_most h c.x, upper_most h c.y, upper_most h c.z)

-- a child's place from its three bits
pub bits : (k : ℕ) → k < 8 → k % 2 + 2 * (k / 2 % 2) + 4 * (k / 4 % 2) ≡ k
bits = eight (λ k. k % 2 + 2 * (k / 2 % 2) + 4 * (k / 4 % 2) ≡ k) refl refl refl refl refl refl refl refl

-- the cell a of the child k lies in the child k
pub child_of_start : (h k : ℕ) (a : Cell) → k < 8 → Inside h a → which_child h (plus (start_of h k) a) ≡ k
child_of_start h k a l m = omega (arith, bits k l, upper_at h (k % 2) a.x (omega arith) m.0, upper_at h (k / 2 % 2) a.y (omega arith) m.1, upper_at h (k / 4 % 2) a.z (omega arith) m.2)

module _ (h : ℕ) (c : Cell) where
  bit_x : which_child h c % 2 ≡ upper h c.x
  bit_x = omega (arith, upper_most h c.x)

  bit_y : which_child h c / 2 % 2 ≡ upper h c.y
  bit_y = omega (arith, upper_most h c.x, upper_most h c.y)

  bit_z : which_child h c / 4 % 2 ≡ upper h c.z
  bit_z = omega (arith, upper_most h c.x, upper_most h c.y, upper_most h c.z)

  -- a cell's child begins at the lower end of its halves
  pub start_x : (start_of h (which_child h c)).x ≡ h * upper h c.x
  start_x = ap (λ b. h * b) bit_x

  pub start_y : (start_of h (which_child h c)).y ≡ h * upper h c.y
  start_y = ap (λ b. h * b) bit_y

  pub start_z : (start_of h (which_child h c)).z ≡ h * upper h c.z
  start_z = ap (λ b. h * b) bit_z

  -- and not beyond the cell
  pub start_below : ((start_of h (which_child h c)).x ≤ c.x) × ((start_of h (which_child h c)).y ≤ c.y) × ((start_of h (which_child h c)).z ≤ c.z)
  start_below = (omega (arith, start_x, upper_start h c.x), omega (arith, start_y, upper_start h c.y), omega (arith, start_z, upper_start h c.z))

  pub rest_inside : Inside (h + h) c → Inside h (minus c (start_of h (which_child h c)))
  rest_inside m = (omega (arith, start_x, upper_rest h c.x m.0), omega (arith, start_y, upper_rest h c.y m.1), omega (arith, start_z, upper_rest h c.z m.2))

  pub back_again : plus (start_of h (which_child h c)) (minus c (start_of h (which_child h c))) ≡ c
  back_again = cell_path (omega (arith, start_below.0)) (omega (arith, start_below.1)) (omega (arith, start_below.2))

pub minus_plus : (s a : Cell) → minus (plus s a) s ≡ a
minus_plus s a = cell_path (omega arith) (omega arith) (omega arith)

-- a cell of a child is a cell of the region
pub child_inside : (h k : ℕ) (a : Cell) → Inside h a → Inside (h + h) (plus (start_of h k) a)
child_inside h k a m = (half_below (k % 2) a.x (omega arith) m.0, half_below (k / 2 % 2) a.y (omega arith) m.1, half_below (k / 4 % 2) a.z (omega arith) m.2)
  where
    half_below : (b x : ℕ) → b < 2 → x < h → h * b + x < h + h
    half_below zero x l m = omega arith
    half_below (suc zero) x l m = omega arith
    half_below (suc (suc b)) x l m = absurd (omega arith)

-- ---- a run in the children

eqb_shift : (s a b : ℕ) → s ≤ b → eqb (s + a) b ≡ eqb a (b - s)
eqb_shift s a b l = ⊎_elim
    (λ e. eq-eqb (s + a) b e ∙ sym (eq-eqb a (b - s) (omega (arith, e))))
    (λ e. ne_eqb (s + a) b e ∙ sym (ne_eqb a (b - s) (λ f. e (omega (arith, f)))))
    (cases_eq (s + a) b)

leb_shift : (s a b : ℕ) → leb b (s + a) ≡ leb (b - s) a
leb_shift s a b = ⊎_elim
    (λ e. lt-leb b (s + a) e ∙ sym (lt-leb (b - s) a (omega (arith, e))))
    (λ e. le-leb b (s + a) e ∙ sym (le-leb (b - s) a (omega (arith, e))))
    (cases_lt (s + a) b)

ltb_shift : (h s a b : ℕ) → a < h → ltb (s + a) b ≡ ltb a (min (b - s) h)
ltb_shift h s a b l = ⊎_elim
    (λ e. lt-ltb (s + a) b e ∙ sym (lt-ltb a (min (b - s) h) (omega (arith, e))))
    (λ e. le-ltb (s + a) b e ∙ sym (le-ltb a (min (b - s) h) (omega (arith, e))))
    (cases_lt (s + a) b)

module _ (h : ℕ) (w : Run) where
  row_start : (x : ℕ) → ((start_of h (row_child h w x)).y ≤ w.y) × ((start_of h (row_child h w x)).z ≤ w.z)
  row_start x = let b = start_below h (record { x = x; y = w.y; z = w.z }) in (b.1, b.2)

  -- the cells of a part are those of the run, counted from where the child begins
  pub run_part : (x : ℕ) (a : Cell) → Inside h a → in_run w (plus (start_of h (row_child h w x)) a) ≡ in_run (run_in h w (row_child h w x)) a
  run_part x a m =
      let k = row_child h w x in
      let ey = eqb_shift (start_of h k).y a.y w.y (row_start x).0 in
      let ez = eqb_shift (start_of h k).z a.z w.z (row_start x).1 in
      let el = leb_shift (start_of h k).x a.x w.start in
      let er = ltb_shift h (start_of h k).x a.x w.end m.0 in
      cc

  -- and a child that the row does not go through has none
  pub run_none : (k : ℕ) (a : Cell) → k < 8 → Inside h a → (k ≡ row_child h w 0 → ⊥) → (k ≡ row_child h w h → ⊥) → in_run w (plus (start_of h k) a) ≡ false
  run_none k a l m low high = ⊎_elim
      (λ ey. ⊎_elim
      (λ ez. absurd (beside ey ez))
      (λ ez. and_right (eqb (h * (k / 2 % 2) + a.y) w.y) _ (and_left (eqb (h * (k / 4 % 2) + a.z) w.z) _ (ne_eqb (h * (k / 4 % 2) + a.z) w.z (λ f. ez (sym (upper_at h (k / 4 % 2) a.z (omega arith) m.2) ∙ ap (upper h) f)))))
      (cases_eq (k / 4 % 2) (upper h w.z)))
      (λ ey. and_left (eqb (h * (k / 2 % 2) + a.y) w.y) _ (ne_eqb (h * (k / 2 % 2) + a.y) w.y (λ f. ey (sym (upper_at h (k / 2 % 2) a.y (omega arith) m.1) ∙ ap (upper h) f))))
      (cases_eq (k / 2 % 2) (upper h w.y))
    where
      beside : k / 2 % 2 ≡ upper h w.y → k / 4 % 2 ≡ upper h w.z → ⊥
      beside ey ez = ⊎_elim
          (λ e. low (omega (arith, bits k l, e, ey, ez, upper_low h 0 (omega arith))))
          (λ e. high (omega (arith, bits k l, e, ey, ez, upper_high h h (omega arith))))
          (cases_lt (k % 2) 1)

  pub rows_differ : 1 ≤ h → row_child h w 0 ≡ row_child h w h → ⊥
  rows_differ l e = omega (arith, e, upper_low h 0 l, upper_high h h (omega arith))

pub part_lies : (n : ℕ) (w : Run) (x : ℕ) → Lies (suc n) w → Lies n (run_in (width n) w (row_child (width n) w x))
part_lies n w x m =
    record {
      short = omega arith;
      in_y = omega (arith, start_y (width n) (record { x = x; y = w.y; z = w.z }), upper_rest (width n) w.y m.in_y);
      in_z = omega (arith, start_z (width n) (record { x = x; y = w.y; z = w.z }), upper_rest (width n) w.z m.in_z);
    }
