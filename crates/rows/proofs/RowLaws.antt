-- From first crossed cells to the cells of a row.
use Rattle.std.proofs.Common.{◌≡◌, ℕ, zero, suc, ◌+◌, ◌<◌, ◌≤◌, Bool, true, false, not, eqb, leb, List, [], ◌∷◌, map, length, get_or, take, set, pos, sym, refl, ap, ◌∙◌, ⊎_elim, add-one, arith}
use mathlib.Core.Bool.{beq}
use Rattle.std.proofs.lemmas.List.{get_or-set_same, get_or-set_other}
use Rattle.std.proofs.lemmas.Int.{ints}
use Rattle.std.proofs.lemmas.Bool.{cases_Bool, eqb-true, eqb-false}
use Rattle.algebra.specs.Parity.{◌⊻◌}
use Rattle.geometry.specs.declared.facet.Facet.{Facet}
use Rattle.geometry.specs.declared.mesh.Triangle.{Triangle}
use Rattle.geometry.specs.Geometry.{crosses, inside}
use Rattle.geometry.specs.Cells.{cell_at, centre, first_crossed, middle}
use Rattle.geometry.proofs.Least.{least_on}
use Rattle.geometry.specs.Read.{half, triangle_of}
use Rattle.mesh.proofs.Crossing.{crossing_begins}
use Rattle.rows.specs.Rows.{first_at, odd, odd_first}
use Rattle.rows.proofs.Odd.{odd_more, odd_both, odd_same}

-- ---- the first crossed cells are marked

-- an odd number of the triangles cross first at x
abbrev pub firsts : ℕ → ℕ → ℕ → ℕ → List Facet → Bool
firsts y z n x fs = odd (λ f. eqb (first_at y z n f) x) fs

pub mark_more : (fs : List Facet) (i y z n x first : ℕ) (f : Facet) (old new : Bool) → i < length fs → f ≡ get_or fs i f → first ≡ first_at y z n f
    → new ≡ (old ⊻ eqb first x) → old ≡ firsts y z n x (take i fs) → new ≡ firsts y z n x (take (i + 1) fs)
mark_more fs i y z n x first f old new h at is change so =
    change ∙ ap (λ b. b ⊻ eqb first x) so ∙ ap (λ k. firsts y z n x (take i fs) ⊻ eqb k x) (is ∙ ap (first_at y z n) at)
    ∙ sym (odd_more (λ f. eqb (first_at y z n f) x) fs i f h)

-- ---- a running count

xor_of : (a b : Bool) → not (beq a b) ≡ (a ⊻ b)
xor_of true true = refl
xor_of true false = refl
xor_of false true = refl
xor_of false false = refl

module _ (was cells : List Bool) (i : ℕ) (count : Bool) (long : length cells ≡ length was) (h : i < length was)
    (counted : count ≡ odd_first i was) (done : (x : ℕ) → x < i → get_or cells x false ≡ odd_first (x + 1) was)
    (left : (x : ℕ) → i ≤ x → get_or cells x false ≡ get_or was x false) where
  abbrev next : Bool
  next = not (beq count (get_or cells i false))

  pub next_counted : next ≡ odd_first (i + 1) was
  next_counted =
      xor_of count (get_or cells i false) ∙ ap (λ b. b ⊻ get_or cells i false) counted ∙ ap (λ b. odd_first i was ⊻ b) (left i (omega arith))
      ∙ sym (odd_more (λ b. b) was i false h)

  pub next_done : (x : ℕ) → x < i + 1 → get_or (set cells i next) x false ≡ odd_first (x + 1) was
  next_done x k =
      ⊎_elim
      (λ (e : eqb x i ≡ true). let s = eqb-true x i e in
      ap (λ n. get_or (set cells i next) n false) s ∙ get_or-set_same cells i next false (omega arith) ∙ next_counted ∙ ap (λ n. odd_first (n + 1) was) (sym s))
      (λ (e : eqb x i ≡ false). let s = eqb-false x i e in
      get_or-set_other cells i x next false s ∙ done x (omega arith))
      (cases_Bool (eqb x i))

  pub next_left : (x : ℕ) → i + 1 ≤ x → get_or (set cells i next) x false ≡ get_or was x false
  next_left x k = get_or-set_other cells i x next false (λ e. omega arith) ∙ left x (omega arith)

  -- one cell more is counted
  pub count_more : (next ≡ odd_first (i + 1) was)
      × ((x : ℕ) → x < i + 1 → get_or (set cells i next) x false ≡ odd_first (x + 1) was)
      × ((x : ℕ) → i + 1 ≤ x → get_or (set cells i next) x false ≡ get_or was x false)
  count_more = (next_counted, next_done, next_left)

-- ---- at or before: first at x, or before it

-- where the cells tell which triangles cross first there, the count up to x tells which cross at or before x
pub up_to : (fs : List Facet) (y z n : ℕ) (cells : List Bool) → ((x : ℕ) → x < length cells → get_or cells x false ≡ firsts y z n x fs)
    → (x : ℕ) → x < length cells → odd_first (x + 1) cells ≡ odd (λ f. leb (first_at y z n f) x) fs
up_to fs y z n cells told zero h =
    odd_more (λ b. b) cells 0 false h ∙ told 0 h ∙ odd_same (λ f. eqb (first_at y z n f) 0) (λ f. leb (first_at y z n f) 0) (λ f. at_zero (first_at y z n f)) fs
  where
    at_zero : (k : ℕ) → eqb k 0 ≡ leb k 0
    at_zero k = grind arith
up_to fs y z n cells told (suc x) h =
    odd_more (λ b. b) cells (suc x) false h
    ∙ ap (λ b. b ⊻ get_or cells (suc x) false) (ap (λ k. odd_first k cells) (sym (add-one x)) ∙ up_to fs y z n cells told x (omega arith))
    ∙ ap (λ b. odd (λ f. leb (first_at y z n f) x) fs ⊻ b) (told (suc x) h)
    ∙ sym (odd_both (λ f. leb (first_at y z n f) x) (λ f. eqb (first_at y z n f) (suc x)) (λ f. leb (first_at y z n f) (suc x)) (λ f. split (first_at y z n f) x) fs)
  where
    split : (k x : ℕ) → leb k (suc x) ≡ (leb k x ⊻ eqb k (suc x))
    split k x = grind arith

module _ (y z n : ℕ) where
  begins : (t : Triangle) (k : ℕ) → crosses (centre half (cell_at k y z)) t ≡ true → crosses (centre half (cell_at (suc k) y z)) t ≡ true
  begins t k e = crossing_begins t (middle half (pos k)) (middle half (pos (suc k))) _ _ (omega (arith, ints)) e

  pub crossed_is : (t : Triangle) (x : ℕ) → x < n → leb (first_crossed half y z n t) x ≡ crosses (centre half (cell_at x y z)) t
  unfolding first_crossed
  crossed_is t x h = least_on (λ k. crosses (centre half (cell_at k y z)) t) n x (begins t) h

  pub inside_is : (fs : List Facet) (x : ℕ) → x < n → odd (λ f. leb (first_at y z n f) x) fs ≡ inside (centre half (cell_at x y z)) (map triangle_of fs)
  inside_is [] x h = refl
  inside_is (f ∷ fs) x h =
      ap (λ b. b ⊻ odd (λ f. leb (first_at y z n f) x) fs) (crossed_is (triangle_of f) x h)
      ∙ ap (λ b. crosses (centre half (cell_at x y z)) (triangle_of f) ⊻ b) (inside_is fs x h)
