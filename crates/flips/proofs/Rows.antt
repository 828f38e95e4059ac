-- The rows of a source, one after the other.
use Rattle.std.proofs.Common.{◌≡◌, ℕ, zero, suc, ◌+◌, ◌*◌, ◌/◌, ◌%◌, ◌<◌, ◌≤◌, Bool, true, false, List, [], ◌∷◌, ◌++◌, map, length, get_or, sym, refl, ap, ◌∙◌, ap₂, ⊎_elim, append_assoc, append-nil, add-zero, mod-lt, mul_comm, div-lt_iff_lt-mul, eq-zero-or-pos, mul-zero, zero-add, zero-mul, mul-one, mul-add, add-one, arith}
use lib.Arith.{digits_div, digits_mod}
use Rattle.std.specs.List.{range_with_len, flat_map}
use Rattle.std.proofs.lemmas.Bool.Decides.{nat_tests}
use Rattle.std.proofs.lemmas.List.Elements.{All-nil, All-cons}
use Rattle.block.specs.Drawing.{in_row}
use Rattle.geometry.specs.declared.mesh.Row.{Row}
use Rattle.geometry.specs.declared.facet.extent.Span.{Span}
use Rattle.block.specs.declared.cells.Run.{Run}
use Rattle.rows.specs.Runs.{runs, told_runs}
use Rattle.rows.proofs.RunLaws.{Chain, runs_same, runs_chain}
use Rattle.flips.specs.Flips.{flip_at, row_runs, row_flips, flips_of, first_rows}
use Rattle.flips.specs.Drawn.{InBox}

-- ---- one row

-- the flips of the row of the number i, as they are cut from its cells
pub row_told : (solid : ℕ → ℕ → ℕ → Bool) (n i : ℕ) (row : Row) (cells : List Bool) (fs : List Run) → row.y ≡ i % n → row.z ≡ i / n → length cells ≡ n
    → ((x : ℕ) → x < n → get_or cells x false ≡ solid x row.y row.z) → fs ≡ map (flip_at row.y row.z) (told_runs cells) → fs ≡ row_flips n solid (i % n) (i / n)
unfolding row_flips
row_told solid n i row cells fs y z long told cut =
    cut
    ∙ ap (λ k. map (flip_at row.y row.z) (runs (λ x. get_or cells x false) 0 k)) long
    ∙ ap (map (flip_at row.y row.z)) (runs_same (λ x. get_or cells x false) (λ x. solid x row.y row.z) 0 n (λ x a b. told x (omega arith)))
    ∙ ap₂ (row_flips n solid) y z

-- they lie in the box
runs_in_box : (n y z : ℕ) (p : ℕ → Bool) (from : ℕ) (rs : List Span) → y < n → z < n → Chain n p from rs → InBox n (map (flip_at y z) rs)
runs_in_box n y z p from [] hy hz h = All-nil (λ w. in_row n w ≡ true)
runs_in_box n y z p from (r ∷ rs) hy hz h =
    All-cons (λ w. in_row n w ≡ true) (flip_at y z r) (map (flip_at y z) rs) (inside h.0.some h.0.within) (runs_in_box n y z p r.end rs hy hz h.1)
  where
    inside : r.start < r.end → r.end ≤ n → in_row n (flip_at y z r) ≡ true
    inside a b = grind (arith, nat_tests)

pub row_in_box : (solid : ℕ → ℕ → ℕ → Bool) (n y z : ℕ) → y < n → z < n → InBox n (row_flips n solid y z)
unfolding row_flips
row_in_box solid n y z hy hz = runs_in_box n y z (λ x. solid x y z) 0 (row_runs n solid y z) hy hz (runs_chain n (λ x. solid x y z))

-- ---- lists, one behind the other

module _ {A : Type 0} where
  joined_from : (f : ℕ → List A) (a k : ℕ) → flat_map f (range_with_len a (suc k)) ≡ flat_map f (range_with_len a k) ++ f (a + k)
  joined_from f a zero = append-nil (f a) ∙ ap f (sym (add-zero a))
  joined_from f a (suc k) =
      let e : a + 1 + k ≡ a + suc k = omega arith in
      ap (λ xs. f a ++ xs) (joined_from f (a + 1) k) ∙ sym (append_assoc (f a) (flat_map f (range_with_len (a + 1) k)) (f (a + 1 + k)))
      ∙ ap (λ i. flat_map f (range_with_len a (suc k)) ++ f i) e

  pub joined_push : (f : ℕ → List A) (k : ℕ) → flat_map f (range_with_len 0 (suc k)) ≡ flat_map f (range_with_len 0 k) ++ f k
  joined_push f k = joined_from f 0 k ∙ ap (λ i. flat_map f (range_with_len 0 k) ++ f i) (zero-add k)

  joined_same : (f g : ℕ → List A) (k : ℕ) → ((t : ℕ) → t < k → f t ≡ g t) → flat_map f (range_with_len 0 k) ≡ flat_map g (range_with_len 0 k)
  joined_same f g zero h = refl
  joined_same f g (suc k) h =
      joined_push f k ∙ ap₂ (λ (a b : List A). a ++ b) (joined_same f g k (λ t l. h t (omega arith))) (h k (omega arith)) ∙ sym (joined_push g k)

  joined_split : (f : ℕ → List A) (a b : ℕ) → flat_map f (range_with_len 0 (a + b)) ≡ flat_map f (range_with_len 0 a) ++ flat_map (λ t. f (a + t)) (range_with_len 0 b)
  joined_split f a zero = ap (λ k. flat_map f (range_with_len 0 k)) (add-zero a) ∙ sym (append-nil (flat_map f (range_with_len 0 a)))
  joined_split f a (suc b) =
      let e : a + suc b ≡ suc (a + b) = omega arith in
      ap (λ k. flat_map f (range_with_len 0 k)) e ∙ joined_push f (a + b) ∙ ap (λ fs. fs ++ f (a + b)) (joined_split f a b)
      ∙ append_assoc (flat_map f (range_with_len 0 a)) (flat_map (λ t. f (a + t)) (range_with_len 0 b)) (f (a + b))
      ∙ ap (λ fs. flat_map f (range_with_len 0 a) ++ fs) (sym (joined_push (λ t. f (a + t)) b))

-- ---- the rows by number

pub row_y : (n i : ℕ) → i < n * n → i % n < n
row_y n i h = ⊎_elim (λ e. let z : n * n ≡ 0 = ap (λ (k : ℕ). k * n) e ∙ zero-mul n in absurd (omega arith)) (λ p. mod-lt i p) (eq-zero-or-pos n)

pub row_z : (n i : ℕ) → i < n * n → i / n < n
row_z n i h = ⊎_elim (λ e. let z : n * n ≡ 0 = ap (λ (k : ℕ). k * n) e ∙ zero-mul n in absurd (omega arith)) (λ p. (div-lt_iff_lt-mul {k = n} {x = i} {y = n} p).1 h) (eq-zero-or-pos n)

module _ (n : ℕ) (solid : ℕ → ℕ → ℕ → Bool) where
  -- the flips of the row of the number i
  abbrev pub numbered : ℕ → List Run
  numbered i = row_flips n solid (i % n) (i / n)

  layer : (w : ℕ) → flat_map (λ t. numbered (n * w + t)) (range_with_len 0 n) ≡ flat_map (λ y. row_flips n solid y w) (range_with_len 0 n)
  layer w = joined_same (λ t. numbered (n * w + t)) (λ y. row_flips n solid y w) n (λ t l.
      let e : n * w + t ≡ w * n + t = ap (λ (k : ℕ). k + t) (mul_comm n w) in
      ap₂ (row_flips n solid) (ap (λ (k : ℕ). k % n) e ∙ digits_mod w l) (ap (λ (k : ℕ). k / n) e ∙ digits_div w l))

  layers : (w : ℕ) → flat_map numbered (range_with_len 0 (n * w)) ≡ flat_map (λ z. flat_map (λ y. row_flips n solid y z) (range_with_len 0 n)) (range_with_len 0 w)
  layers zero = ap (λ k. flat_map numbered (range_with_len 0 k)) (mul-zero n)
  layers (suc w) =
      let e : n * suc w ≡ n * w + n = ap (λ k. n * k) (sym (add-one w)) ∙ mul-add n w 1 ∙ ap (λ k. n * w + k) (mul-one n) in
      ap (λ k. flat_map numbered (range_with_len 0 k)) e ∙ joined_split numbered (n * w) n ∙ ap₂ (λ (a b : List Run). a ++ b) (layers w) (layer w)
      ∙ sym (joined_push (λ z. flat_map (λ y. row_flips n solid y z) (range_with_len 0 n)) w)

  -- all rows by number are the rows by z and then y
  pub rows_all : first_rows n solid (n * n) ≡ flips_of n solid
  unfolding first_rows flips_of
  rows_all = layers n

  pub rows_none : first_rows n solid 0 ≡ []
  unfolding first_rows
  rows_none = refl

  pub rows_more : (i : ℕ) → first_rows n solid (i + 1) ≡ first_rows n solid i ++ numbered i
  unfolding first_rows
  rows_more i = ap (λ k. flat_map numbered (range_with_len 0 k)) (add-one i) ∙ joined_push numbered i
