-- Cells by their numbers, and the cells of a row.
use Rattle.std.proofs.Common.{◌≡◌, ℕ, ◌+◌, ◌*◌, ◌/◌, ◌%◌, ◌<◌, ◌≤◌, Bool, true, false, cond, not, ◌&&◌, eqb, ltb, leb, sym, refl, ap, ◌∙◌, ⊎_elim, mul_assoc, mul_comm, mul-le-mul_left, mul-one, mul-suc, mul-add, arith}
use native.Mathlib.Nat.{div-div-eq-div-mul}
use Rattle.std.proofs.lemmas.Nat.{div-add-mod', div_below, div-mul-add, mod_below, mod-mul-add}
use Rattle.std.proofs.lemmas.Bool.{and_left, and_right, cases_eq, cases_lt, le-ltb, lt-leb, ne_eqb}
use Rattle.std.proofs.lemmas.Bool.Decides.{nat_tests}
use Rattle.block.specs.Drawing.{number, turned}

-- a row's cells follow one another: row (y, z) is the row y + n z
pub number_row : (n x y z : ℕ) → number n x y z ≡ (z * n + y) * n + x
number_row n x y z = omega (arith, mul_comm n (z * n + y), mul-add n (z * n) y, mul_comm z n, mul_assoc n n z)

-- ---- the cell of a number

pub number_x : (n x y z : ℕ) → x < n → number n x y z % n ≡ x
number_x n x y z hx = ap (λ k. k % n) (number_row n x y z) ∙ mod-mul-add (z * n + y) n x hx

number_over : (n x y z : ℕ) → x < n → number n x y z / n ≡ z * n + y
number_over n x y z hx = ap (λ k. k / n) (number_row n x y z) ∙ div-mul-add (z * n + y) n x hx

pub number_y : (n x y z : ℕ) → x < n → y < n → number n x y z / n % n ≡ y
number_y n x y z hx hy = ap (λ k. k % n) (number_over n x y z hx) ∙ mod-mul-add z n y hy

pub number_z : (n x y z : ℕ) → x < n → y < n → number n x y z / (n * n) ≡ z
number_z n x y z hx hy = sym (div-div-eq-div-mul (number n x y z) n n) ∙ ap (λ k. k / n) (number_over n x y z hx) ∙ div-mul-add z n y hy

-- ---- the number of the cell of a number

pub number_again : (n k : ℕ) → number n (k % n) (k / n % n) (k / (n * n)) ≡ k
number_again n k = number_row n (k % n) (k / n % n) (k / (n * n)) ∙ ap (λ t. (t * n + k / n % n) * n + k % n) (sym (div-div-eq-div-mul k n n)) ∙ ap (λ t. t * n + k % n) (div-add-mod' (k / n) n) ∙ div-add-mod' k n

pub cell_below : (n k : ℕ) → 0 < n → k < n * n * n → (k % n < n) × (k / n % n < n) × (k / (n * n) < n)
cell_below n k p h = (mod_below k n p, mod_below (k / n) n p, div_below k (n * n) n (omega (arith, p, mul-le-mul_left n p, mul-one n)) (omega (arith, h, mul_assoc n n n)))

-- ---- which cells a run of a row has

-- one row lies wholly before a later one
row_before : (n a b : ℕ) → a < b → a * n + n ≤ b * n
row_before n a b h = omega (arith, mul-le-mul_left n h, mul-suc n a)

rows_same : (n y z v w : ℕ) → y < n → v < n → w * n + v ≡ z * n + y → (v ≡ y) × (w ≡ z)
rows_same n y z v w hy hv e = (sym (mod-mul-add w n v hv) ∙ ap (λ k. k % n) e ∙ mod-mul-add z n y hy, sym (div-mul-add w n v hv) ∙ ap (λ k. k / n) e ∙ div-mul-add z n y hy)

module _ (n l r y z x v w : ℕ) (hr : r ≤ n) (hy : y < n) (hx : x < n) (hv : v < n) where
  same_row : v ≡ y → w ≡ z → (leb (number n l y z) (number n x v w) && ltb (number n x v w) (number n r y z)) ≡ (eqb v y && (eqb w z && (leb l x && ltb x r)))
  same_row ev ew =
      let a : n * v ≡ n * y = ap (λ t. n * t) ev in
      let b : n * n * w ≡ n * n * z = ap (λ t. n * n * t) ew in
      grind (arith, nat_tests)

  other_row : (v ≡ y → w ≡ z → ⊥) → (leb (number n l y z) (number n x v w) && ltb (number n x v w) (number n r y z)) ≡ (eqb v y && (eqb w z && (leb l x && ltb x r)))
  other_row ne =
      let i : number n l y z ≡ (z * n + y) * n + l = number_row n l y z in
      let j : number n x v w ≡ (w * n + v) * n + x = number_row n x v w in
      let k : number n r y z ≡ (z * n + y) * n + r = number_row n r y z in
      ⊎_elim
      (λ e. absurd (ne (rows_same n y z v w hy hv e).0 (rows_same n y z v w hy hv e).1))
      (λ e. ⊎_elim
      (λ h. let b = row_before n (w * n + v) (z * n + y) h in and_left (leb (number n l y z) (number n x v w)) _ (lt-leb (number n l y z) (number n x v w) (omega (arith, b, i, j))) ∙ sym none)
      (λ h. let b = row_before n (z * n + y) (w * n + v) (omega (arith, h, e)) in and_right (leb (number n l y z) (number n x v w)) _ (le-ltb (number n x v w) (number n r y z) (omega (arith, b, j, k))) ∙ sym none)
      (cases_lt (w * n + v) (z * n + y)))
      (cases_eq (w * n + v) (z * n + y))
    where
      none : (eqb v y && (eqb w z && (leb l x && ltb x r))) ≡ false
      none = ⊎_elim
          (λ e. and_right (eqb v y) _ (and_left (eqb w z) _ (ne_eqb w z (ne e))))
          (λ e. and_left (eqb v y) _ (ne_eqb v y e))
          (cases_eq v y)

  -- the cell (x, v, w) is one of the cells l up to, and without, r of the row (y, z) where it lies in that row, and there
  in_run : (leb (number n l y z) (number n x v w) && ltb (number n x v w) (number n r y z)) ≡ (eqb v y && (eqb w z && (leb l x && ltb x r)))
  in_run = ⊎_elim (λ ev. ⊎_elim (same_row ev) (λ nw. other_row (λ _ e. nw e)) (cases_eq w z)) (λ nv. other_row (λ e _. nv e)) (cases_eq v y)

  pub turned_row : (d : ℕ → Bool) → turned d (number n l y z) (number n r y z) (number n x v w) ≡ cond (eqb v y && (eqb w z && (leb l x && ltb x r))) (not (d (number n x v w))) (d (number n x v w))
  unfolding turned
  turned_row d = both (leb (number n l y z) (number n x v w)) (ltb (number n x v w) (number n r y z)) (not (d (number n x v w))) (d (number n x v w)) ∙ ap (λ b. cond b (not (d (number n x v w))) (d (number n x v w))) in_run
    where
      both : (a b u t : Bool) → cond a (cond b u t) t ≡ cond (a && b) u t
      both true b u t = refl
      both false b u t = refl
