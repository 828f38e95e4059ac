-- Bits of bytes, and cells in a list of bytes.
use Rattle.std.proofs.Common.{◌≡◌, ℕ, suc, ◌+◌, ◌-◌, ◌*◌, ◌/◌, ◌%◌, ◌^◌, ◌<◌, Bool, true, false, cond, not, ◌||◌, eqb, ◌⊎◌, List, length, get_or, set, sym, refl, ap, ◌∙◌, subst, ap₂, inl, inr, ⊎_elim, mod-lt, one-mul, arith, lit<, get_or-set_other, get_or-set_same, pow_pos, pow-add}
use mathlib.Core.Path.{fun_ext}
use native.Mathlib.Nat.{div-eq_of_lt, div_self, zero-div}
use lib.Bits.{bit_and, bit_or, bit_xor, or_shr, or_mod, xor_shr, xor_mod, and_mask, shifted_even}
use lib.Pow.{pow-lt, shl-shr}
use Rattle.std.proofs.lemmas.Bool.{eq-eqb, ne_eqb, cases_eq, cases_order}
use Rattle.std.proofs.lemmas.Bool.Decides.{nat_tests}
use Rattle.block.specs.Drawing.{turned}
use Rattle.block.proofs.Turns.{turned_one}
use Rattle.dense.specs.Marks.{marked}
use Rattle.dense.specs.Cells.{bit, cell_in, filled_at, turned_at}

-- an operation that goes bit by bit: what it does to two bits says what it does to two numbers, bit for bit
module _ (op : ℕ → ℕ → ℕ) (shr : (a b j : ℕ) → op a b / 2 ^ j ≡ op (a / 2 ^ j) (b / 2 ^ j)) (low : (a b j : ℕ) → op a b % 2 ^ j ≡ op (a % 2 ^ j) (b % 2 ^ j))
    (f : Bool → Bool → Bool) (p : eqb (op 0 0) 1 ≡ f false false) (q : eqb (op 0 1) 1 ≡ f false true) (r : eqb (op 1 0) 1 ≡ f true false) (s : eqb (op 1 1) 1 ≡ f true true) where
  bit_by : (a b j : ℕ) → bit (op a b) j ≡ f (bit a j) (bit b j)
  unfolding bit
  bit_by a b j = ap (λ v. eqb v 1) (ap (λ v. v % 2) (shr a b j) ∙ low (a / 2 ^ j) (b / 2 ^ j) 1) ∙ small (a / 2 ^ j % 2) (b / 2 ^ j % 2) (two (a / 2 ^ j)) (two (b / 2 ^ j))
    where
      two : (x : ℕ) → (x % 2 ≡ 0) ⊎ (x % 2 ≡ 1)
      two x = let h : x % 2 < 2 = mod-lt x (lit< tt) in grind arith

      small : (x y : ℕ) → (x ≡ 0) ⊎ (x ≡ 1) → (y ≡ 0) ⊎ (y ≡ 1) → eqb (op x y) 1 ≡ f (eqb x 1) (eqb y 1)
      small x y (inl d) (inl e) = rw (d, e) p
      small x y (inl d) (inr e) = rw (d, e) q
      small x y (inr d) (inl e) = rw (d, e) r
      small x y (inr d) (inr e) = rw (d, e) s

-- the bits of a power of two
bit_pow : (m j : ℕ) → bit (2 ^ m) j ≡ eqb j m
unfolding bit
bit_pow m j = ⊎_elim same (⊎_elim low high) (cases_order j m)
  where
    same : j ≡ m → eqb (2 ^ m / 2 ^ j % 2) 1 ≡ eqb j m
    same e = let p = pow_pos m in rw (e, div_self p) (sym (eq-eqb m m refl))

    low : j < m → eqb (2 ^ m / 2 ^ j % 2) 1 ≡ eqb j m
    low h =
        let e : suc (m - j - 1) + j ≡ m = omega arith in
        let ne : j ≡ m → ⊥ = omega arith in
        let even : 2 ^ (suc (m - j - 1) + j) / 2 ^ j % 2 ≡ 0 = rw (pow-add 2 (suc (m - j - 1)) j, shl-shr (2 ^ suc (m - j - 1)) j) (ap (λ v. v % 2) (sym (one-mul (2 ^ suc (m - j - 1)))) ∙ shifted_even 1 (m - j - 1)) in
        ap (λ v. eqb v 1) (subst (λ v. 2 ^ v / 2 ^ j % 2 ≡ 0) e even) ∙ sym (ne_eqb j m ne)

    high : m < j → eqb (2 ^ m / 2 ^ j % 2) 1 ≡ eqb j m
    high h = let ne : j ≡ m → ⊥ = omega arith in ap (λ v. eqb (v % 2) 1) (div-eq_of_lt (pow-lt h)) ∙ sym (ne_eqb j m ne)

-- the bits of 0
bit_zero : (j : ℕ) → bit 0 j ≡ false
unfolding bit
bit_zero j = ap (λ v. eqb (v % 2) 1) (zero-div (2 ^ j))

-- a bit, as it is read
pub bit_read : (b j : ℕ) → eqb (bit_and (b / 2 ^ j) 1) 1 ≡ bit b j
unfolding bit
bit_read b j = ap (λ v. eqb v 1) (and_mask (b / 2 ^ j) 1)

-- a cell of a byte that is 0
pub cell_zero : (bs : List ℕ) (k : ℕ) → get_or bs (k / 8) 0 ≡ 0 → cell_in bs k ≡ false
cell_zero bs k e = ap (λ v. bit v (k % 8)) e ∙ bit_zero (k % 8)

-- a byte v for the one that cell k lies in, which differs at that cell alone: there f says by what
module _ (bs : List ℕ) (k v : ℕ) (f : Bool → Bool → Bool) (keeps : (b : Bool) → f false b ≡ b)
    (here : (i : ℕ) → bit v i ≡ f (eqb i (k % 8)) (bit (get_or bs (k / 8) 0) i)) (within : k < 8 * length bs) where
  cell_set : (j : ℕ) → cell_in (set bs (k / 8) v) j ≡ f (eqb j k) (cell_in bs j)
  cell_set j = ⊎_elim in_byte elsewhere (cases_eq (j / 8) (k / 8))
    where
      in_byte : j / 8 ≡ k / 8 → cell_in (set bs (k / 8) v) j ≡ f (eqb j k) (cell_in bs j)
      in_byte e =
          let w : k / 8 < length bs = omega arith in
          let t : eqb (j % 8) (k % 8) ≡ eqb j k = grind (arith, nat_tests) in
          ap (λ i. bit (get_or (set bs (k / 8) v) i 0) (j % 8)) e
          ∙ ap (λ x. bit x (j % 8)) (get_or-set_same bs (k / 8) v 0 w)
          ∙ here (j % 8)
          ∙ ap₂ f t (ap (λ i. bit (get_or bs i 0) (j % 8)) (sym e))

      elsewhere : (j / 8 ≡ k / 8 → ⊥) → cell_in (set bs (k / 8) v) j ≡ f (eqb j k) (cell_in bs j)
      elsewhere ne =
          let o : j ≡ k → ⊥ = λ e. ne (ap (λ i. i / 8) e) in
          ap (λ x. bit x (j % 8)) (get_or-set_other bs (k / 8) (j / 8) v 0 ne)
          ∙ sym (keeps (cell_in bs j))
          ∙ ap (λ t. f t (cell_in bs j)) (sym (ne_eqb j k o))

-- the bytes with cell k made solid, and with cell k changed, cell by cell
pub cells_filled : (bs : List ℕ) (k : ℕ) → k < 8 * length bs → cell_in (filled_at bs k) ≡ marked (cell_in bs) k
unfolding marked
cells_filled bs k h = fun_ext (cell_set bs k _ (λ t b. t || b) (λ b. refl)
    (λ i. bit_by bit_or or_shr or_mod (λ b t. t || b) refl refl refl refl (get_or bs (k / 8) 0) (2 ^ (k % 8)) i ∙ ap (λ t. t || bit (get_or bs (k / 8) 0) i) (bit_pow (k % 8) i)) h)

pub cells_turned : (bs : List ℕ) (k : ℕ) → k < 8 * length bs → cell_in (turned_at bs k) ≡ turned (cell_in bs) k (k + 1)
cells_turned bs k h = fun_ext (λ j. cell_set bs k _ (λ t b. cond t (not b) b) (λ b. refl)
    (λ i. bit_by bit_xor xor_shr xor_mod (λ b t. cond t (not b) b) refl refl refl refl (get_or bs (k / 8) 0) (2 ^ (k % 8)) i ∙ ap (λ t. cond t (not (bit (get_or bs (k / 8) 0) i)) (bit (get_or bs (k / 8) 0) i)) (bit_pow (k % 8) i)) h j
    ∙ sym (turned_one (cell_in bs) k j))
