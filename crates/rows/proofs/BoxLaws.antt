-- The rows of a box, one after another.
use Rattle.std.proofs.Common.{◌≡◌, ℕ, ◌+◌, ◌-◌, ◌*◌, ◌/◌, ◌%◌, ◌<◌, ◌≤◌, Bool, true, false, eqb, leb, refl, List, length, take, drop, sym, ap, ◌∙◌, subst, ⊎_elim, arith}
use Rattle.std.proofs.Math.Nat.{mul-le-mul_right}
use Rattle.std.proofs.lemmas.Bool.{cases_Bool, eqb-true, eqb-false, leb-true, leb-false}
use Rattle.std.proofs.lemmas.List.{drop-take}
use Rattle.std.proofs.lemmas.Slice.{take-put_mid_below, between-put_mid, drop-put_mid}
use borrow.Rule.Slice.PartMut.{put_mid}
use Rattle.geometry.specs.declared.facet.Facet.{Facet}
use Rattle.rows.specs.Rows.{RowOf, RowsOf, SameBehind}

module _ (n k m : ℕ) (cells row : List Bool) where
  -- a row before the one that is written stays
  row_stays : k < m → m * n ≤ length cells → take n (drop (k * n) (put_mid (m * n) n cells row)) ≡ take n (drop (k * n) cells)
  row_stays h w =
      let below : (k + 1) * n ≤ m * n = mul-le-mul_right n (omega arith) in
      sym (drop-take (k * n) n (put_mid (m * n) n cells row))
      ∙ ap (drop (k * n)) (take-put_mid_below (m * n) n cells row (k * n + n) (omega arith) w)
      ∙ drop-take (k * n) n cells

-- one row more
pub rows_more : (fs : List Facet) (n m : ℕ) (cells row : List Bool) → m * n + n ≤ length cells → length row ≡ n → RowsOf fs n m cells
    → RowOf fs (m % n) (m / n) row → RowsOf fs n (m + 1) (put_mid (m * n) (m * n + n - m * n) cells row)
rows_more fs n m cells row w e before h =
    rw same (λ k less fits. ⊎_elim (λ (is : eqb k m ≡ true). last k (eqb-true k m is)) (λ (is : eqb k m ≡ false). earlier k less (eqb-false k m is)) (cases_Bool (eqb k m)))
  where
    same : m * n + n - m * n ≡ n
    same = omega arith

    after : List Bool
    after = put_mid (m * n) n cells row

    last : (k : ℕ) → k ≡ m → RowOf fs (k % n) (k / n) (take n (drop (k * n) after))
    last k is =
        let there : take n (drop (m * n) after) ≡ row =
        subst (λ (j : ℕ). take j (drop (m * n) after) ≡ row) same (between-put_mid (m * n) n cells row (m * n + n) (omega arith) (omega arith)) in
        rw (is, there) h

    earlier : (k : ℕ) → k < m + 1 → (k ≡ m → ⊥) → RowOf fs (k % n) (k / n) (take n (drop (k * n) after))
    earlier k less other =
        let below : (k + 1) * n ≤ m * n = mul-le-mul_right n (omega arith) in
        rw (row_stays n k m cells row (omega arith) (omega arith)) (before k (omega arith) (omega arith))

-- no place for one row more
pub rows_full : (fs : List Facet) (n m : ℕ) (cells : List Bool) → length cells < m * n + n → RowsOf fs n m cells → RowsOf fs n (m + 1) cells
rows_full fs n m cells full before = λ k less fits. before k (earlier k less fits) fits
  where
    earlier : (k : ℕ) → k < m + 1 → k * n + n ≤ length cells → k < m
    earlier k less fits =
        ⊎_elim (λ (is : eqb k m ≡ true). let fits_m = subst (λ (k : ℕ). k * n + n ≤ length cells) (eqb-true k m is) fits in absurd (omega arith))
        (λ (is : eqb k m ≡ false). let other = eqb-false k m is in omega arith) (cases_Bool (eqb k m))

-- what stands behind the rows stays
pub behind_none : (n : ℕ) (cells : List Bool) → SameBehind n 0 cells cells
behind_none n cells = record { behind = λ k h. refl; too_few = λ k h. refl }

pub behind_more : (n m : ℕ) (old cells row : List Bool) → length cells ≡ length old → m * n + n ≤ length cells → length row ≡ n → SameBehind n m old cells
    → SameBehind n (m + 1) old (put_mid (m * n) (m * n + n - m * n) cells row)
behind_more n m old cells row len w e before = record {
  behind = later;
  too_few = λ k h. later k (beyond k h);
}
  where
    later : (k : ℕ) → m + 1 ≤ k → drop (k * n) (put_mid (m * n) (m * n + n - m * n) cells row) ≡ drop (k * n) old
    later k h =
        let next : (m + 1) * n ≤ k * n = mul-le-mul_right n h in
        drop-put_mid (m * n) (m * n + n - m * n) cells row (k * n) (omega arith) (omega arith) (omega arith) ∙ before.behind k (omega arith)

    beyond : (k : ℕ) → length old < k * n + n → m + 1 ≤ k
    beyond k h = ⊎_elim (λ (is : leb k m ≡ true). let low : k * n ≤ m * n = mul-le-mul_right n (leb-true k m is) in absurd (omega arith)) (λ (is : leb k m ≡ false). let more : m < k = leb-false k m is in omega arith) (cases_Bool (leb k m))

pub behind_full : (n m : ℕ) (old cells : List Bool) → SameBehind n m old cells → SameBehind n (m + 1) old cells
behind_full n m old cells before = record { behind = λ k h. before.behind k (omega arith); too_few = before.too_few }
