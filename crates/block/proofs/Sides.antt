-- The six sides that a box may have.
use Rattle.std.proofs.Common.{◌≡◌, ℕ, ◌*◌, ◌/◌, ◌<◌, ◌≤◌, Bool, true, ◌||◌, eqb, sym, refl, subst, ⊎_elim, lit<, lit≤}
use Rattle.std.proofs.lemmas.Bool.{eqb-true, or_cases}
use Rattle.refusals.specs.Sides.{is_side}

-- what holds of each of the six holds of every side
pub by_side : (P : ℕ → Type 0) → P 2 → P 4 → P 8 → P 16 → P 32 → P 64 → (n : ℕ) → is_side n ≡ true → P n
by_side P p q r s t u n = more _ 64 u (more _ 32 t (more _ 16 s (more _ 8 r (more _ 4 q (one 2 p)))))
  where
    one : (m : ℕ) → P m → eqb n m ≡ true → P n
    one m v e = subst P (sym (eqb-true n m e)) v

    more : (b : Bool) (m : ℕ) → P m → (b ≡ true → P n) → (b || eqb n m) ≡ true → P n
    more b m v rest e = ⊎_elim rest (one m v) (or_cases b (eqb n m) e)

pub side_le : (n : ℕ) → is_side n ≡ true → n ≤ 64
side_le = by_side (λ n. n ≤ 64) (lit≤ tt) (lit≤ tt) (lit≤ tt) (lit≤ tt) (lit≤ tt) (lit≤ tt)

-- a box has a cell
pub cube_some : (n : ℕ) → is_side n ≡ true → 0 < n * n * n
cube_some = by_side (λ n. 0 < n * n * n) (lit< tt) (lit< tt) (lit< tt) (lit< tt) (lit< tt) (lit< tt)

pub cube_le : (n : ℕ) → is_side n ≡ true → n * n * n ≤ 262144
cube_le = by_side (λ n. n * n * n ≤ 262144) (lit≤ tt) (lit≤ tt) (lit≤ tt) (lit≤ tt) (lit≤ tt) (lit≤ tt)

-- a box has a whole number of eights of cells
pub cube_eights : (n : ℕ) → is_side n ≡ true → 8 * (n * n * n / 8) ≡ n * n * n
cube_eights = by_side (λ n. 8 * (n * n * n / 8) ≡ n * n * n) refl refl refl refl refl refl
