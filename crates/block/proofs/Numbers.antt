-- The numbers of cells.
use Rattle.std.proofs.Common.{◌≡◌, ℕ, ◌+◌, ◌*◌, ◌<◌, ◌≤◌, true, mul-le-mul_left, mul-one, mul-add, arith}
use Rattle.std.proofs.lemmas.Bool.Decides.{nat_tests}
use Rattle.block.specs.declared.cells.Run.{Run}
use Rattle.block.specs.Drawing.{number, in_box, in_row}

-- what the tests of a cell and of a run tell
pub in_box_true : (n x y z : ℕ) → in_box n x y z ≡ true → (x < n) × (y < n) × (z < n)
in_box_true n x y z e = (grind (arith, nat_tests), grind (arith, nat_tests), grind (arith, nat_tests))

pub in_row_true : (n : ℕ) (w : Run) → in_row n w ≡ true → (w.y < n) × (w.z < n) × (w.start < w.end) × (w.end ≤ n)
in_row_true n w e = (grind (arith, nat_tests), grind (arith, nat_tests), grind (arith, nat_tests), grind (arith, nat_tests))

-- a row of the box, with its end, lies in the box
pub number_le : (n x y z : ℕ) → x ≤ n → y < n → z < n → number n x y z ≤ n * n * n
number_le n x y z hx hy hz =
    let a : y + 1 ≤ n = omega arith in
    let b : z + 1 ≤ n = omega arith in
    omega (arith, mul-le-mul_left n a, mul-add n y 1, mul-one n, mul-le-mul_left (n * n) b, mul-add (n * n) z 1, mul-one (n * n))

-- a cell of the box has a number below n × n × n
pub number_lt : (n x y z : ℕ) → x < n → y < n → z < n → number n x y z < n * n * n
number_lt n x y z hx hy hz =
    let a : x + 1 ≤ n = omega arith in
    omega (arith, number_le n (x + 1) y z a hy hz)

-- where the tests hold, the cell lies in the box, and the run has a cell and ends in the box
pub cell_within : (n x y z : ℕ) → in_box n x y z ≡ true → number n x y z < n * n * n
cell_within n x y z e = let p = in_box_true n x y z e in number_lt n x y z p.0 p.1 p.2

pub run_within : (n : ℕ) (w : Run) → in_row n w ≡ true → (number n w.start w.y w.z < number n w.end w.y w.z) × (number n w.end w.y w.z ≤ n * n * n)
run_within n w e = let p = in_row_true n w e in (omega arith, number_le n w.end w.y w.z p.3 p.0 p.1)
