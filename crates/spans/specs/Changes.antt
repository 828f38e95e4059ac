-- The change places of a drawing: the numbers of the cells that differ from the cell before them, where the cell before 0 counts as empty.
use Rattle.std.specs.Prelude.{◌≡◌, ℕ, zero, suc, ◌+◌, ◌*◌, Bool, if◌then◌else◌, ◌&&◌, List, length, nat_eq, nat_le, nat_lt}
use Rattle.std.specs.List.Sorted.{IsStrictlyIncreasing}
use Rattle.algebra.specs.Parity.{◌⊻◌}
use Rattle.toggles.specs.Toggled.{has}

-- whether cell i differs from the cell before it
unfoldable pub differs : (ℕ → Bool) → ℕ → Bool
differs d zero = d zero
differs d (suc i) = d (suc i) ⊻ d i

-- how many numbers below n pass the test f
unfoldable pub count : ℕ → (ℕ → Bool) → ℕ
count zero f = 0
count (suc n) f = (if f n then 1 else 0) + count n f

-- how many of the first n cells differ from the cell before them
abbrev pub changes : ℕ → (ℕ → Bool) → ℕ
changes n d = count n (differs d)

-- so many places are enough for the change places of the drawing d of a box of n × n × n cells
abbrev pub suffice : ℕ → ℕ → (ℕ → Bool) → Bool
suffice n places d = nat_le (changes (n * n * n) d) places

-- ps are the change places of the drawing d in a box of m cells: each is less than the next, a number is among them exactly where it is that
-- of a cell of the box that differs from the cell before it, and they are as many as there are such cells
pub record ChangePlaces (m : ℕ) (d : ℕ → Bool) (ps : List ℕ) : Type 0 where
  pub rising : IsStrictlyIncreasing ps
  pub exact : (i : ℕ) → has nat_eq ps i ≡ (nat_lt i m && differs d i)
  pub many : length ps ≡ changes m d

-- the places ns are the places ks with a and then b toggled: each is less than the next, and a number is among them where it was, but for
-- a and b
pub record TogglesBoth (ks ns : List ℕ) (a b : ℕ) : Type 0 where
  pub rising : IsStrictlyIncreasing ns
  pub exact : (i : ℕ) → has nat_eq ns i ≡ (has nat_eq ks i ⊻ nat_eq i a ⊻ nat_eq i b)
