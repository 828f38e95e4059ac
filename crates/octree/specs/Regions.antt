-- The regions of a box, and how many groups a drawing needs.
--
-- A region of level n is a cube of 2ⁿ cells along each axis. One of level 1 or more has eight children, the regions of half its width. The
-- box is a region, and so are its children, theirs, and so on down to the single cells, which are the regions of level 0.
use Rattle.std.specs.Prelude.{ℕ, zero, suc, ◌+◌, ◌*◌, ◌/◌, ◌%◌, Bool, true, false, if◌then◌else◌, not, ◌&&◌, ◌||◌, ◌==◌, nat_le}
use Rattle.block.specs.Drawing.{number}
use Rattle.block.specs.declared.cells.Cell.{Cell}

-- how many cells a region of level n has along each axis
abbrev pub width : ℕ → ℕ
width zero = 1
width (suc n) = width n + width n

-- the level of a box that has n cells along each axis
abbrev pub level_of : ℕ → ℕ
level_of n = if n == 2 then 1 else (if n == 4 then 2 else (if n == 8 then 3 else (if n == 16 then 4 else (if n == 32 then 5 else 6))))

-- where the box begins
abbrev pub origin : Cell
origin = record { x = 0; y = 0; z = 0 }

-- the cell a, counted from c on
abbrev pub plus : Cell → Cell → Cell
plus c a = record { x = c.x + a.x; y = c.y + a.y; z = c.z + a.z }

-- where the child k begins in its region, whose children have h cells along each axis: bit 0 of k tells the upper half along x, bit 1 along
-- y and bit 2 along z
abbrev pub start_of : ℕ → ℕ → Cell
start_of h k = record { x = h * (k % 2); y = h * (k / 2 % 2); z = h * (k / 4 % 2) }

-- the sum over eight children, and what holds of all eight
abbrev pub sum8 : (ℕ → ℕ) → ℕ
sum8 f = f 0 + f 1 + f 2 + f 3 + f 4 + f 5 + f 6 + f 7

abbrev pub all8 : (ℕ → Bool) → Bool
all8 p = p 0 && (p 1 && (p 2 && (p 3 && (p 4 && (p 5 && (p 6 && p 7))))))

-- every cell of the region of level n that begins at c is v
abbrev pub all_are : Bool → ℕ → (Cell → Bool) → Cell → Bool
all_are v zero d c = if v then d c else not (d c)
all_are v (suc n) d c = all8 (λ k. all_are v n d (plus c (start_of (width n) k)))

-- 1 where the region has solid cells and empty ones, else 0
abbrev pub mixed : ℕ → (Cell → Bool) → Cell → ℕ
mixed n d c = if all_are true n d c || all_are false n d c then 0 else 1

-- of the region of level n that begins at c, and the smaller ones in it, how many are mixed; a single cell never is
abbrev pub need_of : ℕ → (Cell → Bool) → Cell → ℕ
need_of zero d c = 0
need_of (suc n) d c = mixed (suc n) d c + sum8 (λ k. need_of n d (plus c (start_of (width n) k)))

-- how many groups a drawing by cell number needs, in a box that has n cells along each axis: one for each mixed region
unfoldable pub needed : ℕ → (ℕ → Bool) → ℕ
needed n d = need_of (level_of n) (λ c. d (number n c.x c.y c.z)) origin

-- the drawing needs at most m groups
unfoldable pub room : ℕ → ℕ → (ℕ → Bool) → Bool
room n m d = nat_le (needed n d) m
