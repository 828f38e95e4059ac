-- The cells of the grid against triangles. A cell k is given by three whole numbers, as a point is; h is half a cell's width, so that
-- the cell is the closed box from 2h·k to 2h·k + 2h on each axis.
use Rattle.std.specs.Prelude.{ℕ, zero, suc, Bool, if◌then◌else◌, not, ◌&&◌, ◌||◌, ℤ, pos, negsuc, ◌+ℤ◌, ◌*ℤ◌, int_le}
use Rattle.geometry.specs.declared.mesh.Point.{Point}
use Rattle.geometry.specs.declared.mesh.Triangle.{Triangle}
use Rattle.geometry.specs.Geometry.{is_zero, normal_of, edge, plane, crosses}

abbrev pub cell_at : ℕ → ℕ → ℕ → Point
cell_at x y z = record { x = pos x; y = pos y; z = pos z }

abbrev pub low : ℤ → ℤ → ℤ
low h k = (h +ℤ h) *ℤ k

abbrev pub high : ℤ → ℤ → ℤ
high h k = (h +ℤ h) *ℤ k +ℤ (h +ℤ h)

abbrev pub middle : ℤ → ℤ → ℤ
middle h k = (h +ℤ h) *ℤ k +ℤ h

abbrev pub centre : ℤ → Point → Point
centre h k = record { x = middle h k.x; y = middle h k.y; z = middle h k.z }

-- ---- the first crossed cell of a row

-- the least k below n at which f holds, or n
abbrev pub least : (ℕ → Bool) → ℕ → ℕ
least f zero = zero
least f (suc n) = if f 0 then 0 else suc (least (λ k. f (suc k)) n)

-- of the n cells of the row (y, z), the first at or before whose centre the triangle crosses, or n
unfoldable pub first_crossed : ℤ → ℕ → ℕ → ℕ → Triangle → ℕ
first_crossed h y z n t = least (λ x. crosses (centre h (cell_at x y z)) t) n

-- ---- thick: the cells that a triangle touches

-- 1, or −1 of a negative number
abbrev pub sign : ℤ → ℤ
sign a = if int_le (pos 0) a then pos 1 else negsuc 0

-- at one end or the other of the cell's span
abbrev pub at_end : ℤ → ℤ → (ℤ → Bool) → Bool
at_end h k f = f (low h k) || f (high h k)

-- at one of the cell's eight corners
abbrev pub at_corner : ℤ → Point → (Point → Bool) → Bool
at_corner h k f = at_end h k.x (λ x. at_end h k.y (λ y. at_end h k.z (λ z. f (record { x = x; y = y; z = z }))))

-- at one of the triangle's corners
abbrev pub at_tip : (Point → Bool) → Triangle → Bool
at_tip f t = f t.v0 || f t.v1 || f t.v2

-- the triangle's closed span on an axis meets the cell's
abbrev pub reaches : (Point → ℤ) → ℤ → ℤ → Triangle → Bool
reaches f h k t = at_tip (λ v. int_le (f v) (high h k)) t && at_tip (λ v. int_le (low h k) (f v)) t

-- in the plane of the axes a and b, some corner of the cell is at the inner side of the line from u to v, or on it; n is the normal's
-- component along the third axis, whose sign tells which side is the inner one
abbrev pub beside_side : (Point → ℤ) → (Point → ℤ) → ℤ → Point → Point → ℤ → Point → Bool
beside_side a b n u v h k = at_corner h k (λ q. int_le (pos 0) (sign n *ℤ edge a b u v q))

-- no side of the triangle, seen along the third axis, has the whole cell outside
abbrev pub beside : (Point → ℤ) → (Point → ℤ) → ℤ → ℤ → Point → Triangle → Bool
beside a b n h k t =
    beside_side a b n t.v0 t.v1 h k && beside_side a b n t.v1 t.v2 h k && beside_side a b n t.v2 t.v0 h k

-- over the corners of the cell the plane's least value is at most 0, and its greatest at least 0
abbrev pub cut_by_plane : ℤ → Point → Triangle → Bool
cut_by_plane h k t = at_corner h k (λ q. int_le (plane q t) (pos 0)) && at_corner h k (λ q. int_le (pos 0) (plane q t))

-- the triangle makes the cell thick: extent, plane and sides
unfoldable pub thick : ℤ → Point → Triangle → Bool
thick h k t =
    reaches (λ p. p.x) h k.x t && reaches (λ p. p.y) h k.y t && reaches (λ p. p.z) h k.z t
    && cut_by_plane h k t
    && beside (λ p. p.x) (λ p. p.y) (normal_of t).z h k t
    && beside (λ p. p.y) (λ p. p.z) (normal_of t).x h k t
    && beside (λ p. p.z) (λ p. p.x) (normal_of t).y h k t

-- ---- thin: the cells near whose centre a triangle passes, along an axis

-- a number without its sign
abbrev pub size : ℤ → ℤ
size a = sign a *ℤ a

-- q is at the inner side of the line from u to v, or on it
abbrev pub within_side : (Point → ℤ) → (Point → ℤ) → ℤ → Point → Point → Point → Bool
within_side a b n u v q = int_le (pos 0) (sign n *ℤ edge a b u v q)

-- the line through q along the third axis meets the closed triangle, which does not lie along it; n is the normal's component along that axis
abbrev pub met : (Point → ℤ) → (Point → ℤ) → ℤ → Point → Triangle → Bool
met a b n q t = not (is_zero n) && within_side a b n t.v0 t.v1 q && within_side a b n t.v1 t.v2 q && within_side a b n t.v2 t.v0 q

-- it meets the triangle's plane at most h from q
abbrev pub close : ℤ → ℤ → Point → Triangle → Bool
close n h q t = int_le (size (plane q t)) (h *ℤ size n)

-- it meets the closed triangle at most h from q
abbrev pub near : (Point → ℤ) → (Point → ℤ) → ℤ → ℤ → Point → Triangle → Bool
near a b n h q t = met a b n q t && close n h q t

-- the triangle makes the cell thin
unfoldable pub thin : ℤ → Point → Triangle → Bool
thin h k t =
    near (λ p. p.y) (λ p. p.z) (normal_of t).x h (centre h k) t
    || near (λ p. p.z) (λ p. p.x) (normal_of t).y h (centre h k) t
    || near (λ p. p.x) (λ p. p.y) (normal_of t).z h (centre h k) t
