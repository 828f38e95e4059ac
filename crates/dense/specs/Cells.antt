-- Cells in bytes, for a box of n × n × n cells: cell k is bit k mod 8, the lowest first, of byte k div 8.
use Rattle.std.specs.Prelude.{◌≡◌, ℕ, zero, suc, ◌*◌, ◌/◌, ◌%◌, ◌^◌, ◌<◌, Bool, true, false, if◌then◌else◌, not, ◌&&◌, ◌||◌, List, ◌++◌, length, drop, replicate, ◌==◌, bit_or, bit_xor, nat_le, nat_lt, slice_index, slice_set}

-- bit j of a byte, the lowest being bit 0
unfoldable pub bit : ℕ → ℕ → Bool
bit b j = b / 2 ^ j % 2 == 1

-- cell k of the bytes
abbrev pub cell_in : List ℕ → ℕ → Bool
cell_in bs k = bit (slice_index bs (k / 8)) (k % 8)

-- the bytes with cell k made solid, and with cell k changed
abbrev pub filled_at : List ℕ → ℕ → List ℕ
filled_at bs k = slice_set bs (k / 8) (bit_or (slice_index bs (k / 8)) (2 ^ (k % 8)))

abbrev pub turned_at : List ℕ → ℕ → List ℕ
turned_at bs k = slice_set bs (k / 8) (bit_xor (slice_index bs (k / 8)) (2 ^ (k % 8)))

-- how many bytes the cells of the box take
abbrev pub bytes_for : ℕ → ℕ
bytes_for n = n * n * n / 8

-- the bytes have a bit for each cell
abbrev pub enough : ℕ → List ℕ → Bool
enough n bs = nat_le (bytes_for n) (length bs)

-- the drawing that the bytes hold: blank where they are too few, and never solid outside the box
unfoldable pub shown : ℕ → List ℕ → ℕ → Bool
shown n bs k = enough n bs && nat_lt k (n * n * n) && cell_in bs k

-- none of the first m cells is solid
unfoldable pub bare_below : ℕ → (ℕ → Bool) → Bool
bare_below zero d = true
bare_below (suc m) d = not (d m) && bare_below m d

-- none of the cells of the box is solid
abbrev pub BlankIn : ℕ → (ℕ → Bool) → Type 0
BlankIn n d = (k : ℕ) → k < n * n * n → d k ≡ false

-- what fits: every drawing where the bytes are enough, else those alone that are blank in the box
unfoldable pub room : ℕ → List ℕ → (ℕ → Bool) → Bool
room n bs d = enough n bs || bare_below (n * n * n) d

-- the bytes that no cell lies in: all of them where they are too few
abbrev pub spare : ℕ → List ℕ → List ℕ
spare n bs = if enough n bs then drop (bytes_for n) bs else bs

-- the bytes as a new board leaves them: 0 wherever cells lie, and the others as they were
abbrev pub wiped : ℕ → List ℕ → List ℕ
wiped n bs = if enough n bs then replicate (bytes_for n) 0 ++ drop (bytes_for n) bs else bs
