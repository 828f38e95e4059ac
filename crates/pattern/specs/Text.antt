-- Text as bytes: its lines, the words of a line, and the words that are numbers.
use Rattle.std.specs.Prelude.{ℕ, ◌+◌, ◌-◌, ◌*◌, Bool, true, false, if◌then◌else◌, ◌&&◌, List, [], ◌∷◌, length, ℤ, pos, neg_ℤ, ◌==◌, nat_le}
use Rattle.std.specs.Char.{is_ascii_digit}

-- c in front of the first piece
abbrev pub grow : ℕ → List (List ℕ) → List (List ℕ)
grow c [] = (c ∷ []) ∷ []
grow c (w ∷ ws) = (c ∷ w) ∷ ws

-- the lines: each ends in a line feed, byte 10, which the last may lack
abbrev pub lines : List ℕ → List (List ℕ)
lines [] = []
lines (c ∷ cs) = if c == 10 then [] ∷ lines cs else grow c (lines cs)

-- what stands before, between and after the spaces, byte 32
abbrev pub pieces : List ℕ → List (List ℕ)
pieces [] = [] ∷ []
pieces (c ∷ cs) = if c == 32 then [] ∷ pieces cs else grow c (pieces cs)

abbrev pub without_empty : List (List ℕ) → List (List ℕ)
without_empty [] = []
without_empty ([] ∷ ws) = without_empty ws
without_empty ((c ∷ w) ∷ ws) = (c ∷ w) ∷ without_empty ws

-- the words of a line, split by one or more spaces
abbrev pub words : List ℕ → List (List ℕ)
words l = without_empty (pieces l)

-- ---- numbers

abbrev pub all_digits : List ℕ → Bool
all_digits [] = true
all_digits (c ∷ cs) = is_ascii_digit c && all_digits cs

-- the digits read on from n, in tens
abbrev pub read_on : ℕ → List ℕ → ℕ
read_on n [] = n
read_on n (c ∷ cs) = read_on (n * 10 + (c - 48)) cs

-- one to five digits
abbrev pub is_plain : List ℕ → Bool
is_plain ds = nat_le 1 (length ds) && (nat_le (length ds) 5 && all_digits ds)

-- an optional minus, byte 45, and one to five digits
abbrev pub is_number : List ℕ → Bool
is_number [] = false
is_number (c ∷ cs) = if c == 45 then is_plain cs else is_plain (c ∷ cs)

-- the number that such a word writes
abbrev pub value : List ℕ → ℤ
value [] = pos 0
value (c ∷ cs) = if c == 45 then neg_ℤ (pos (read_on 0 cs)) else pos (read_on 0 (c ∷ cs))
