-- What a line says, by its first word and by how many words it has.
use Rattle.std.specs.Prelude.{ℕ, ◌+◌, Bool, true, false, if◌then◌else◌, List, [], ◌∷◌, Some, None, codes, Option, ◌==◌}
use Rattle.pattern.specs.declared.state.Kind.{Kind}
use Rattle.pattern.specs.declared.state.Kind.TheVariants.{Side, Part, Point, Face}
use Rattle.std.specs.Str.{bytes_eq}
use Rattle.pattern.specs.Text.{words}

pub data Said : Type 0 where
  -- no words, or a comment
  nothing : Said
  -- "side" and one word
  side_line : List ℕ → Said
  -- "part" alone
  part_line : Said
  -- "part" and more words
  part_and_more : Said
  -- "v" and three words
  point_line : List ℕ → List ℕ → List ℕ → Said
  -- "f" and three words
  face_line : List ℕ → List ℕ → List ℕ → Said
  -- another name, or too few or too many words
  stray : Said

abbrev pub side_of : List (List ℕ) → Said
side_of [] = stray
side_of (a ∷ []) = side_line a
side_of (a ∷ b ∷ ws) = stray

abbrev pub part_of : List (List ℕ) → Said
part_of [] = part_line
part_of (a ∷ ws) = part_and_more

abbrev pub three_of : (List ℕ → List ℕ → List ℕ → Said) → List (List ℕ) → Said
three_of say [] = stray
three_of say (a ∷ []) = stray
three_of say (a ∷ b ∷ []) = stray
three_of say (a ∷ b ∷ c ∷ []) = say a b c
three_of say (a ∷ b ∷ c ∷ d ∷ ws) = stray

-- the kind of line that a name tells
abbrev pub kind_of : List ℕ → Option Kind
kind_of name =
    if bytes_eq name (codes "side") then Some Side
    else if bytes_eq name (codes "part") then Some Part
    else if bytes_eq name (codes "v") then Some Point
    else if bytes_eq name (codes "f") then Some Face
    else None

-- a line of a kind, by the words after its name
abbrev pub of_kind : Option Kind → List (List ℕ) → Said
of_kind (Some Side) ws = side_of ws
of_kind (Some Part) ws = part_of ws
of_kind (Some Point) ws = three_of point_line ws
of_kind (Some Face) ws = three_of face_line ws
of_kind None ws = stray

-- by the name, the first word
abbrev pub of_words : List (List ℕ) → Said
of_words [] = nothing
of_words (name ∷ ws) = of_kind (kind_of name) ws

-- a comment begins with #, byte 35
abbrev pub is_comment : List ℕ → Bool
is_comment [] = false
is_comment (c ∷ cs) = c == 35

unfoldable pub said : List ℕ → Said
said l = if is_comment l then nothing else of_words (words l)

-- a line that says something, with its number
pub record Spoken : Type 0 where
  pub at : ℕ
  pub says : Said

abbrev pub is_nothing : Said → Bool
is_nothing nothing = true
is_nothing (side_line a) = false
is_nothing part_line = false
is_nothing part_and_more = false
is_nothing (point_line a b c) = false
is_nothing (face_line a b c) = false
is_nothing stray = false

-- the lines that say something, after n lines; the others are skipped, but they count
abbrev pub spoken : ℕ → List (List ℕ) → List Spoken
spoken n [] = []
spoken n (l ∷ ls) = if is_nothing (said l) then spoken (n + 1) ls else (record { at = n + 1; says = said l } ∷ spoken (n + 1) ls)
