-- What the code's values stand for.
use Rattle.std.specs.Prelude.{◌≡◌, ℕ, ◌+◌, ◌<◌, Bool, true, false, List, [], ◌∷◌, length, ℤ, Some, None, Ok, Err, Option, Result, if◌then◌else◌}
use Rattle.std.specs.Borrow.{Bor}
use Rattle.std.specs.Option.{option_map}
use Rattle.refusals.specs.declared.Refusal.{Refusal}
use Rattle.refusals.specs.declared.box_side.BoxSide.{BoxSide}
use Rattle.refusals.specs.BoxSides.{cells_of}
use Rattle.pattern.specs.declared.word.Triple.{Triple}
use Rattle.pattern.specs.declared.word.Word.{Word}
use Rattle.pattern.specs.declared.word.Word.TheVariants.{Name, Number}
use Rattle.pattern.specs.declared.line.Line.{Line}
use Rattle.pattern.specs.declared.line.Line.TheVariants.{Skip, Side, Part, PartAndMore, Point, Face, Stray}
use Rattle.pattern.specs.declared.reader.Reader.{Reader}
use Rattle.pattern.specs.Text.{is_number, lines, value, words}
use Rattle.pattern.specs.Lines.{Said, nothing, side_line, part_line, part_and_more, point_line, face_line, stray, spoken, side_of, three_of}
use Rattle.pattern.specs.declared.reader.Counts.{Counts}
use Rattle.pattern.specs.declared.state.State.{State}
use Rattle.pattern.specs.declared.state.State.TheVariants.{Ready}
use Rattle.pattern.specs.declared.state.Kind.{Kind}
use Rattle.pattern.specs.States.{next}
use Rattle.pattern.specs.Pattern.{Stand, Outcome, over, fault, ends, entry_fault, body, part_from, next_part}
use Rattle.geometry.specs.declared.mesh.Point.{Point as CodePoint}
use Rattle.geometry.specs.declared.mesh.Face.{Face as CodeFace}

-- the part of the text that a word is
abbrev pub bytes_of : Word → List ℕ
bytes_of (Name s) = s.now
bytes_of (Number s) = s.now

-- a word is a number by its form, else a name
abbrev pub WellTold : Word → Type 0
WellTold (Name s) = is_number s.now ≡ false
WellTold (Number s) = is_number s.now ≡ true

-- the number that a word tells
abbrev pub number_in : Word → Option ℤ
number_in (Name s) = None
number_in (Number s) = if is_number s.now then Some (value s.now) else None

-- each of the three words is well told
abbrev pub AllTold : Triple → Type 0
AllTold t = WellTold t.first × WellTold t.second × WellTold t.third

-- the first word of a text, and what is left behind it
abbrev pub First : List ℕ → List ℕ → Option Word → Type 0
First text rest None = (words text ≡ []) × (words rest ≡ [])
First text rest (Some w) = (words text ≡ bytes_of w ∷ words rest) × WellTold w

-- the one word of a list, or the three words
abbrev pub One : List (List ℕ) → Option Word → Type 0
One ws None = side_of ws ≡ stray
One ws (Some w) = (ws ≡ bytes_of w ∷ []) × WellTold w

abbrev pub Three : List (List ℕ) → Option Triple → Type 0
Three ws None = (say : List ℕ → List ℕ → List ℕ → Said) → three_of say ws ≡ stray
Three ws (Some t) = (ws ≡ bytes_of t.first ∷ bytes_of t.second ∷ bytes_of t.third ∷ []) × AllTold t

-- each word of the line is well told
abbrev pub Told : Line → Type 0
Told Skip = Unit {0}
Told (Side a) = WellTold a
Told Part = Unit {0}
Told PartAndMore = Unit {0}
Told (Point t) = AllTold t
Told (Face t) = AllTold t
Told Stray = Unit {0}

-- the line is not named part
abbrev pub GoesOn : Line → Type 0
GoesOn Skip = Unit {0}
GoesOn (Side a) = Unit {0}
GoesOn Part = ⊥
GoesOn PartAndMore = ⊥
GoesOn (Point t) = Unit {0}
GoesOn (Face t) = Unit {0}
GoesOn Stray = Unit {0}

-- what a line says
abbrev pub said_by : Line → Said
said_by Skip = nothing
said_by (Side a) = side_line (bytes_of a)
said_by Part = part_line
said_by PartAndMore = part_and_more
said_by (Point t) = point_line (bytes_of t.first) (bytes_of t.second) (bytes_of t.third)
said_by (Face t) = face_line (bytes_of t.first) (bytes_of t.second) (bytes_of t.third)
said_by Stray = stray

-- where a reader stands
abbrev pub stand_of : Reader → Stand
stand_of r = record { state = r.state; side = option_map cells_of r.side; left = spoken r.line (lines r.rest.now) }

-- ---- words of the code on the way

-- the next line of the text
pub record LineTaken (before after : Reader) (l : List ℕ) : Type 0 where
  pub text : lines before.rest.now ≡ l ∷ lines after.rest.now
  pub count : after.line ≡ before.line + 1
  pub state : after.state ≡ before.state
  pub side : after.side ≡ before.side
  pub less : length after.rest.now < length before.rest.now

abbrev pub Taken : Reader → Reader → Option (Bor (List ℕ)) → Type 0
Taken before after None = (before.rest.now ≡ []) × (after ≡ before)
Taken before after (Some l) = LineTaken before after l.now

-- the next line that says something
pub record LineHeard (before after : Reader) (l : Line) : Type 0 where
  pub left : (stand_of before).left ≡ record { at = after.line; says = said_by l } ∷ (stand_of after).left
  pub told : Told l
  pub state : after.state ≡ before.state
  pub side : after.side ≡ before.side
  pub less : length after.rest.now < length before.rest.now

abbrev pub Heard : Reader → Reader → Option Line → Type 0
Heard before after None = ((stand_of before).left ≡ []) × (stand_of after ≡ stand_of before)
Heard before after (Some l) = LineHeard before after l

-- the side line
abbrev pub SideRead : Result Stand Refusal → Reader → Result BoxSide Refusal → Type 0
SideRead (Ok d) after (Ok s) = (d.side ≡ Some (cells_of s)) × (stand_of after ≡ d)
SideRead (Ok d) after (Err r) = ⊥
SideRead (Err q) after (Ok s) = ⊥
SideRead (Err q) after (Err r) = r ≡ q

-- the part line, or that there is none
abbrev pub Begun : Stand → Stand → Result Bool Refusal → Type 0
Begun d e (Ok false) = d.left ≡ []
Begun d e (Ok true) = (p f : ℕ) → part_from p f d d.left ≡ body p f e.state e.side e.left
Begun d e (Err r) = (p f : ℕ) → part_from p f d d.left ≡ ends (fault r)

-- the next line of a part, where the part does not end before it
abbrev pub EntryHeard : Reader → Reader → Option Line → Type 0
EntryHeard before after None =
    ((p f : ℕ) (s : State) (side : Option ℕ) → body p f s side (stand_of before).left ≡ ends (over (record { state = Ready; side = side; left = (stand_of before).left })))
    × (after ≡ before)
EntryHeard before after (Some l) = LineHeard before after l × GoesOn l

-- the numbers of a point or a face
abbrev pub EntryRead : Reader → Reader → Kind → ℕ → Triple → Result (ℤ × ℤ × ℤ) Refusal → Type 0
EntryRead before after k room t (Ok n) =
    (entry_fault before.state k before.line room (bytes_of t.first) (bytes_of t.second) (bytes_of t.third) ≡ None)
    × (n.0 ≡ value (bytes_of t.first)) × (n.1 ≡ value (bytes_of t.second)) × (n.2 ≡ value (bytes_of t.third))
    × (next before.state k ≡ Some after.state) × (after.side ≡ before.side) × (after.line ≡ before.line) × (after.rest ≡ before.rest)
EntryRead before after k room t (Err r) =
    entry_fault before.state k before.line room (bytes_of t.first) (bytes_of t.second) (bytes_of t.third) ≡ Some r

-- the points and faces of a part
abbrev pub BodyRead : Outcome → Stand → Result Counts Refusal → Type 0
BodyRead o e (Ok c) = (o.end ≡ over e) × (c ≡ record { points = length o.points; faces = length o.faces })
BodyRead o e (Err r) = o.end ≡ fault r

-- what the reader makes of the lines that are left, in trays of this length: the rest of a part, and the next part
abbrev pub body_of : Reader → List CodePoint → List CodeFace → Outcome
body_of r points faces = body (length points) (length faces) (stand_of r).state (stand_of r).side (stand_of r).left

abbrev pub part_of : Reader → List CodePoint → List CodeFace → Outcome
part_of r points faces = next_part (length points) (length faces) (stand_of r)

-- ---- the answer of a call that reads the side
abbrev pub Sided : Result Stand Refusal → Reader → Reader → Result BoxSide Refusal → Type 0
Sided (Ok d) before after (Ok s) = (d.side ≡ Some (cells_of s)) × (stand_of after ≡ d)
Sided (Ok d) before after (Err r) = ⊥
Sided (Err q) before after (Ok s) = ⊥
Sided (Err q) before after (Err r) = (r ≡ q) × (after ≡ before)
