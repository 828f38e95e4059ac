-- What a pattern text means, read from where a reader stands: the side, then one part after the other, or the first fault.
use Rattle.std.specs.Prelude.{◌≡◌, ℕ, ◌-◌, ◌≤◌, Bool, if◌then◌else◌, ◌&&◌, List, [], ◌∷◌, ◌++◌, length, drop, is_some, Some, None, Ok, Err, Option, Result, ◌==◌, unsigned_abs}
use Rattle.geometry.specs.declared.mesh.Point.{Point}
use Rattle.geometry.specs.declared.mesh.Face.{Face}
use Rattle.refusals.specs.declared.Refusal.{Refusal}
use Rattle.refusals.specs.declared.Refusal.TheVariants.{OddSide, StrayLine, BadNumber, FullTray}
use Rattle.refusals.specs.BoxSides.{names_side}
use Rattle.pattern.specs.declared.state.State.{State}
use Rattle.pattern.specs.declared.state.State.TheVariants.{Start, Ready, Points, Faces}
use Rattle.pattern.specs.declared.state.Kind.{Kind}
use Rattle.pattern.specs.declared.state.Kind.TheVariants.{Side as KindSide, Part as KindPart, Point as KindPoint, Face as KindFace}
use Rattle.pattern.specs.declared.reader.Counts.{Counts}
use Rattle.pattern.specs.Text.{lines, is_number, value}
use Rattle.pattern.specs.Lines.{nothing, side_line, part_line, part_and_more, point_line, face_line, stray, Spoken, spoken}
use Rattle.pattern.specs.States.{next}

-- where a reader stands: the state, the side once it is read, and the lines that are left
pub record Stand : Type 0 where
  pub state : State
  pub side : Option ℕ
  pub left : List Spoken

-- before the first line
abbrev pub start : List ℕ → Stand
start text = record { state = Start; side = None; left = spoken 0 (lines text) }

-- such a line may come now
abbrev pub may : State → Kind → Bool
may s k = is_some (next s k)

-- ---- the side

-- a side line: 13 if it may not come, then 14 if the word is no number, then 2 if the number is no side
abbrev pub side_by : State → ℕ → List Spoken → List ℕ → Result Stand Refusal
side_by s n ls w =
    if may s KindSide then
    (if is_number w then
    (if names_side (value w) then Ok (record { state = Ready; side = Some (unsigned_abs (value w)); left = ls }) else Err (OddSide (Some n)))
    else Err (BadNumber n))
    else Err (StrayLine n)

-- the side is in the first line; a text that ends before it is at fault in line 0
abbrev pub side_from : State → List Spoken → Result Stand Refusal
side_from s [] = Err (StrayLine 0)
side_from s (l ∷ ls) = elim l.says [
  | nothing ↦ Err (StrayLine l.at)
  | side_line w ↦ side_by s l.at ls w
  | part_line ↦ Err (StrayLine l.at)
  | part_and_more ↦ Err (StrayLine l.at)
  | point_line a b c ↦ Err (StrayLine l.at)
  | face_line a b c ↦ Err (StrayLine l.at)
  | stray ↦ Err (StrayLine l.at)
]

-- the stand once the side is read: as it is where it was read before
abbrev pub settled : Stand → Result Stand Refusal
settled d = elim d.side [ None ↦ side_from d.state d.left | Some n ↦ Ok d ]

-- ---- a part

pub data End : Type 0 where
  -- there is no part left
  no_part : Stand → End
  -- the part ends before a line named part, or with the text
  over : Stand → End
  fault : Refusal → End

-- a part as far as it can be read
pub record Outcome : Type 0 where
  pub points : List Point
  pub faces : List Face
  pub end : End

abbrev pub ends : End → Outcome
ends e = record { points = []; faces = []; end = e }

abbrev pub add_point : Point → Outcome → Outcome
add_point p o = record { points = p ∷ o.points; faces = o.faces; end = o.end }

abbrev pub add_face : Face → Outcome → Outcome
add_face f o = record { points = o.points; faces = f ∷ o.faces; end = o.end }

-- the fault of a line with a point or a face, where there is room for so many more: 13 if it may not come, then 14 if a word is no
-- number, then 15 if there is no room
abbrev pub entry_fault : State → Kind → ℕ → ℕ → List ℕ → List ℕ → List ℕ → Option Refusal
entry_fault s k n room a b c =
    if may s k then
    (if is_number a && is_number b && is_number c then (if room == 0 then Some (FullTray n) else None) else Some (BadNumber n))
    else Some (StrayLine n)

abbrev pub unless : Option Refusal → Outcome → Outcome
unless (Some r) o = ends (fault r)
unless None o = o

-- the points and faces of a part, in trays with room for p points and f faces
abbrev pub body : ℕ → ℕ → State → Option ℕ → List Spoken → Outcome
body p f s side [] = ends (over (record { state = Ready; side = side; left = [] }))
body p f s side (l ∷ ls) = elim l.says [
  | nothing ↦ ends (fault (StrayLine l.at))
  | side_line w ↦ ends (fault (StrayLine l.at))
  | part_line ↦ ends (over (record { state = Ready; side = side; left = l ∷ ls }))
  | part_and_more ↦ ends (over (record { state = Ready; side = side; left = l ∷ ls }))
  | point_line a b c ↦ unless (entry_fault s KindPoint l.at p a b c)
      (add_point (record { x = value a; y = value b; z = value c }) (body (p - 1) f Points side ls))
  | face_line a b c ↦ unless (entry_fault s KindFace l.at f a b c)
      (add_face (record { a = value a; b = value b; c = value c }) (body p (f - 1) Faces side ls))
  | stray ↦ ends (fault (StrayLine l.at))
]

-- a part begins with a part line
abbrev pub part_from : ℕ → ℕ → Stand → List Spoken → Outcome
part_from p f d [] = ends (no_part d)
part_from p f d (l ∷ ls) = elim l.says [
  | nothing ↦ ends (fault (StrayLine l.at))
  | side_line w ↦ ends (fault (StrayLine l.at))
  | part_line ↦ if may d.state KindPart then body p f Points d.side ls else ends (fault (StrayLine l.at))
  | part_and_more ↦ ends (fault (StrayLine l.at))
  | point_line a b c ↦ ends (fault (StrayLine l.at))
  | face_line a b c ↦ ends (fault (StrayLine l.at))
  | stray ↦ ends (fault (StrayLine l.at))
]

-- the next part, in trays of so many places; the side is read first where nobody has read it
abbrev pub next_part : ℕ → ℕ → Stand → Outcome
next_part p f d = elim (settled d) [ Ok e ↦ part_from p f e e.left | Err r ↦ ends (fault r) ]

-- ---- what a reader answers, and where it then stands

abbrev pub answer : Outcome → Result (Option Counts) Refusal
answer o = elim o.end [
  | no_part d ↦ Ok None
  | over d ↦ Ok (Some (record { points = length o.points; faces = length o.faces }))
  | fault r ↦ Err r
]

-- a reader that is refused stays as it is
abbrev pub Stays : {R : Type 0} → (R → Stand) → End → R → R → Type 0
Stays stand (no_part d) before after = stand after ≡ d
Stays stand (over d) before after = stand after ≡ d
Stays stand (fault r) before after = after ≡ before

-- a tray with these written at its front
abbrev pub written : {A : Type 0} → List A → List A → List A
written xs tray = xs ++ drop (length xs) tray

-- the part that was read has room in the trays
abbrev pub FitsTrays : List Point → List Face → Counts → Type 0
FitsTrays points faces c = (c.points ≤ length points) × (c.faces ≤ length faces)
