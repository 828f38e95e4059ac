-- A part as far as it is read: what stands in the trays, and what the lines that are left will add.
use Rattle.std.proofs.Common.{◌≡◌, ℕ, ◌+◌, ◌-◌, ◌<◌, ◌≤◌, Bool, true, false, cond, ◌&&◌, eqb, List, [], ◌∷◌, ◌++◌, length, take, drop, set, ℤ, Some, None, Ok, Err, Option, sym, refl, ap, ◌∙◌, subst, arith, Bor}
use Rattle.std.proofs.lemmas.List.{append-nil, append_assoc, take_more_set, drop-set-lt, length-take-le, length-set, take-append-drop, drop-drop}
use Rattle.geometry.specs.declared.mesh.Point.{Point}
use Rattle.geometry.specs.declared.mesh.Face.{Face}
use Rattle.std.specs.Option.{option_map}
use Rattle.std.proofs.lemmas.Bool.Decides.{nat_tests}
use Rattle.refusals.specs.declared.Refusal.{Refusal}
use Rattle.refusals.specs.declared.Refusal.TheVariants.{StrayLine, BadNumber, FullTray}
use Rattle.refusals.specs.declared.box_side.BoxSide.{BoxSide}
use Rattle.refusals.specs.BoxSides.{cells_of}
use Rattle.pattern.specs.declared.state.State.{State}
use Rattle.pattern.specs.declared.state.State.TheVariants.{Start, Ready, Points, Faces}
use Rattle.pattern.specs.declared.state.Kind.TheVariants.{Point as KindPoint, Face as KindFace}
use Rattle.pattern.specs.declared.word.Triple.{Triple}
use Rattle.pattern.specs.declared.line.Line.{Line}
use Rattle.pattern.specs.declared.line.Line.TheVariants.{Skip, Side as ASide, Part, PartAndMore, Point as APoint, Face as AFace, Stray}
use Rattle.pattern.specs.declared.reader.Reader.{Reader}
use Rattle.pattern.specs.Text.{is_number, lines, value}
use Rattle.pattern.specs.Lines.{Spoken, spoken}
use Rattle.pattern.specs.States.{next}
use Rattle.pattern.specs.Pattern.{End, over, fault, Outcome, ends, add_point, add_face, may, unless, body, written}
use Rattle.pattern.specs.Read.{GoesOn, LineHeard, EntryRead, bytes_of, said_by, stand_of}

-- ps and fs before what o adds
abbrev pub joined : List Point → List Face → Outcome → Outcome
joined ps fs o = record { points = ps ++ o.points; faces = fs ++ o.faces; end = o.end }

-- a tray: its first i places are written, and the others are as they were
pub record Filled {A : Type 0} (was tray : List A) (i : ℕ) : Type 0 where
  pub within : i ≤ length tray
  pub long : length tray ≡ length was
  pub rest : drop i tray ≡ drop i was

-- w is what is read at the end, if what is left adds o
pub record SoFar (w : Outcome) (points₀ : List Point) (faces₀ : List Face) (i j : ℕ) (points : List Point) (faces : List Face) (o : Outcome) : Type 0 where
  pub whole : w ≡ joined (take i points) (take j faces) o
  pub filled_points : Filled points₀ points i
  pub filled_faces : Filled faces₀ faces j

-- one more
module _ {A : Type 0} (was tray : List A) (i : ℕ) where
  fill_more : (v : A) → i < length tray → Filled was tray i → Filled was (set tray i v) (i + 1)
  fill_more v h f = record {
    within = let e = length-set tray i v in omega arith;
    long = length-set tray i v ∙ f.long;
    rest = drop-set-lt (i + 1) tray i v (omega arith) ∙ sym (drop-drop 1 i tray) ∙ ap (drop 1) f.rest ∙ drop-drop 1 i was;
  }

  -- nothing more: the tray is what was written, and the rest as it was
  all_filled : (xs : List A) → xs ≡ take i tray ++ [] → Filled was tray i → (tray ≡ written xs was) × (i ≡ length xs)
  all_filled xs e f =
      let same : xs ≡ take i tray = e ∙ append-nil (take i tray) in
      let len : length xs ≡ i = ap length same ∙ length-take-le i tray f.within in
      (sym (take-append-drop i tray) ∙ ap (λ ys. take i tray ++ ys) f.rest ∙ ap (λ ys. ys ++ drop i was) (sym same) ∙ ap (λ n. xs ++ drop n was) (sym len), sym len)

module _ (w : Outcome) (points₀ : List Point) (faces₀ : List Face) (i j : ℕ) (points : List Point) (faces : List Face) where
  pub more_point : (v : Point) (o : Outcome) → i < length points → SoFar w points₀ faces₀ i j points faces (add_point v o)
      → SoFar w points₀ faces₀ (i + 1) j (set points i v) faces o
  more_point v o h s = record {
    whole = s.whole
        ∙ ap (λ ps. record { points = ps; faces = take j faces ++ o.faces; end = o.end })
        (sym (append_assoc (take i points) (v ∷ []) o.points) ∙ ap (λ ps. ps ++ o.points) (sym (take_more_set points i v h)));
    filled_points = fill_more points₀ points i v h s.filled_points;
    filled_faces = s.filled_faces;
  }

  pub more_face : (v : Face) (o : Outcome) → j < length faces → SoFar w points₀ faces₀ i j points faces (add_face v o)
      → SoFar w points₀ faces₀ i (j + 1) points (set faces j v) o
  more_face v o h s = record {
    whole = s.whole
        ∙ ap (λ fs. record { points = take i points ++ o.points; faces = fs; end = o.end })
        (sym (append_assoc (take j faces) (v ∷ []) o.faces) ∙ ap (λ fs. fs ++ o.faces) (sym (take_more_set faces j v h)));
    filled_points = s.filled_points;
    filled_faces = fill_more faces₀ faces j v h s.filled_faces;
  }

  pub record Done (e : End) : Type 0 where
    pub end : w.end ≡ e
    pub points_are : points ≡ written w.points points₀
    pub faces_are : faces ≡ written w.faces faces₀
    pub point_count : i ≡ length w.points
    pub face_count : j ≡ length w.faces

  pub done : (e : End) → SoFar w points₀ faces₀ i j points faces (ends e) → Done e
  done e s =
      let p = all_filled points₀ points i w.points (ap (λ o. o.points) s.whole) s.filled_points in
      let f = all_filled faces₀ faces j w.faces (ap (λ o. o.faces) s.whole) s.filled_faces in
      record { end = ap (λ o. o.end) s.whole; points_are = p.0; faces_are = f.0; point_count = p.1; face_count = f.1 }

-- nothing is read yet
pub at_first : (w : Outcome) (points : List Point) (faces : List Face) → SoFar w points faces 0 0 points faces w
at_first w points faces = record {
  whole = refl;
  filled_points = record { within = omega arith; long = refl; rest = refl };
  filled_faces = record { within = omega arith; long = refl; rest = refl };
}

-- ---- a line is heard: what is left, by what it says

next_point : (s t : State) → next s KindPoint ≡ Some t → t ≡ Points
next_point Start t e = cc
next_point Ready t e = cc
next_point Points t e = cc
next_point Faces t e = cc

next_face : (s t : State) → next s KindFace ≡ Some t → t ≡ Faces
next_face Start t e = cc
next_face Ready t e = cc
next_face Points t e = cc
next_face Faces t e = cc

-- the trays have room where no fault is found
roomy : (may numbers : Bool) (n room : ℕ)
    → cond may (cond numbers (cond (eqb room 0) (Some (FullTray n)) None) (Some (BadNumber n))) (Some (StrayLine n)) ≡ None → 0 < room
roomy true true n room e = grind (arith, nat_tests)
roomy true false n room e = cc
roomy false numbers n room e = cc

-- a line that is neither a point nor a face nor named part
abbrev pub Other : Line → Type 0
Other Skip = Unit {0}
Other (ASide a) = Unit {0}
Other Part = ⊥
Other PartAndMore = ⊥
Other (APoint t) = ⊥
Other (AFace t) = ⊥
Other Stray = Unit {0}

pub other_line : (l : Line) → GoesOn l → ((t : Triple) → l ≡ APoint t → ⊥) → ((t : Triple) → l ≡ AFace t → ⊥) → Other l
other_line Skip g p f = tt
other_line (ASide a) g p f = tt
other_line Part g p f = g
other_line PartAndMore g p f = g
other_line (APoint t) g p f = p t refl
other_line (AFace t) g p f = f t refl
other_line Stray g p f = tt

module _ (w : Outcome) (points₀ : List Point) (faces₀ : List Face) (i j : ℕ) (points : List Point) (faces : List Face) (before m : Reader) where
  abbrev p : ℕ
  p = length points - i

  abbrev f : ℕ
  f = length faces - j

  abbrev Left : Outcome → Type 0
  Left o = SoFar w points₀ faces₀ i j points faces o

  abbrev ahead : Reader → Outcome
  ahead r = body p f (stand_of r).state (stand_of r).side (stand_of r).left

  heard : (l : Line) → LineHeard before m l → Left (ahead before)
      → Left (body p f (stand_of m).state (stand_of m).side (record { at = m.line; says = said_by l } ∷ (stand_of m).left))
  heard l h so =
      subst (λ (s : State). Left (body p f s (stand_of m).side (record { at = m.line; says = said_by l } ∷ (stand_of m).left))) (sym h.state)
      (subst (λ (d : Option ℕ). Left (body p f (stand_of before).state d (record { at = m.line; says = said_by l } ∷ (stand_of m).left))) (sym (ap (option_map cells_of) h.side))
      (subst (λ (ls : List Spoken). Left (body p f (stand_of before).state (stand_of before).side ls)) h.left so))

  pub over_now : ((p f : ℕ) (s : State) (side : Option ℕ) → body p f s side (stand_of before).left ≡ ends (over (record { state = Ready; side = side; left = (stand_of before).left })))
      → Left (ahead before) → Done w points₀ faces₀ i j points faces (over (record { state = Ready; side = (stand_of before).side; left = (stand_of before).left }))
  over_now e so = done w points₀ faces₀ i j points faces _ (subst (λ (o : Outcome). Left o) (e p f (stand_of before).state (stand_of before).side) so)

  module _ (l : Line) (t : Triple) (n : Reader) where
    abbrev a : List ℕ
    a = bytes_of t.first

    abbrev b : List ℕ
    b = bytes_of t.second

    abbrev c : List ℕ
    c = bytes_of t.third

    abbrev a_point : Point
    a_point = record { x = value a; y = value b; z = value c }

    abbrev a_face : Face
    a_face = record { a = value a; b = value b; c = value c }

    -- with the line's own fault
    abbrev with_point : Option Refusal → Outcome
    with_point o = unless o (add_point a_point (body (p - 1) f Points (stand_of m).side (stand_of m).left))

    abbrev with_face : Option Refusal → Outcome
    with_face o = unless o (add_face a_face (body p (f - 1) Faces (stand_of m).side (stand_of m).left))

    pub point_fault : (q : Refusal) → l ≡ APoint t → LineHeard before m l → EntryRead m n KindPoint p t (Err q) → Left (ahead before)
        → Done w points₀ faces₀ i j points faces (fault q)
    point_fault q is_so h r so =
        done w points₀ faces₀ i j points faces _ (subst (λ (o : Option Refusal). Left (with_point o)) r (heard (APoint t) (subst (λ (l : Line). LineHeard before m l) is_so h) so))

    pub face_fault : (q : Refusal) → l ≡ AFace t → LineHeard before m l → EntryRead m n KindFace f t (Err q) → Left (ahead before)
        → Done w points₀ faces₀ i j points faces (fault q)
    face_fault q is_so h r so =
        done w points₀ faces₀ i j points faces _ (subst (λ (o : Option Refusal). Left (with_face o)) r (heard (AFace t) (subst (λ (l : Line). LineHeard before m l) is_so h) so))

    -- the reader after the line's numbers are read
    abbrev ReadOn : ℕ → ℕ → List Point → List Face → ℕ → ℕ → State → Type 0
    ReadOn i' j' points' faces' p' f' s = SoFar w points₀ faces₀ i' j' points' faces' (body p' f' s (stand_of m).side (stand_of m).left)

    on : (i' j' : ℕ) (points' : List Point) (faces' : List Face) (p' f' : ℕ) {s : State} → s ≡ n.state → n.side ≡ m.side → n.line ≡ m.line → n.rest ≡ m.rest
        → ReadOn i' j' points' faces' p' f' s → SoFar w points₀ faces₀ i' j' points' faces' (body p' f' (stand_of n).state (stand_of n).side (stand_of n).left)
    on i' j' points' faces' p' f' {s} es ed en er so =
        subst (λ (o : Outcome). SoFar w points₀ faces₀ i' j' points' faces' o) (same es (sym ed) (sym en) (sym er)) so
      where
        same : {d e : Option BoxSide} {k l : ℕ} {x y : Bor (List ℕ)} {t : State} → s ≡ t → d ≡ e → k ≡ l → x ≡ y
            → body p' f' s (option_map cells_of d) (spoken k (lines x.now)) ≡ body p' f' t (option_map cells_of e) (spoken l (lines y.now))
        same a b c d = cc

    pub point_more : (x y z x₀ y₀ z₀ : ℤ) → x ≡ x₀ → y ≡ y₀ → z ≡ z₀ → l ≡ APoint t → LineHeard before m l → EntryRead m n KindPoint p t (Ok (x₀, y₀, z₀)) → Left (ahead before)
        → SoFar w points₀ faces₀ (i + 1) j (set points i (record { x = x; y = y; z = z })) faces
        (body (length (set points i (record { x = x; y = y; z = z })) - (i + 1)) f (stand_of n).state (stand_of n).side (stand_of n).left)
    point_more x y z x₀ y₀ z₀ eu ev et is_so h r so =
        let room = roomy (may m.state KindPoint) (is_number a && is_number b && is_number c) m.line p r.0 in
        let tray = set points i (record { x = x; y = y; z = z }) in
        let len = length-set points i (record { x = x; y = y; z = z }) in
        let less : p - 1 ≡ length tray - (i + 1) = omega arith in
        let is : a_point ≡ record { x = x; y = y; z = z } = let ex = r.1 in let ey = r.2 in let ez = r.3 in cc in
        let to = more_point w points₀ faces₀ i j points faces a_point (body (p - 1) f Points (stand_of m).side (stand_of m).left) (omega arith)
        (subst (λ (o : Option Refusal). Left (with_point o)) r.0 (heard (APoint t) (subst (λ (l : Line). LineHeard before m l) is_so h) so)) in
        on (i + 1) j tray faces (length tray - (i + 1)) f (sym (next_point m.state n.state r.4)) r.5 r.6 r.7
        (subst (λ (k : ℕ). ReadOn (i + 1) j tray faces k f Points) less
        (subst (λ (v : Point). ReadOn (i + 1) j (set points i v) faces (p - 1) f Points) is to))

    pub face_more : (x y z x₀ y₀ z₀ : ℤ) → x ≡ x₀ → y ≡ y₀ → z ≡ z₀ → l ≡ AFace t → LineHeard before m l → EntryRead m n KindFace f t (Ok (x₀, y₀, z₀)) → Left (ahead before)
        → SoFar w points₀ faces₀ i (j + 1) points (set faces j (record { a = x; b = y; c = z }))
        (body p (length (set faces j (record { a = x; b = y; c = z })) - (j + 1)) (stand_of n).state (stand_of n).side (stand_of n).left)
    face_more x y z x₀ y₀ z₀ eu ev et is_so h r so =
        let room = roomy (may m.state KindFace) (is_number a && is_number b && is_number c) m.line f r.0 in
        let tray = set faces j (record { a = x; b = y; c = z }) in
        let len = length-set faces j (record { a = x; b = y; c = z }) in
        let less : f - 1 ≡ length tray - (j + 1) = omega arith in
        let is : a_face ≡ record { a = x; b = y; c = z } = let ex = r.1 in let ey = r.2 in let ez = r.3 in cc in
        let to = more_face w points₀ faces₀ i j points faces a_face (body p (f - 1) Faces (stand_of m).side (stand_of m).left) (omega arith)
        (subst (λ (o : Option Refusal). Left (with_face o)) r.0 (heard (AFace t) (subst (λ (l : Line). LineHeard before m l) is_so h) so)) in
        on i (j + 1) points tray p (length tray - (j + 1)) (sym (next_face m.state n.state r.4)) r.5 r.6 r.7
        (subst (λ (k : ℕ). ReadOn i (j + 1) points tray p k Faces) less
        (subst (λ (v : Face). ReadOn i (j + 1) points (set faces j v) p (f - 1) Faces) is to))

  pub stray_fault : (l : Line) → Other l → LineHeard before m l → Left (ahead before) → Done w points₀ faces₀ i j points faces (fault (StrayLine m.line))
  stray_fault Skip o h so = done w points₀ faces₀ i j points faces _ (heard Skip h so)
  stray_fault (ASide a) o h so = done w points₀ faces₀ i j points faces _ (heard (ASide a) h so)
  stray_fault Part o h so = absurd o
  stray_fault PartAndMore o h so = absurd o
  stray_fault (APoint t) o h so = absurd o
  stray_fault (AFace t) o h so = absurd o
  stray_fault Stray o h so = done w points₀ faces₀ i j points faces _ (heard Stray h so)
