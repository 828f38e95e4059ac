use Rattle.std.proofs.Common.{Bool, length, Some, Ok, Err, refl, ap, ◌∙◌, subst}
use Rattle.std.proofs.lemmas.Result.{err_from_is_err_and}
use Rattle.pattern.specs.Read.{Begun, stand_of, body_of}
use Rattle.pattern.proofs.PartLaws.{after_side, no_side, none_left, refused, at_end, cut_off, whole}
use Rattle.pattern.proofs.reader.Reader.next_part.Goals as goal

pub returns-in_err-side : goal.returns-in_err-side
returns-in_err-side c =
    let e = err_from_is_err_and c.from_residual.result c.from_residual.ensures.1 in
    let o = no_side (length c.args.points.now) (length c.args.faces.now) (stand_of c.args.self.now) _ _ _ c.in_err-side.ensures in
    let a = refused _ c.from_residual.result c.args.self.now c.args.points.now c.args.faces.now _ (e.1 ∙ ap Err e.2) o.0 in
    record { answer = a.answers; reader = a.reader; points = a.points_are; faces = a.faces_are; room = rw e.1 tt }

pub returns-in_err-begin_part : goal.returns-in_err-begin_part
returns-in_err-begin_part c =
    let e = err_from_is_err_and c.from_residual-in_err-begin_part.result c.from_residual-in_err-begin_part.ensures.1 in
    let p = length c.args.points.now in let f = length c.args.faces.now in
    let s = after_side p f (stand_of c.args.self.now) _ c.side.new.self _ c.in_ok-side.ensures in
    let a = refused _ c.from_residual-in_err-begin_part.result c.args.self.now c.args.points.now c.args.faces.now _ (e.1 ∙ ap Err e.2)
    (s ∙ c.in_err-begin_part.ensures p f) in
    record { answer = a.answers; reader = a.reader; points = a.points_are; faces = a.faces_are; room = rw e.1 tt }

pub returns-then-not-branch : goal.returns-then-not-branch
returns-then-not-branch c =
    let p = length c.args.points.now in let f = length c.args.faces.now in
    let s = after_side p f (stand_of c.args.self.now) _ c.side.new.self _ c.in_ok-side.ensures in
    let b = subst (λ (x : Bool). Begun (stand_of c.side.new.self) (stand_of c.begin_part.new.self) (Ok x)) c.if-not-branch.true c.in_ok-begin_part.ensures in
    let a = at_end _ _ c.args.self.now c.args.points.now c.args.faces.now (stand_of c.side.new.self) c.side.new.self refl
    (s ∙ none_left p f (stand_of c.side.new.self) b) refl in
    record { answer = a.answers; reader = a.reader; points = a.points_are; faces = a.faces_are; room = tt }

pub returns-in_err-counts : goal.returns-in_err-counts
returns-in_err-counts c =
    let e = err_from_is_err_and c.from_residual-in_err-counts.result c.from_residual-in_err-counts.ensures.1 in
    let p = length c.args.points.now in let f = length c.args.faces.now in
    let s = after_side p f (stand_of c.args.self.now) _ c.side.new.self _ c.in_ok-side.ensures in
    let b = subst (λ (x : Bool). Begun (stand_of c.side.new.self) (stand_of c.begin_part.new.self) (Ok x)) c.if-not-branch.false c.in_ok-begin_part.ensures p f in
    let r = c.in_err-counts.ensures in
    let a = cut_off _ c.from_residual-in_err-counts.result c.args.self.now c.args.points.now c.args.faces.now
    c.read_body.new.points c.read_body.new.faces (body_of c.begin_part.new.self c.args.points.now c.args.faces.now) (s ∙ b) r.points r.faces _ (e.1 ∙ ap Err e.2) r.read in
    record { answer = a.answers; reader = a.reader; points = a.points_are; faces = a.faces_are; room = rw e.1 tt }

pub returns : goal.returns
returns c =
    let p = length c.args.points.now in let f = length c.args.faces.now in
    let s = after_side p f (stand_of c.args.self.now) _ c.side.new.self _ c.in_ok-side.ensures in
    let b = subst (λ (x : Bool). Begun (stand_of c.side.new.self) (stand_of c.begin_part.new.self) (Ok x)) c.if-not-branch.false c.in_ok-begin_part.ensures p f in
    let r = c.in_ok-counts.ensures in
    let a = whole _ _ c.args.self.now c.args.points.now c.args.faces.now
    c.read_body.new.points c.read_body.new.faces (body_of c.begin_part.new.self c.args.points.now c.args.faces.now) (s ∙ b) r.points r.faces
    c.read_body.new.self (ap (λ n. Ok (Some n)) r.read.1) r.read.0 in
    record { answer = a.answers; reader = a.reader; points = a.points_are; faces = a.faces_are; room = r.room }
