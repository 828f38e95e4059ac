use Rattle.std.proofs.Common.{◌≡◌, ℕ, sym, ap, ◌∙◌, arith}
use Rattle.pattern.specs.declared.reader.Counts.{Counts}
use Rattle.std.specs.Option.{option_map}
use Rattle.std.proofs.lemmas.Int.{to_z-of_z}
use Rattle.std.proofs.lemmas.Result.{err_from_is_err_and}
use Rattle.refusals.specs.BoxSides.{cells_of}
use Rattle.pattern.specs.declared.state.State.TheVariants.{Ready}
use Rattle.pattern.specs.Lines.{spoken}
use Rattle.pattern.specs.Text.{lines}
use Rattle.pattern.specs.Pattern.{over}
use Rattle.pattern.proofs.BodyLaws.{over_now, point_fault, face_fault, point_more, face_more, stray_fault, other_line}
use Rattle.pattern.proofs.reader.Reader.read_body.Goals as goal

counted : {i j k l : ℕ} → i ≡ k → j ≡ l → ◌≡◌ {A = Counts} (record { points = i; faces = j }) (record { points = k; faces = l })
counted {i} {j} {k} {l} e f = ap (λ n. record { points = n; faces = j }) e ∙ ap (λ n. record { points = k; faces = n }) f

pub returns-in_err-x-in-Point : goal.returns-in_err-x-in-Point
returns-in_err-x-in-Point c =
    let p = err_from_is_err_and c.from_residual.result c.from_residual.ensures.1 in
    let d = point_fault _ c.args.points.now c.args.faces.now c.loop-line.counts.points c.loop-line.counts.faces c.loop-line.points c.loop-line.faces
    c.loop-line.self c.next_entry.new.self _ c.in-Point.words c.read_entry.new.self _ c.in-Point.is c.in-Some.ensures.0 c.in_err-x-in-Point.ensures c.loop-line.invariant in
    rw (p.1, p.2) (record { read = d.end; points = d.points_are; faces = d.faces_are; room = tt })

pub loop-line-preserved-in-Point : goal.loop-line-preserved-in-Point
loop-line-preserved-in-Point c =
    point_more _ c.args.points.now c.args.faces.now c.loop-line.counts.points c.loop-line.counts.faces c.loop-line.points c.loop-line.faces
    c.loop-line.self c.next_entry.new.self _ c.in-Point.words c.read_entry.new.self
    _ _ _ c.in_ok-x-in-Point.x c.in_ok-x-in-Point.y c.in_ok-x-in-Point.z (grind (arith, to_z-of_z)) (grind (arith, to_z-of_z)) (grind (arith, to_z-of_z))
    c.in-Point.is c.in-Some.ensures.0 c.in_ok-x-in-Point.ensures c.loop-line.invariant

pub returns-in_err-a-in-Face : goal.returns-in_err-a-in-Face
returns-in_err-a-in-Face c =
    let p = err_from_is_err_and c.from_residual-in_err-a-in-Face.result c.from_residual-in_err-a-in-Face.ensures.1 in
    let d = face_fault _ c.args.points.now c.args.faces.now c.loop-line.counts.points c.loop-line.counts.faces c.loop-line.points c.loop-line.faces
    c.loop-line.self c.next_entry.new.self _ c.in-Face.words c.read_entry-in-Face.new.self _ c.in-Face.is c.in-Some.ensures.0 c.in_err-a-in-Face.ensures c.loop-line.invariant in
    rw (p.1, p.2) (record { read = d.end; points = d.points_are; faces = d.faces_are; room = tt })

pub loop-line-preserved : goal.loop-line-preserved
loop-line-preserved c =
    face_more _ c.args.points.now c.args.faces.now c.loop-line.counts.points c.loop-line.counts.faces c.loop-line.points c.loop-line.faces
    c.loop-line.self c.next_entry.new.self _ c.in-Face.words c.read_entry-in-Face.new.self
    _ _ _ c.in_ok-a-in-Face.a c.in_ok-a-in-Face.b c.in_ok-a-in-Face.c (grind (arith, to_z-of_z)) (grind (arith, to_z-of_z)) (grind (arith, to_z-of_z))
    c.in-Face.is c.in-Some.ensures.0 c.in_ok-a-in-Face.ensures c.loop-line.invariant

pub returns-in_default-line : goal.returns-in_default-line
returns-in_default-line c =
    let d = stray_fault _ c.args.points.now c.args.faces.now c.loop-line.counts.points c.loop-line.counts.faces c.loop-line.points c.loop-line.faces
    c.loop-line.self c.next_entry.new.self c.in-Some.line (other_line c.in-Some.line c.in-Some.ensures.1 c.in_default-line.not-Point c.in_default-line.not-Face) c.in-Some.ensures.0 c.loop-line.invariant in
    record { read = d.end; points = d.points_are; faces = d.faces_are; room = tt }

pub returns : goal.returns
returns c =
    let d = over_now _ c.args.points.now c.args.faces.now c.loop-line.counts.points c.loop-line.counts.faces c.loop-line.points c.loop-line.faces
    c.loop-line.self c.loop-line.self c.in_default.ensures.0 c.loop-line.invariant in
    record {
      read = (
        d.end ∙ ap (λ r. over (record { state = Ready; side = option_map cells_of r.side; left = spoken r.line (lines r.rest.now) })) (sym c.in_default.ensures.1),
        counted d.point_count d.face_count,
      );
      points = d.points_are;
      faces = d.faces_are;
      room = (c.loop-line.invariant.filled_points.within, c.loop-line.invariant.filled_faces.within);
    }
