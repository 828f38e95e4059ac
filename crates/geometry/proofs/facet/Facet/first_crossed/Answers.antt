use Rattle.std.proofs.Common.{sym, ap, ◌∙◌, arith, w64, to_z, of_z}
use Rattle.std.proofs.lemmas.Int.{ints, to_z-of_z}
use Rattle.geometry.specs.Geometry.{covers}
use Rattle.geometry.specs.Read.{half, triangle_of}
use Rattle.geometry.proofs.Crossing.{none_crossed, crossed, covering_turns, step_some}
use Rattle.geometry.proofs.facet.Facet.first_crossed.Goals as goal

pub first_at-requires : goal.first_at-requires
first_at-requires c =
    let some = step_some half _ (omega (arith, ints)) (covering_turns _ (triangle_of c.args.self.now) (sym c.if-covers_row_of.ensures)) in
    grind (arith, to_z-of_z)

pub returns-then-covers_row_of : goal.returns-then-covers_row_of
returns-then-covers_row_of c =
    let t = triangle_of c.args.self.now in
    crossed half c.args.row.y c.args.row.z c.args.n t
    (sym (c.if-covers_row_of.ensures ∙ ap (λ p. covers p t) c.first_centre-p.ensures))
    (covering_turns _ t (sym c.if-covers_row_of.ensures))
    (to_z w64 (of_z w64 c.past_plane.result)) (to_z w64 (of_z w64 c.step.result)) (grind (arith, to_z-of_z)) (grind (arith, to_z-of_z)) c.first_at.result c.first_at.ensures

pub returns-else-covers_row_of : goal.returns-else-covers_row_of
returns-else-covers_row_of c =
    let t = triangle_of c.args.self.now in
    none_crossed half c.args.row.y c.args.row.z c.args.n t (sym (c.if-covers_row_of.ensures ∙ ap (λ p. covers p t) c.first_centre-p.ensures))
