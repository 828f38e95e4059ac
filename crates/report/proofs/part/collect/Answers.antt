use Rattle.std.proofs.Common.{◌+◌, List, vec_items, map, take, sym, ap, subst, ◌∙◌, Global, Err, arith}
use Rattle.std.specs.Option.{option_map}
use Rattle.std.proofs.lemmas.Result.{err_from_is_err_and}
use Rattle.geometry.specs.declared.facet.Facet.{Facet}
use Rattle.geometry.specs.Read.{triangle_of}
use Rattle.report.specs.declared.part.NotKept.{NotKept}
use Rattle.report.specs.declared.part.NotKept.TheVariants.{Flawed, OutOfMemory}
use Rattle.report.specs.Parts.{Collected, IsOutOfMemory, Named}
use Rattle.report.proofs.EntryLaws.{named_more, hole_is, wild_is, flaw_is}
use Rattle.report.proofs.part.collect.Goals as goal

pub returns-in_err-triangle : goal.returns-in_err-triangle
returns-in_err-triangle g c =
    let p = err_from_is_err_and c.from_residual.result c.from_residual.ensures.1 in
    let k = c.in_err-triangle.ensures in
    rw (p.1, p.2, flaw_is _ _ _ k.value k.ok_part)
    (hole_is (g.S.Shape.entries c.args.shape.now) c.loop-i.i (omega arith) _ c.loop-i.invariant (sym k.ok_part ∙ c.entry.ensures))

pub returns-in_err-facet : goal.returns-in_err-facet
returns-in_err-facet g c =
    let p = err_from_is_err_and c.from_residual-in_err-facet.result c.from_residual-in_err-facet.ensures.1 in
    let k = c.in_err-facet.ensures in
    rw (p.1, p.2, flaw_is _ _ _ k.value k.ok_part)
    (wild_is (g.S.Shape.entries c.args.shape.now) c.loop-i.i (omega arith) _ c.in_ok-triangle.triangle c.loop-i.invariant
    (sym c.in_ok-triangle.ensures.ok_part ∙ c.entry.ensures) (ap (option_map triangle_of) (sym k.ok_part) ∙ c.new.ensures))

pub returns-in_err-push : goal.returns-in_err-push
returns-in_err-push g c =
    let p = err_from_is_err_and c.from_residual-in_err-push.result c.from_residual-in_err-push.ensures.1 in
    rw p.1 (no_memory p.0 p.2)
  where
    no_memory : (e : NotKept) → IsOutOfMemory e → Collected (vec_items {X = Facet} {Z = Global}) (g.S.Shape.entries c.args.shape.now) (Err e)
    no_memory (Flawed flaw) h = absurd h
    no_memory (OutOfMemory why) h = tt

pub loop-i-preserved : goal.loop-i-preserved
loop-i-preserved g c =
    let es = g.S.Shape.entries c.args.shape.now in
    subst (λ (xs : List Facet). Named (take (c.loop-i.i + 1) es) (map triangle_of xs)) (sym c.in_ok-push.ensures.items)
    (named_more es c.loop-i.i (omega arith) (vec_items c.loop-i.facets) c.in_ok-triangle.triangle c.in_ok-facet.facet
    c.loop-i.invariant (sym c.in_ok-triangle.ensures.ok_part ∙ c.entry.ensures)
    (ap (option_map triangle_of) (sym c.in_ok-facet.ensures.ok_part) ∙ c.new.ensures))
