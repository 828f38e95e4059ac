use Rattle.std.proofs.Common.{map, take, vec_items}
use Rattle.geometry.specs.Read.{triangle_of}
use Rattle.report.specs.Parts.{Named}
use Rattle.report.proofs.part.collect.Given as goal

abbrev pub invariant-loop-i : goal.invariant-loop-i
invariant-loop-i g l = Named (take l.i (g.S.Shape.entries l.shape)) (map triangle_of (vec_items l.facets))
