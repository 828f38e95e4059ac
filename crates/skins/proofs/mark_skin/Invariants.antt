use Rattle.std.proofs.Common.{map, take}
use Rattle.geometry.specs.Read.{triangle_of}
use Rattle.skins.specs.Skins.{Marked, some_make}
use Rattle.skins.proofs.mark_skin.Given as goal

abbrev pub invariant-loop-facet : goal.invariant-loop-facet
invariant-loop-facet l = Marked l.initial.board l.board (some_make l.skin (map triangle_of (take l.facet-index l.facets)))
