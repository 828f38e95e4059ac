use Rattle.std.proofs.Common.{◌≤◌, max, ◌&&◌}
use Rattle.geometry.specs.Extents.{in_span}
use Rattle.skins.specs.Skins.{Marked}
use Rattle.skins.specs.Coats.{made_by}
use Rattle.skins.proofs.Ranges.{between}
use Rattle.skins.proofs.mark_extent.Given as goal

abbrev pub invariant-loop-z : goal.invariant-loop-z
invariant-loop-z l = (l.z ≤ max l.initial.z l.z-end) × Marked l.initial.board l.board (λ u v w. in_span l.extent.x u && (in_span l.extent.y v && (between l.initial.z l.z w && made_by l.coat u v w)))
