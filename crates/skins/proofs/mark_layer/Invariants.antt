use Rattle.std.proofs.Common.{◌≤◌, max, ◌&&◌, eqb}
use Rattle.geometry.specs.Extents.{in_span}
use Rattle.skins.specs.Skins.{Marked}
use Rattle.skins.specs.Coats.{made_by}
use Rattle.skins.proofs.Ranges.{between}
use Rattle.skins.proofs.mark_layer.Given as goal

abbrev pub invariant-loop-y : goal.invariant-loop-y
invariant-loop-y l = (l.y ≤ max l.initial.y l.y-end) × Marked l.initial.board l.board (λ u v w. in_span l.xs u && (between l.initial.y l.y v && (eqb w l.z && made_by l.coat u v w)))
