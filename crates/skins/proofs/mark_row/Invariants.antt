use Rattle.std.proofs.Common.{◌≤◌, max, ◌&&◌, eqb}
use Rattle.skins.specs.Skins.{Marked}
use Rattle.skins.specs.Coats.{made_by}
use Rattle.skins.proofs.Ranges.{between}
use Rattle.skins.proofs.mark_row.Given as goal

abbrev pub invariant-loop-x : goal.invariant-loop-x
invariant-loop-x l = (l.x ≤ max l.initial.x l.x-end) × Marked l.initial.board l.board (λ u v w. between l.initial.x l.x u && (eqb v l.y && (eqb w l.z && made_by l.coat u v w)))
