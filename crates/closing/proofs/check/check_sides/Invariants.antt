use Rattle.std.proofs.Common.{◌≡◌, ◌*◌, ◌≤◌, take}
use Rattle.toggles.specs.Present.{present, room, size}
use Rattle.closing.specs.Holds.{Holds}
use Rattle.closing.proofs.check.check_sides.Given as goal

-- the loose sides are those of the triangles so far, three for each at most
abbrev pub invariant-loop-t : goal.invariant-loop-t
invariant-loop-t l = record {
  same_room : room l.loose ≡ room l.initial.loose;
  few : size l.loose ≤ 3 * l.t-index;
  holds : Holds (present l.loose) (take l.t-index l.triangles);
}
