use Rattle.std.proofs.Common.{◌≡◌, map}
use Rattle.flips.specs.Flips.{flip_at}
use Rattle.flips.proofs.row.cut_runs.Given as goal

-- the flips of the runs so far
abbrev pub invariant-loop-run : goal.invariant-loop-run
invariant-loop-run l = record {
  can : goal.iterator-loop-run.can_next l.run-iterator;
  ends : goal.iterator-loop-run.is_finite l.run-iterator;
  cut : l.flips.items ≡ map (flip_at l.row.y l.row.z) l.yielded;
}
