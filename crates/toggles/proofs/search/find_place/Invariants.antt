use Rattle.std.proofs.Common.{◌-◌, ◌≤◌, length}
use Rattle.toggles.specs.Search.{IsAbovePrevious, IsBelowNext}
use Rattle.toggles.proofs.search.find_place.Given as goal

-- the key belongs from `low` to `high`
abbrev pub invariant-loop-low : goal.invariant-loop-low
invariant-loop-low g l =
    (l.low ≤ l.high) × (l.high ≤ length l.keys) × IsAbovePrevious g.K.Ord.cmp l.keys l.key l.low
    × IsBelowNext g.K.Ord.cmp l.keys l.key l.high

abbrev pub decreases-loop-low : goal.decreases-loop-low
decreases-loop-low g l = l.high - l.low
