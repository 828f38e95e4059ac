use Rattle.std.proofs.Common.{◌≡◌, ◌≤◌, length}
use Rattle.pattern.specs.Read.{stand_of}
use Rattle.pattern.proofs.reader.Reader.next_line.Given as goal

-- what is skipped leaves the stand
abbrev pub invariant-loop-text : goal.invariant-loop-text
invariant-loop-text l =
    ((stand_of l.self).left ≡ (stand_of l.initial.self).left) × (l.self.state ≡ l.initial.self.state) × (l.self.side ≡ l.initial.self.side)
    × (length l.self.rest.now ≤ length l.initial.self.rest.now)

abbrev pub decreases-loop-text : goal.decreases-loop-text
decreases-loop-text l = length l.self.rest.now
