use Rattle.std.proofs.Common.{◌-◌, length}
use Rattle.pattern.specs.Pattern.{body}
use Rattle.pattern.specs.Read.{body_of, stand_of}
use Rattle.pattern.proofs.BodyLaws.{SoFar}
use Rattle.pattern.proofs.reader.Reader.read_body.Given as goal

abbrev pub invariant-loop-line : goal.invariant-loop-line
invariant-loop-line l =
    SoFar (body_of l.initial.self l.initial.points l.initial.faces) l.initial.points l.initial.faces
    l.counts.points l.counts.faces l.points l.faces
    (body (length l.points - l.counts.points) (length l.faces - l.counts.faces) (stand_of l.self).state (stand_of l.self).side (stand_of l.self).left)

abbrev pub decreases-loop-line : goal.decreases-loop-line
decreases-loop-line l = length l.self.rest.now
