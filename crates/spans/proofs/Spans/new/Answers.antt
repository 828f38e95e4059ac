use Rattle.toggles.specs.Present.{present}
use Rattle.spans.proofs.CallLaws.{none_sound}
use Rattle.spans.proofs.Spans.new.Goals as goal

pub returns-clause-sound : goal.returns-clause-sound
returns-clause-sound c = none_sound _ (present c.new-list.result) c.new-list.ensures.empty
