use Rattle.std.proofs.Common.{arith}
use Rattle.toggles.specs.Present.{present, room}
use Rattle.toggles.proofs.Sizes.{length_present}
use Rattle.toggles.proofs.Toggling.{put_answers, full_answers, cut_answers, keeps_more}
use Rattle.toggles.proofs.list.Toggles.toggle.Goals as goal

pub returns-then-self-clause-answered : goal.returns-then-self-clause-answered
returns-then-self-clause-answered g c =
    let t = c.args.self.now in
    full_answers _ (present t) c.in-Err.at (room t) c.in-Err.ensures (omega (arith, length_present t))

-- there was room, since the keys are within their places after it
pub returns-else-self-clause-answered : goal.returns-else-self-clause-answered
returns-else-self-clause-answered g c =
    let t = c.args.self.now in
    let u = c.insert_at.new.self in
    put_answers _ (present t) c.in-Err.at (room t) (present u) c.in-Err.ensures (omega (arith, length_present t, u.within)) c.insert_at.ensures.keys

pub returns-in-Ok-clause-keeps : goal.returns-in-Ok-clause-keeps
returns-in-Ok-clause-keeps g c =
    let t = c.args.self.now in
    let u = c.remove_at.new.self in
    keeps_more _ _ (room t) _ (cut_answers _ (present t) c.in-Ok.at (room t) (present u) c.in-Ok.ensures c.remove_at.ensures.keys)

pub returns-else-self-clause-keeps : goal.returns-else-self-clause-keeps
returns-else-self-clause-keeps g c = keeps_more _ _ (room c.args.self.now) _ (returns-else-self-clause-answered g c)
