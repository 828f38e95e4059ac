use Rattle.std.proofs.Common.{◌≤◌, length, arith, rules}
use Rattle.toggles.specs.Present.{present, room}
use Rattle.toggles.proofs.Sizes.{within_room}
use Rattle.spans.specs.Shown.{shown}
use Rattle.spans.proofs.RunLaws.{ran_to_end, ran_within}
use Rattle.spans.proofs.places.turn_run.Goals as goal

pub returns-then-past-volume : goal.returns-then-past-volume
returns-then-past-volume c =
    let t = c.args.list.now in
    let u = c.toggle_both.new.list in
    let f = c.toggle_both.ensures in
    let d = shown c.args.volume (present t) in
    let within : length (present u) ≤ room t = omega (arith, within_room u) in
    let q = ran_within c.args.volume d (present t) (present u) c.args.run.start c.args.run.end (room t)
    c.requires.listed c.requires.run.0 c.requires.run.1 within c.toggle_both.result (omega arith) f.toggled f.refused in
    record { shelf = f.shelf; fits = q.fits; drawn = q.drawn; refused = f.unchanged }

pub returns : goal.returns
returns c =
    let t = c.args.list.now in
    let u = c.toggle.new.self in
    let f = c.toggle.ensures in
    let d = shown c.args.volume (present t) in
    let within : length (present u) ≤ room t = omega (arith, within_room u) in
    let q = ran_to_end c.args.volume d (present t) (present u) c.args.run.start c.args.run.end (room t)
    c.requires.listed c.requires.run.0 c.requires.run.1 within c.toggle.result (omega arith) f.answered in
    record { shelf = f.shelf; fits = q.fits; drawn = q.drawn; refused = search rules }
