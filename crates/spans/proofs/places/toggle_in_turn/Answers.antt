use Rattle.std.proofs.Common.{true, false, is_ok}
use mathlib.Core.Bool.{false≢true}
use Rattle.toggles.specs.Present.{present, room}
use Rattle.toggles.proofs.Sizes.{within_room}
use Rattle.spans.proofs.StepLaws.{both_toggled, first_done, second_done}
use Rattle.spans.proofs.places.toggle_in_turn.Goals as goal

-- the first toggle is not refused
pub returns-in_err-toggle-clause-done : goal.returns-in_err-toggle-clause-done
returns-in_err-toggle-clause-done c =
    let t = c.args.list.now in
    absurd (false≢true (first_done (present t) (present c.toggle.new.self) (room t) c.args.first false
    c.in_err-toggle.ensures.answered c.requires.rising c.requires.fits))

pub returns-in_err-toggle-clause-toggled : goal.returns-in_err-toggle-clause-toggled
returns-in_err-toggle-clause-toggled c =
    let t = c.args.list.now in
    absurd (false≢true (first_done (present t) (present c.toggle.new.self) (room t) c.args.first false
    c.in_err-toggle.ensures.answered c.requires.rising c.requires.fits))

pub returns-clause-done : goal.returns-clause-done
returns-clause-done c =
    let t = c.args.list.now in
    let u = c.toggle.new.self in
    second_done (present t) (present u) (room t) c.args.first true c.in_ok-toggle.ensures.answered c.requires.rising c.requires.fits
    (present c.toggle-2.new.self) (room u) c.args.second (is_ok c.toggle-2.result) c.toggle-2.ensures.answered c.toggle.ensures.shelf.room (within_room t)

pub returns-clause-toggled : goal.returns-clause-toggled
returns-clause-toggled c =
    let t = c.args.list.now in
    let u = c.toggle.new.self in
    both_toggled (present t) (present u) (room t) c.args.first true c.in_ok-toggle.ensures.answered c.requires.rising c.requires.fits
    (present c.toggle-2.new.self) (room u) c.args.second (is_ok c.toggle-2.result) c.toggle-2.ensures.answered c.toggle.ensures.shelf.room (within_room t)
