use Rattle.std.proofs.lemmas.Result.{on_ok_weaker}
use Rattle.geometry.specs.Closed.{joins, odd_sides}
use Rattle.toggles.specs.Present.{present}
use Rattle.closing.proofs.Loose.{holds_more}
use Rattle.closing.proofs.sides.toggle_sides.Goals as goal

pub returns-clause-holds : goal.returns-clause-holds
returns-clause-holds c ts h =
    let one = c.in_ok-toggle_side.ensures.lists (λ a b. odd_sides (joins a b) ts) h in
    let two = c.in_ok-toggle_side-2.ensures.lists _ one in
    on_ok_weaker c.toggle_side-3.result (holds_more (present c.toggle_side-3.new.loose) ts c.args.t) (c.toggle_side-3.ensures.lists _ two)
