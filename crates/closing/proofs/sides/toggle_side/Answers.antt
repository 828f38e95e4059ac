use Rattle.std.proofs.Common.{sym, ◌∙◌}
use Rattle.toggles.specs.Present.{present}
use Rattle.closing.specs.Order.{side_order}
use Rattle.closing.proofs.Loose.{lists_some, lists_none}
use Rattle.closing.proofs.sides.toggle_side.Goals as goal

pub returns-in-Some-clause-lists : goal.returns-in-Some-clause-lists
returns-in-Some-clause-lists c f h =
    lists_some (present c.args.loose.now) (present c.toggle.new.self) f h _ _ c.in-Some.side c.toggle.result
    (sym c.in-Some.is ∙ c.side_between.ensures) (c.toggle.ensures.answered.toggled side_order h.rising)

pub returns-in-None-clause-lists : goal.returns-in-None-clause-lists
returns-in-None-clause-lists c f h =
    let ks = present c.args.loose.now in
    lists_none ks ks f h _ _ (sym c.in-None.is ∙ c.side_between.ensures)
