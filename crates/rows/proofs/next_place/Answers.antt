use Rattle.std.proofs.Common.{rules, ◌≡◌, false, not, get_or, tests}
use Rattle.std.proofs.lemmas.Iterator.{first_from_Range}
use Rattle.rows.proofs.next_place.Goals as goal

pub returns : goal.returns
returns c =
    let cells = c.args.cells.now in
    first_from_Range _ _ _ _ (λ k. get_or cells k false ≡ c.args.solid) (λ k. get_or cells k false ≡ not c.args.solid) c.find.ensures.ran
    (λ k q h. search (rules, tests)) (λ k q h. search (rules, tests))
