use Rattle.std.proofs.Common.{rules, length, ap, arith}
use Rattle.std.proofs.lemmas.List.{length-map}
use Rattle.std.proofs.lemmas.Iterator.{YieldsList}
use Rattle.std.proofs.lemmas.Iterator.Consumers.{YieldsList-turn}
use Rattle.rows.specs.Runs.{told_runs}
use Rattle.rows.proofs.RunLaws.{YieldsList-from_runs, length-told_runs}
use Rattle.flips.specs.Flips.{flip_at}
use Rattle.flips.proofs.row.cut_runs.Given as given
use Rattle.flips.proofs.row.cut_runs.Goals as goal

-- a row has no more runs than cells
pub push-requires : goal.push-requires
push-requires c =
    let cells = c.args.cells.now in
    let all : YieldsList given.iterator-loop-run.next_gives (λ r. r) c.into_iter-run-iterator.result (told_runs cells) = search (rules, YieldsList-from_runs) in
    let turn = YieldsList-turn all c.loop-run.yielded _ c.loop-run.yielded_by c.next.result c.next.new.self c.in-Some.run' c.in-Some.is c.next.ensures.steps in
    (omega arith, omega (arith, turn.0, length-told_runs cells, ap length c.loop-run.invariant.cut, length-map c.loop-run.yielded (flip_at c.args.row.y c.args.row.z)))
