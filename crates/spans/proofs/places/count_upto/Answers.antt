use Rattle.std.proofs.Common.{sym}
use Rattle.std.specs.Cmp.{nat_cmp_total}
use Rattle.std.proofs.lemmas.Map.Keys.{sorted_from_strictly_increasing}
use Rattle.spans.proofs.PlaceLaws.{upto_found, upto_missing}
use Rattle.spans.proofs.places.count_upto.Goals as goal

pub returns-in-Ok : goal.returns-in-Ok
returns-in-Ok c up =
    let ps = c.args.places.now in
    let s = sorted_from_strictly_increasing ps up in
    let h = c.in-Ok.ensures.stands nat_cmp_total s in
    sym (upto_found c.args.k ps c.in-Ok.i s h.0 h.1)

pub returns-in-Err : goal.returns-in-Err
returns-in-Err c up =
    let ps = c.args.places.now in
    let h = c.in-Err.ensures.stands nat_cmp_total (sorted_from_strictly_increasing ps up) in
    sym (upto_missing c.args.k ps c.in-Err.i h.0 h.1)
