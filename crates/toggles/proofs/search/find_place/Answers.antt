use Rattle.std.proofs.Common.{Err, rules}
use Rattle.toggles.proofs.Toggling.{place_stands}
use Rattle.toggles.proofs.search.find_place.Goals as goal

pub returns-clause-stands : goal.returns-clause-stands
returns-clause-stands g c o s = place_stands o c.args.key.now c.args.keys.now s (Err c.loop-low.low) (search rules)
