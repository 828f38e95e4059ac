-- A number that is passed on as bits is the number.
use Rattle.std.proofs.lemmas.Int.{to_z-of_z}

pub ruleset casts = (to_z-of_z)
