-- The number of keys of a toggle list.
use Rattle.std.proofs.Common.{◌≡◌, ◌≤◌, length, arith}
use Rattle.std.proofs.lemmas.List.{length-take-le}
use Rattle.toggles.specs.declared.list.Toggles.{Toggles}
use Rattle.toggles.specs.Present.{present, room, size}

pub length_present : {K : Type 0} (t : Toggles K) → length (present t) ≡ size t
length_present t = length-take-le t.len t.keys.now t.within

-- there is room for them
pub within_room : {K : Type 0} (t : Toggles K) → length (present t) ≤ room t
within_room t = let l = t.within in omega (arith, length_present t)
