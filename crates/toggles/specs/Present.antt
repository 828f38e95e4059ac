-- The keys of a toggle list.
use Rattle.std.specs.Prelude.{◌≡◌, ℕ, List, length, take}
use Rattle.toggles.specs.declared.list.Toggles.{Toggles}

-- the keys that are present: so many from the front of the lent slice
abbrev pub present : {K : Type 0} → Toggles K → List K
present t = take t.len t.keys.now

-- how many keys are present
abbrev pub size : {K : Type 0} → Toggles K → ℕ
size t = t.len

-- how many keys there is room for
abbrev pub room : {K : Type 0} → Toggles K → ℕ
room t = length t.keys.now

-- what stands in the lent slice: the keys that are present, and then whatever the spare places hold
abbrev pub lent : {K : Type 0} → Toggles K → List K
lent t = t.keys.now

-- the second list keeps its keys in the slice that the first was lent, which has as many places as before
pub record SameShelf {K : Type 0} (s t : Toggles K) : Type 0 where
  pub room : room t ≡ room s
  pub loan : t.keys.ghost_name ≡ s.keys.ghost_name
