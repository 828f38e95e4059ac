-- The entries of a part: the triangles that they are, and what is found of them.
use Rattle.std.specs.Prelude.{◌≡◌, ℕ, ◌-◌, ◌≤◌, true, false, List, ◌++◌, map, take, Some, None, Ok, Err, Option, Result}
use Rattle.std.specs.List.{slice_get, All}
use Rattle.geometry.specs.declared.mesh.Triangle.{Triangle}
use Rattle.geometry.specs.declared.facet.Facet.{Facet}
use Rattle.geometry.specs.Range.{triangle_in_range}
use Rattle.geometry.specs.Closed.{Closed as SidesClose}
use Rattle.geometry.specs.Read.{triangle_of}
use Rattle.report.specs.declared.part.Flaw.TheVariants.{Open, Hole, Wild}
use Rattle.report.specs.declared.part.NotKept.{NotKept}
use Rattle.report.specs.declared.part.NotKept.TheVariants.{Flawed, OutOfMemory}

-- the entries are these triangles, and all their coordinates are in range
abbrev pub Named : List (Option Triangle) → List Triangle → Type 0
Named es ts = (es ≡ map Some ts) × All (λ t. triangle_in_range t ≡ true) ts

-- the entry of the number i, counted from 1, is this one, and those before it are triangles in range
pub record First (es : List (Option Triangle)) (entry : Option Triangle) (i : ℕ) : Type 0 where
  pub triangles : List Triangle
  pub there : slice_get es (i - 1) ≡ Some entry
  pub from_one : 1 ≤ i
  pub before : Named (take (i - 1) es) triangles

-- the first entry that is no triangle in range is a hole, or has a coordinate out of range
abbrev pub FirstHole : List (Option Triangle) → ℕ → Type 0
FirstHole es i = First es None i

abbrev pub FirstWild : List (Option Triangle) → ℕ → Type 0
FirstWild es i = (t : Triangle) × First es (Some t) i × (triangle_in_range t ≡ false)

-- what each answer means, where `kept` are the triangles that were kept before it and `after` those after it: a part that closes adds
-- its own, and no other part adds any
abbrev pub Means : List (Option Triangle) → List Facet → List Facet → Result (Unit {0}) NotKept → Type 0
Means es kept after (Ok done) = (more : List Facet) × (after ≡ kept ++ more) × Named es (map triangle_of more) × SidesClose (map triangle_of more)
Means es kept after (Err (Flawed Open)) = (ts : List Triangle) × Named es ts × (SidesClose ts → ⊥) × (after ≡ kept)
Means es kept after (Err (Flawed (Hole i))) = FirstHole es i × (after ≡ kept)
Means es kept after (Err (Flawed (Wild i))) = FirstWild es i × (after ≡ kept)
Means es kept after (Err (OutOfMemory why)) = after ≡ kept

-- ---- words of the code on the way

abbrev pub IsOutOfMemory : NotKept → Type 0
IsOutOfMemory (Flawed flaw) = ⊥
IsOutOfMemory (OutOfMemory why) = Unit {0}

-- the triangles of the entries, or the first entry that is at fault
abbrev pub Collected : {V : Type 0} → (V → List Facet) → List (Option Triangle) → Result V NotKept → Type 0
Collected items es (Ok v) = Named es (map triangle_of (items v))
Collected items es (Err (Flawed Open)) = ⊥
Collected items es (Err (Flawed (Hole i))) = FirstHole es i
Collected items es (Err (Flawed (Wild i))) = FirstWild es i
Collected items es (Err (OutOfMemory why)) = Unit {0}

-- whether the sides of the triangles close
abbrev pub Closes : List Triangle → Result (Unit {0}) NotKept → Type 0
Closes ts (Ok done) = SidesClose ts
Closes ts (Err (Flawed Open)) = SidesClose ts → ⊥
Closes ts (Err (Flawed (Hole i))) = ⊥
Closes ts (Err (Flawed (Wild i))) = ⊥
Closes ts (Err (OutOfMemory why)) = Unit {0}
