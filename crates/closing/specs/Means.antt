-- What each answer of the check means.
use Rattle.std.specs.Prelude.{◌≡◌, ℕ, ◌*◌, ◌<◌, ◌≤◌, true, List, length, Ok, Err, Result}
use Rattle.geometry.specs.declared.mesh.Triangle.{Triangle}
use Rattle.geometry.specs.Closed as sides
use Rattle.closing.specs.declared.check.Leak.{Leak}
use Rattle.closing.specs.declared.check.Leak.TheVariants.{Odd, ShortShelf}
use Rattle.closing.specs.Order.{before}

-- for the triangles ts and a shelf of n places: the shelf is short exactly where it has fewer than three places for each triangle; else
-- the sides close, or an odd number of them join the ends of the side that is named, the lesser end first
abbrev pub Means : List Triangle → ℕ → Result (Unit {0}) Leak → Type 0
Means ts n (Err ShortShelf) = n < 3 * length ts
Means ts n (Ok done) = (3 * length ts ≤ n) × sides.Closed ts
Means ts n (Err (Odd s)) =
    (3 * length ts ≤ n) × (before s.low s.high ≡ true) × (sides.odd_sides (sides.joins s.low s.high) ts ≡ true)
