-- What a toggle list of sides holds.
use Rattle.std.specs.Prelude.{◌≡◌, Bool, ◌&&◌, List}
use Rattle.std.specs.Ordering.{eq_by_cmp}
use Rattle.std.specs.List.Sorted.{IsStrictlySortedBy}
use Rattle.algebra.specs.Parity.{◌⊻◌}
use Rattle.geometry.specs.declared.mesh.Point.{Point}
use Rattle.geometry.specs.declared.mesh.Side.{Side}
use Rattle.geometry.specs.declared.mesh.Triangle.{Triangle}
use Rattle.geometry.specs.Closed.{joins, odd_sides}
use Rattle.toggles.specs.Toggled.{has}
use Rattle.closing.specs.Order.{side_cmp, before}

-- ks rises, and has exactly the sides whose lesser end comes first and of whose two ends f holds
pub record Lists (ks : List Side) (f : Point → Point → Bool) : Type 0 where
  pub rising : IsStrictlySortedBy side_cmp ks
  pub exact : (x : Side) → has (eq_by_cmp side_cmp) ks x ≡ (before x.low x.high && f x.low x.high)

-- f, with its answer turned for the two points that a side between p and q joins
abbrev pub toggled_at : Point → Point → (Point → Point → Bool) → Point → Point → Bool
toggled_at p q f a b = joins a b p q ⊻ f a b

-- ks rises, and has exactly the sides whose lesser end comes first and whose two ends an odd number of the sides of ts join
abbrev pub Holds : List Side → List Triangle → Type 0
Holds ks ts = Lists ks (λ a b. odd_sides (joins a b) ts)
