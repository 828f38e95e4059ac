-- The orders of points and of sides: points by x, then y, then z; sides by the low end, then the high one.
use Rattle.std.specs.Prelude.{◌≡◌, refl, Bool, Some, None, Option}
use Rattle.std.specs.declared.cmp.Ordering.TheVariants.{Less, Equal, Greater}
use Rattle.std.specs.declared.cmp.Ordering.{Ordering}
use Rattle.std.specs.Cmp.{IsTotalOrder, int_cmp_total, on_total, then_total}
use Rattle.std.specs.Ordering.{int_cmp, is_lt, ordering_then}
use Rattle.geometry.specs.declared.mesh.Point.{Point}
use Rattle.geometry.specs.declared.mesh.Side.{Side}
use Rattle.geometry.specs.contracts.mesh.PointOrd.TheImpl as by_point
use Rattle.geometry.specs.contracts.mesh.SideOrd.TheImpl as by_side

abbrev pub point_cmp : Point → Point → Ordering
point_cmp p q = ordering_then (int_cmp p.x q.x) (ordering_then (int_cmp p.y q.y) (int_cmp p.z q.z))

abbrev pub side_cmp : Side → Side → Ordering
side_cmp s t = ordering_then (point_cmp s.low t.low) (point_cmp s.high t.high)

-- they are what the two types' own comparisons answer
pub point_is : (by_point.ghosts).cmp ≡ point_cmp
point_is = refl

pub side_is : (by_side.ghosts).cmp ≡ side_cmp
side_is = refl

-- and those are total
abbrev pub point_order : IsTotalOrder (by_point.ghosts).cmp
point_order = then_total (on_total (λ (p : Point). p.x) int_cmp_total) (then_total (on_total (λ (p : Point). p.y) int_cmp_total) (on_total (λ (p : Point). p.z) int_cmp_total))

abbrev pub side_order : IsTotalOrder (by_side.ghosts).cmp
side_order = then_total (on_total (λ (s : Side). s.low) point_order) (on_total (λ (s : Side). s.high) point_order)

-- p comes before q
abbrev pub before : Point → Point → Bool
before p q = is_lt (point_cmp p q)

-- the side between p and q, where the order of p and q is known
abbrev pub side_by : Ordering → Point → Point → Option Side
side_by Less p q = Some (record { low = p; high = q })
side_by Equal p q = None
side_by Greater p q = Some (record { low = q; high = p })

-- the side between p and q, the lesser end first, or none where they are one point
abbrev pub side_between : Point → Point → Option Side
side_between p q = side_by (point_cmp p q) p q
