-- Points that have equal coordinates, or that the order does not tell apart, are the same; and so are sides.
use Rattle.std.proofs.Common.{◌≡◌, zero, suc, true, ◌&&◌, ℤ, pos, negsuc, ◌-ℤ◌, Ordering, Less, Equal, Greater, sym, refl, ap, ◌∙◌, arith}
use mathlib.Core.Bool.{false≢true}
use Rattle.std.specs.Ordering.{eq_by_cmp, is_eq, is_lt, ordering_reverse, ordering_then}
use Rattle.std.specs.Cmp.{Equal-is, signed_Decides, tied_itself}
use Rattle.std.proofs.lemmas.Int.{ints}
use Rattle.algebra.proofs.Tests.{both, and_split}
use Rattle.geometry.specs.declared.mesh.Point.{Point}
use Rattle.geometry.specs.declared.mesh.Side.{Side}
use Rattle.geometry.specs.Geometry.{is_zero}
use Rattle.geometry.specs.Closed.{eq_z, eq_p}
use Rattle.closing.specs.Order.{point_cmp, side_cmp, point_order, before}

-- ---- equal coordinates

is_zero_lem : (a : ℤ) → is_zero a ≡ true → a ≡ pos 0
is_zero_lem (pos zero) e = refl
is_zero_lem (pos (suc n)) e = absurd (false≢true e)
is_zero_lem (negsuc n) e = absurd (false≢true e)

same_number : (a b : ℤ) → eq_z a b ≡ true → a ≡ b
same_number a b e = let d = is_zero_lem (a -ℤ b) e in omega (arith, ints)

eq_z_itself : (a : ℤ) → eq_z a a ≡ true
eq_z_itself a = let d : a -ℤ a ≡ pos 0 = omega (arith, ints) in ap is_zero d

pub same_point : (p q : Point) → eq_p p q ≡ true → p ≡ q
same_point p q e =
    let yz = and_split (eq_z p.x q.x && eq_z p.y q.y) (eq_z p.z q.z) e in
    let xy = and_split (eq_z p.x q.x) (eq_z p.y q.y) yz.0 in
    let ex = same_number p.x q.x xy.0 in
    let ey = same_number p.y q.y xy.1 in
    let ez = same_number p.z q.z yz.1 in
    λ i. record { x = ex i; y = ey i; z = ez i }

eq_p_itself : (p : Point) → eq_p p p ≡ true
eq_p_itself p = both (both (eq_z_itself p.x) (eq_z_itself p.y)) (eq_z_itself p.z)

pub eq_p_same : (p q : Point) → p ≡ q → eq_p p q ≡ true
eq_p_same p q e = ap (eq_p p) (sym e) ∙ eq_p_itself p

-- ---- level in the order

first_level : (a b : Ordering) → ordering_then a b ≡ Equal → (a ≡ Equal) × (b ≡ Equal)
first_level Less b e = absurd (false≢true (ap is_eq e))
first_level Equal b e = (refl, e)
first_level Greater b e = absurd (false≢true (ap is_eq e))

pub level_point : (p q : Point) → point_cmp p q ≡ Equal → p ≡ q
level_point p q e =
    let x = first_level _ _ e in
    let y = first_level _ _ x.1 in
    let ex = (signed_Decides p.x q.x).0 (ap is_eq x.0) in
    let ey = (signed_Decides p.y q.y).0 (ap is_eq y.0) in
    let ez = (signed_Decides p.z q.z).0 (ap is_eq y.1) in
    λ i. record { x = ex i; y = ey i; z = ez i }

pub tied_side : (x s : Side) → eq_by_cmp side_cmp x s ≡ true → x ≡ s
tied_side x s t =
    let e = first_level _ _ ((Equal-is (side_cmp x s)).0 t) in
    let el = level_point x.low s.low e.0 in
    let eh = level_point x.high s.high e.1 in
    λ i. record { low = el i; high = eh i }

-- ---- before

pub is_before : (p q : Point) → before p q ≡ true → point_cmp p q ≡ Less
is_before p q e = less (point_cmp p q) e
  where
    less : (a : Ordering) → is_lt a ≡ true → a ≡ Less
    less Less h = refl
    less Equal h = absurd (false≢true h)
    less Greater h = absurd (false≢true h)

pub not_before_itself : (p q : Point) → before p q ≡ true → p ≡ q → ⊥
not_before_itself p q e same = false≢true (sym (ap is_lt (ap (point_cmp p) (sym same) ∙ tied_itself point_order p)) ∙ e)

pub before_one_way : (p q : Point) → before p q ≡ true → before q p ≡ true → ⊥
before_one_way p q e f = false≢true (sym (ap is_lt (point_order.antisymm q p ∙ ap ordering_reverse (is_before p q e))) ∙ f)
