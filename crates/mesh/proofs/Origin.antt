-- Crossings as seen from the origin. A point p and a triangle may be moved together, so that p becomes the origin; then what a crossing
-- is told by are the corners' own coordinates.
use Rattle.std.proofs.Common.{◌≡◌, Bool, ◌&&◌, [], ◌∷◌, ℤ, pos, ◌-ℤ◌, ◌*ℤ◌, refl, ap}
use lib.Signed.{lt_z, le_z}
use Rattle.algebra.specs.Parity.{◌⊻◌}
use Rattle.algebra.proofs.Ring.{var, ◌⊖◌, ◌⊗◌, ring}
use Rattle.algebra.proofs.Parity.{xor_comm, xor_same}
use Rattle.algebra.proofs.Tests.{le_less, and_same}
use Rattle.geometry.specs.declared.mesh.Point.{Point}
use Rattle.geometry.specs.declared.mesh.Triangle.{Triangle}
use Rattle.geometry.specs.Geometry.{normal_of, edge, passes, ahead, counts, plane}
use Rattle.mesh.proofs.Exprs.{Zero, Spot, edge_e, normal_e, plane_e, V0, V1, V2, PT, corners, point}
use Rattle.mesh.proofs.Split.{cut, cut_turn}
use Rattle.mesh.proofs.Turned.{rot, three_sides, three_rot, nx_rot, plane_rot}

abbrev pub origin : Point
origin = record { x = pos 0; y = pos 0; z = pos 0 }

-- the side counts at the origin
abbrev pub counts0 : Point → Point → Bool
counts0 a b = (le_z a.z (pos 0) ⊻ le_z b.z (pos 0)) && lt_z (pos 0) (cut a.y a.z b.y b.z)

-- an odd number of the three sides count at the origin
abbrev pub odd0 : Triangle → Bool
odd0 t = three_sides counts0 t

-- the triangle crosses at the origin or before
abbrev pub crosses0 : Triangle → Bool
crosses0 t = odd0 t && le_z (pos 0) (plane origin t *ℤ (normal_of t).x)

pub counts_turn : (a b : Point) → counts0 a b ≡ counts0 b a
counts_turn a b =
    and_same (xor_comm (le_z a.z (pos 0)) (le_z b.z (pos 0))) (ap (lt_z (pos 0)) (cut_turn a.y a.z b.y b.z))

pub odd_rot : (t : Triangle) → odd0 (rot t) ≡ odd0 t
odd_rot t = three_rot counts0 t

pub crosses0_rot : (t : Triangle) → crosses0 (rot t) ≡ crosses0 t
crosses0_rot t = same (odd_rot t) (plane_rot origin t) (nx_rot t)
  where
    same : {a b : Bool} {p q m n : ℤ} → a ≡ b → p ≡ q → m ≡ n → (a && le_z (pos 0) (p *ℤ m)) ≡ (b && le_z (pos 0) (q *ℤ n))
    same e f g = cc

-- ---- a point and a triangle moved together

-- a, seen from p
abbrev pub to_origin : Point → Point → Point
to_origin p a = record { x = a.x -ℤ p.x; y = a.y -ℤ p.y; z = a.z -ℤ p.z }

abbrev pub shift : Point → Triangle → Triangle
shift p t = record { v0 = to_origin p t.v0; v1 = to_origin p t.v1; v2 = to_origin p t.v2 }

passes_is : (p a b : Point) → passes p a b ≡ (le_z (a.z -ℤ p.z) (pos 0) ⊻ le_z (b.z -ℤ p.z) (pos 0))
passes_is p a b = xor_same (le_less a.z p.z) (le_less b.z p.z)

ahead_is : (p a b : Point) → ahead p a b ≡ cut (a.y -ℤ p.y) (a.z -ℤ p.z) (b.y -ℤ p.y) (b.z -ℤ p.z)
unfolding edge
ahead_is p a b =
    let PY = var 0 in let PZ = var 1 in let AY = var 2 in let AZ = var 3 in let BY = var 4 in let BZ = var 5 in
    ring (p.y ∷ p.z ∷ a.y ∷ a.z ∷ b.y ∷ b.z ∷ [])
    (edge_e AY AZ BY BZ PY PZ ⊗ (BZ ⊖ AZ))
    (((AY ⊖ PY) ⊗ (BZ ⊖ PZ) ⊖ (BY ⊖ PY) ⊗ (AZ ⊖ PZ)) ⊗ ((BZ ⊖ PZ) ⊖ (AZ ⊖ PZ))) refl

pub counts_is : (p a b : Point) → counts p a b ≡ counts0 (to_origin p a) (to_origin p b)
counts_is p a b = and_same (passes_is p a b) (ap (lt_z (pos 0)) (ahead_is p a b))

-- an expression for a corner seen from the point
abbrev seen : Spot → Spot
seen v = record { x = v.x ⊖ PT.x; y = v.y ⊖ PT.y; z = v.z ⊖ PT.z }

pub nx_shift : (p : Point) (t : Triangle) → (normal_of (shift p t)).x ≡ (normal_of t).x
unfolding normal_of
nx_shift p t = ring (corners t (point p [])) (normal_e (seen V0) (seen V1) (seen V2)).x (normal_e V0 V1 V2).x refl

pub ny_shift : (p : Point) (t : Triangle) → (normal_of (shift p t)).y ≡ (normal_of t).y
unfolding normal_of
ny_shift p t = ring (corners t (point p [])) (normal_e (seen V0) (seen V1) (seen V2)).y (normal_e V0 V1 V2).y refl

pub nz_shift : (p : Point) (t : Triangle) → (normal_of (shift p t)).z ≡ (normal_of t).z
unfolding normal_of
nz_shift p t = ring (corners t (point p [])) (normal_e (seen V0) (seen V1) (seen V2)).z (normal_e V0 V1 V2).z refl

pub plane_shift : (p : Point) (t : Triangle) → plane origin (shift p t) ≡ plane p t
unfolding plane normal_of
plane_shift p t =
    ring (corners t (point p []))
    (plane_e (record { x = Zero; y = Zero; z = Zero }) (seen V0) (seen V1) (seen V2)) (plane_e PT V0 V1 V2) refl
