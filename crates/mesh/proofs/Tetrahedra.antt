-- Tetrahedra agree with the crossings: from any apex, an odd number of the tetrahedra between the apex and the triangles of a closed list
-- hold p exactly if p is inside the list. A face between the apex and a side crosses the same in either direction of the side, and not at
-- all if the side has no length; so over a closed list these faces come out even, and only the triangles themselves are left.
use Rattle.std.proofs.Common.{◌≡◌, Bool, false, List, [], ◌∷◌, refl, ap, ◌∙◌}
use Rattle.algebra.specs.Parity.{◌⊻◌}
use Rattle.algebra.proofs.Ring.{ring}
use Rattle.algebra.proofs.Parity.{xor_assoc, xor_left, xor_false}
use Rattle.geometry.specs.declared.mesh.Point.{Point}
use Rattle.geometry.specs.declared.mesh.Triangle.{Triangle}
use Rattle.geometry.specs.Geometry.{normal_of, crosses, inside}
use Rattle.geometry.specs.Closed.{odd_sides, Closed}
use Rattle.mesh.specs.Tetrahedra.{holds, held}
use Rattle.mesh.proofs.Exprs.{Zero, normal_e, V0, V1, corners}
use Rattle.mesh.proofs.Closed.{closed_even}
use Rattle.mesh.proofs.Crossing.{flat_none, crosses_swapped}

-- the face between the apex o and the side from a to b
abbrev face : Point → Point → Point → Triangle
face o a b = record { v0 = o; v1 = a; v2 = b }

face_none : (p o a : Point) → crosses p (face o a a) ≡ false
unfolding normal_of
face_none p o a = flat_none p (face o a a) (ring (corners (face o a a) []) (normal_e V0 V1 V1).x Zero refl)

held_split : (p o : Point) (ts : List Triangle) → held p o ts ≡ (inside p ts ⊻ odd_sides (λ a b. crosses p (face o a b)) ts)
held_split p o [] = refl
held_split p o (t ∷ ts) =
    ap (λ x. holds p o t ⊻ x) (held_split p o ts)
    ∙ mix (crosses p t) (crosses p (face o t.v0 t.v1)) (crosses p (face o t.v1 t.v2)) (crosses p (face o t.v2 t.v0))
    (inside p ts) (odd_sides (λ a b. crosses p (face o a b)) ts)
  where
    mix : (c d e f i s : Bool) → ((c ⊻ d ⊻ e ⊻ f) ⊻ (i ⊻ s)) ≡ ((c ⊻ i) ⊻ ((d ⊻ e ⊻ f) ⊻ s))
    mix c d e f i s = simp (xor_assoc, xor_left)

-- the tetrahedra from o tell the inside of a closed list
pub tetrahedra_agree : (p o : Point) (ts : List Triangle) → Closed ts → held p o ts ≡ inside p ts
tetrahedra_agree p o ts c =
    held_split p o ts
    ∙ ap (λ x. inside p ts ⊻ x) (closed_even (λ a b. crosses p (face o a b)) (λ a b. crosses_swapped p o b a) (face_none p o) ts c)
    ∙ xor_false (inside p ts)
