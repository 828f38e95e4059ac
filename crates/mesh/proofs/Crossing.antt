-- What the crossing of one triangle says. Where the plane of the triangle meets the row at the fraction p/q, it crosses at or before X
-- exactly if p/q is at most X; so along a row a crossing only ever begins. A triangle whose plane lies along the row has an even count of
-- sides by itself, so that leaving it out loses nothing. And a triangle crosses the same whatever the order of its corners.
use Rattle.std.proofs.Common.{◌≡◌, Bool, true, false, not, ◌&&◌, [], ◌∷◌, ℤ, pos, ◌+ℤ◌, ◌-ℤ◌, ◌*ℤ◌, ◌≤ℤ◌, ◌<ℤ◌, sym, refl, ap, ◌∙◌, subst}
use Rattle.std.proofs.lemmas.Bool.{and_left, false_from_ne_true}
use lib.Signed.{le_z}
use Rattle.algebra.specs.Parity.{◌⊻◌}
use Rattle.algebra.proofs.Ring.{var, ◌⊕◌, ◌⊖◌, ◌⊗◌, ring}
use Rattle.algebra.proofs.Order.{gap, plus_nonneg, mul_nonneg, square_nonneg}
use Rattle.algebra.proofs.Parity.{xor_assoc, xor_comm, xor_same}
use Rattle.algebra.proofs.Tests.{le_true, le_of, le_less, both, and_same, and_split}
use Rattle.geometry.specs.declared.mesh.Point.{Point}
use Rattle.geometry.specs.declared.mesh.Triangle.{Triangle}
use Rattle.geometry.specs.Geometry.{is_zero, normal_of, counts, covers, plane, crosses}
use Rattle.geometry.proofs.Crossing.{covers_along}
use Rattle.mesh.proofs.Exprs.{Zero}
use Rattle.mesh.proofs.Signs.{nonzero_of}
use Rattle.mesh.proofs.Turned.{rot, swap, three_sides, nx_swap, plane_swap}
use Rattle.mesh.proofs.Origin.{origin, counts0, crosses0, counts_turn, crosses0_rot, shift, nx_shift}
use Rattle.mesh.proofs.Row.{side_is, crossed_turns, odd_counts_is, covers_is, crosses_is}

-- ---- along the row

-- q times the plane's value at X, where the plane meets the row at p / q
plane_at_fraction : (t : Triangle) (X Y Z p q : ℤ)
    → (normal_of t).x *ℤ (p -ℤ q *ℤ t.v0.x) +ℤ q *ℤ ((normal_of t).y *ℤ (Y -ℤ t.v0.y) +ℤ (normal_of t).z *ℤ (Z -ℤ t.v0.z)) ≡ pos 0
    → plane (record { x = X; y = Y; z = Z }) t *ℤ q ≡ pos 0 -ℤ (normal_of t).x *ℤ (p -ℤ q *ℤ X)
unfolding plane
plane_at_fraction t X Y Z p q e =
    let n = (normal_of t).x in let a = (normal_of t).y *ℤ (Y -ℤ t.v0.y) in let b = (normal_of t).z *ℤ (Z -ℤ t.v0.z) in
    let N = var 0 in let V = var 1 in let A = var 2 in let B = var 3 in let XX = var 4 in let P = var 5 in let Q = var 6 in
    ring (n ∷ t.v0.x ∷ a ∷ b ∷ X ∷ p ∷ q ∷ [])
    ((N ⊗ (XX ⊖ V) ⊕ A ⊕ B) ⊗ Q) ((N ⊗ (P ⊖ Q ⊗ V) ⊕ Q ⊗ (A ⊕ B)) ⊖ N ⊗ (P ⊖ Q ⊗ XX)) refl
    ∙ ap (λ x. x -ℤ n *ℤ (p -ℤ q *ℤ X)) e

-- where the plane meets the row at p / q, the triangle crosses at or before X exactly if it covers the row and p / q ≤ X
pub crosses_at_fraction : (t : Triangle) (X Y Z p q : ℤ) → pos 0 <ℤ q → ((normal_of t).x ≡ pos 0 → ⊥)
    → (normal_of t).x *ℤ (p -ℤ q *ℤ t.v0.x) +ℤ q *ℤ ((normal_of t).y *ℤ (Y -ℤ t.v0.y) +ℤ (normal_of t).z *ℤ (Z -ℤ t.v0.z)) ≡ pos 0
    → crosses (record { x = X; y = Y; z = Z }) t ≡ (covers (record { x = X; y = Y; z = Z }) t && le_z p (q *ℤ X))
crosses_at_fraction t X Y Z p q h z e =
    ap (λ x. covers (record { x = X; y = Y; z = Z }) t && x)
    (side_is q (plane (record { x = X; y = Y; z = Z }) t) (normal_of t).x (p -ℤ q *ℤ X) h z (plane_at_fraction t X Y Z p q e)
    ∙ sym (le_less p (q *ℤ X)))

-- of a triangle that covers the row: exactly if p / q ≤ X
pub covered_at_fraction : (t : Triangle) (X Y Z p q : ℤ) → pos 0 <ℤ q → covers (record { x = X; y = Y; z = Z }) t ≡ true
    → (normal_of t).x *ℤ (p -ℤ q *ℤ t.v0.x) +ℤ q *ℤ ((normal_of t).y *ℤ (Y -ℤ t.v0.y) +ℤ (normal_of t).z *ℤ (Z -ℤ t.v0.z)) ≡ pos 0
    → crosses (record { x = X; y = Y; z = Z }) t ≡ le_z p (q *ℤ X)
covered_at_fraction t X Y Z p q h c e =
    crosses_at_fraction t X Y Z p q h (nonzero_of (normal_of t).x (and_split _ _ c).0) e ∙ ap (λ x. x && le_z p (q *ℤ X)) c

plane_along : (t : Triangle) (X X' Y Z : ℤ)
    → plane (record { x = X; y = Y; z = Z }) t *ℤ (normal_of t).x +ℤ ((normal_of t).x *ℤ (normal_of t).x) *ℤ (X' -ℤ X)
    ≡ plane (record { x = X'; y = Y; z = Z }) t *ℤ (normal_of t).x
unfolding plane
plane_along t X X' Y Z =
    let a = (normal_of t).y *ℤ (Y -ℤ t.v0.y) in let b = (normal_of t).z *ℤ (Z -ℤ t.v0.z) in
    let N = var 0 in let V = var 1 in let A = var 2 in let B = var 3 in let XX = var 4 in let XX' = var 5 in
    ring ((normal_of t).x ∷ t.v0.x ∷ a ∷ b ∷ X ∷ X' ∷ [])
    ((N ⊗ (XX ⊖ V) ⊕ A ⊕ B) ⊗ N ⊕ (N ⊗ N) ⊗ (XX' ⊖ XX)) ((N ⊗ (XX' ⊖ V) ⊕ A ⊕ B) ⊗ N) refl

-- along a row a crossing only ever begins
pub crossing_begins : (t : Triangle) (X X' Y Z : ℤ) → X ≤ℤ X'
    → crosses (record { x = X; y = Y; z = Z }) t ≡ true → crosses (record { x = X'; y = Y; z = Z }) t ≡ true
crossing_begins t X X' Y Z h e =
    let c = and_split _ _ e in
    both (sym (covers_along t X X' Y Z) ∙ c.0)
    (le_true _ _ (subst (λ x. pos 0 ≤ℤ x) (plane_along t X X' Y Z)
    (plus_nonneg _ _ (le_of _ _ c.1)
    (mul_nonneg ((normal_of t).x *ℤ (normal_of t).x) (X' -ℤ X) (square_nonneg (normal_of t).x) (gap X X' h)))))

-- ---- a triangle whose plane lies along the row

-- an even number of its sides count
pub flat_counts_even : (p : Point) (t : Triangle) → (normal_of t).x ≡ pos 0
    → (counts p t.v0 t.v1 ⊻ counts p t.v1 t.v2 ⊻ counts p t.v2 t.v0) ≡ false
flat_counts_even p t z = false_from_ne_true (three_sides (counts p) t) (λ o. crossed_turns (shift p t) (sym (odd_counts_is p t) ∙ o) (nx_shift p t ∙ z))

-- so the count of sides alone tells what covers the row
pub covers_by_counts : (p : Point) (t : Triangle)
    → covers p t ≡ (counts p t.v0 t.v1 ⊻ counts p t.v1 t.v2 ⊻ counts p t.v2 t.v0)
covers_by_counts p t = covers_is p t ∙ sym (odd_counts_is p t)

-- and it does not cross
pub flat_none : (p : Point) (t : Triangle) → (normal_of t).x ≡ pos 0 → crosses p t ≡ false
flat_none p t z = and_left _ _ (and_left _ _ (ap (λ n. not (is_zero n)) z))

-- ---- the order of the corners: turned or swapped, and so in all six orders

pub crosses_turned : (p a b c : Point) → crosses p (record { v0 = b; v1 = c; v2 = a }) ≡ crosses p (record { v0 = a; v1 = b; v2 = c })
crosses_turned p a b c =
    let t : Triangle = record { v0 = a; v1 = b; v2 = c } in
    crosses_is p (rot t) ∙ crosses0_rot (shift p t) ∙ sym (crosses_is p t)

crosses0_swap : (t : Triangle) → crosses0 (swap t) ≡ crosses0 t
crosses0_swap t =
    and_same
    (xor_same (xor_same (counts_turn t.v0 t.v2) (counts_turn t.v2 t.v1)) (counts_turn t.v1 t.v0)
    ∙ around (counts0 t.v2 t.v0) (counts0 t.v1 t.v2) (counts0 t.v0 t.v1))
    (ap (le_z (pos 0)) (product (plane origin t) (normal_of t).x (plane_swap origin t) (nx_swap t)))
  where
    around : (a b c : Bool) → (a ⊻ b ⊻ c) ≡ (c ⊻ b ⊻ a)
    around a b c = xor_comm (a ⊻ b) c ∙ ap (λ x. c ⊻ x) (xor_comm a b) ∙ sym (xor_assoc c b a)

    product : (q n : ℤ) {p m : ℤ} → p ≡ pos 0 -ℤ q → m ≡ pos 0 -ℤ n → p *ℤ m ≡ q *ℤ n
    product q n {p} {m} e f =
        ap (λ x. x *ℤ m) e ∙ ap (λ x. (pos 0 -ℤ q) *ℤ x) f
        ∙ ring (q ∷ n ∷ []) ((Zero ⊖ var 0) ⊗ (Zero ⊖ var 1)) (var 0 ⊗ var 1) refl

pub crosses_swapped : (p a b c : Point) → crosses p (record { v0 = a; v1 = c; v2 = b }) ≡ crosses p (record { v0 = a; v1 = b; v2 = c })
crosses_swapped p a b c =
    let t : Triangle = record { v0 = a; v1 = b; v2 = c } in
    crosses_is p (swap t) ∙ crosses0_swap (shift p t) ∙ sym (crosses_is p t)
