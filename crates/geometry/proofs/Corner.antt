-- An expression of the first degree is not negative at some corner of a cell exactly if it is not at the corner where it is greatest:
-- so one corner, picked by signs, decides for all eight.
use Rattle.std.proofs.Common.{◌≡◌, Bool, true, false, ◌⊎◌, [], ◌∷◌, ℤ, pos, ◌+ℤ◌, ◌-ℤ◌, ◌*ℤ◌, ◌≤ℤ◌, ◌<ℤ◌, sym, refl, ap, ◌∙◌, subst, inl, inr, arith}
use mathlib.Core.Path.{fun_ext}
use Rattle.std.proofs.lemmas.Int.{ints, by_lt_z}
use lib.Signed.{le_z}
use Rattle.algebra.proofs.Ring.{var, num, ◌⊕◌, ◌⊖◌, ◌⊗◌, ring}
use Rattle.algebra.proofs.Order.{mul_le, mul_ge}
use Rattle.std.proofs.lemmas.Bool.{or_left, or_right, or_cases}
use Rattle.algebra.proofs.Tests.{le_true, le_false, le_of, same_test}
use Rattle.geometry.specs.declared.mesh.Point.{Point}
use Rattle.geometry.specs.declared.mesh.Triangle.{Triangle}
use Rattle.geometry.specs.Geometry.{normal_of, edge, plane}
use Rattle.geometry.specs.Cells.{low, high, at_end, at_corner, sign, beside_side}
use Rattle.geometry.specs.declared.axis.Axis.{Axis}
use Rattle.geometry.specs.declared.axis.Axis.TheVariants.{X, Y, Z}
use Rattle.geometry.specs.Numbers.{◌·◌}
use Rattle.geometry.specs.Read.{corner_of, end_of, first_of, second_of, flat_edge}

-- the end of the cell's span where a times it is greatest
abbrev pub far_end : ℤ → ℤ → ℤ → ℤ
far_end a h k = end_of h (le_z (pos 0) a) k

abbrev pub first_degree : ℤ → ℤ → ℤ → ℤ → Point → ℤ
first_degree a b c d q = a *ℤ q.x +ℤ b *ℤ q.y +ℤ c *ℤ q.z +ℤ d

abbrev pub far_corner : ℤ → ℤ → ℤ → ℤ → Point → Point
far_corner a b c h k = corner_of h k (le_z (pos 0) a) (le_z (pos 0) b) (le_z (pos 0) c)

-- the same test at each corner
pub at_corner_same : (h : ℤ) (k : Point) (f g : Point → Bool) → ((q : Point) → f q ≡ g q) → at_corner h k f ≡ at_corner h k g
at_corner_same h k f g e = ap (at_corner h k) (fun_ext e)

module _ (h : ℤ) (h_some : pos 0 ≤ℤ h) where
  low_high : (k : ℤ) → low h k ≤ℤ high h k
  low_high k = more (low h k) h h_some
    where
      more : (m h : ℤ) → pos 0 ≤ℤ h → m ≤ℤ (m +ℤ (h +ℤ h))
      more m h i = omega (arith, ints)

  far_is : (a k : ℤ) → (far_end a h k ≡ low h k) ⊎ (far_end a h k ≡ high h k)
  far_is a k = by_bool (le_z (pos 0) a)
    where
      by_bool : (b : Bool) → (end_of h b k ≡ low h k) ⊎ (end_of h b k ≡ high h k)
      by_bool true = inr refl
      by_bool false = inl refl

  same : (a : ℤ) → a ≤ℤ a
  same a = omega (arith, ints)

  far_most : (a k q : ℤ) → (q ≡ low h k) ⊎ (q ≡ high h k) → (a *ℤ q) ≤ℤ (a *ℤ far_end a h k)
  far_most a k q e =
      by_lt_z a (pos 0)
      (λ n. subst (λ x. (a *ℤ q) ≤ℤ (a *ℤ x)) (sym (ap (λ b. end_of h b k) (le_false _ _ n))) (below n e))
      (λ p. subst (λ x. (a *ℤ q) ≤ℤ (a *ℤ x)) (sym (ap (λ b. end_of h b k) (le_true _ _ p))) (above p e))
    where
      below : a <ℤ pos 0 → (q ≡ low h k) ⊎ (q ≡ high h k) → (a *ℤ q) ≤ℤ (a *ℤ low h k)
      below n (inl e) = subst (λ x. (a *ℤ x) ≤ℤ (a *ℤ low h k)) (sym e) (same (a *ℤ low h k))
      below n (inr e) = subst (λ x. (a *ℤ x) ≤ℤ (a *ℤ low h k)) (sym e) (mul_ge a (low h k) (high h k) n (low_high k))

      above : pos 0 ≤ℤ a → (q ≡ low h k) ⊎ (q ≡ high h k) → (a *ℤ q) ≤ℤ (a *ℤ high h k)
      above n (inl e) = subst (λ x. (a *ℤ x) ≤ℤ (a *ℤ high h k)) (sym e) (mul_le a (low h k) (high h k) n (low_high k))
      above n (inr e) = subst (λ x. (a *ℤ x) ≤ℤ (a *ℤ high h k)) (sym e) (same (a *ℤ high h k))

  -- a test that holds at an end
  record At (k : ℤ) (f : ℤ → Bool) : Type 0 where
    q : ℤ
    is : (q ≡ low h k) ⊎ (q ≡ high h k)
    so : f q ≡ true

  at_of : (k : ℤ) (f : ℤ → Bool) → at_end h k f ≡ true → At k f
  at_of k f e = by_case (or_cases (f (low h k)) (f (high h k)) e)
    where
      by_case : (f (low h k) ≡ true) ⊎ (f (high h k) ≡ true) → At k f
      by_case (inl y) = record { q = low h k; is = inl refl; so = y }
      by_case (inr y) = record { q = high h k; is = inr refl; so = y }

  end_at : (k : ℤ) (f : ℤ → Bool) (q : ℤ) → (q ≡ low h k) ⊎ (q ≡ high h k) → f q ≡ true → at_end h k f ≡ true
  end_at k f q (inl e) y = or_left _ _ (ap f (sym e) ∙ y)
  end_at k f q (inr e) y = or_right _ _ (ap f (sym e) ∙ y)

  module _ (a b c d : ℤ) (k : Point) where
    abbrev value : Point → ℤ
    value = first_degree a b c d

    to_far : at_corner h k (λ q. le_z (pos 0) (value q)) ≡ true → le_z (pos 0) (value (far_corner a b c h k)) ≡ true
    to_far e =
        let ax = at_of k.x (λ x. at_end h k.y (λ y. at_end h k.z (λ z. le_z (pos 0) (value (record { x = x; y = y; z = z }))))) e in
        let ay = at_of k.y (λ y. at_end h k.z (λ z. le_z (pos 0) (value (record { x = ax.q; y = y; z = z })))) ax.so in
        let az = at_of k.z (λ z. le_z (pos 0) (value (record { x = ax.q; y = ay.q; z = z }))) ay.so in
        le_true _ _ (rise _ _ _ d _ _ _ (far_most a k.x ax.q ax.is) (far_most b k.y ay.q ay.is) (far_most c k.z az.q az.is) (le_of _ _ az.so))
      where
        rise : (a b c d a' b' c' : ℤ) → a ≤ℤ a' → b ≤ℤ b' → c ≤ℤ c' → pos 0 ≤ℤ (a +ℤ b +ℤ c +ℤ d) → pos 0 ≤ℤ (a' +ℤ b' +ℤ c' +ℤ d)
        rise a b c d a' b' c' p q r s = omega (arith, ints)

    of_far : le_z (pos 0) (value (far_corner a b c h k)) ≡ true → at_corner h k (λ q. le_z (pos 0) (value q)) ≡ true
    of_far e =
        end_at k.x (λ x. at_end h k.y (λ y. at_end h k.z (λ z. le_z (pos 0) (value (record { x = x; y = y; z = z }))))) (far_end a h k.x) (far_is a k.x)
        (end_at k.y (λ y. at_end h k.z (λ z. le_z (pos 0) (value (record { x = far_end a h k.x; y = y; z = z })))) (far_end b h k.y) (far_is b k.y)
        (end_at k.z (λ z. le_z (pos 0) (value (record { x = far_end a h k.x; y = far_end b h k.y; z = z }))) (far_end c h k.z) (far_is c k.z) e))

    -- one test, at the corner that the signs of a, b and c pick, tells whether some corner passes
    corner_is : at_corner h k (λ q. le_z (pos 0) (value q)) ≡ le_z (pos 0) (value (far_corner a b c h k))
    corner_is = same_test _ _ to_far of_far

    -- the same of a value that is of the first degree
    pub corner_tells : (f : Point → ℤ) → ((q : Point) → f q ≡ value q) → at_corner h k (λ q. le_z (pos 0) (f q)) ≡ le_z (pos 0) (f (far_corner a b c h k))
    corner_tells f e =
        at_corner_same h k (λ q. le_z (pos 0) (f q)) (λ q. le_z (pos 0) (value q)) (λ q. ap (le_z (pos 0)) (e q)) ∙ corner_is
        ∙ ap (le_z (pos 0)) (sym (e (far_corner a b c h k)))

  -- ---- the plane of a triangle

  module _ (t : Triangle) (k : Point) where
    abbrev n : Point
    n = normal_of t

    abbrev far : ℤ
    far = n.x *ℤ t.v0.x +ℤ n.y *ℤ t.v0.y +ℤ n.z *ℤ t.v0.z

    plane_is : (q : Point) → plane q t ≡ first_degree n.x n.y n.z (pos 0 -ℤ far) q
    unfolding plane
    plane_is q =
        ring (n.x ∷ n.y ∷ n.z ∷ q.x ∷ q.y ∷ q.z ∷ t.v0.x ∷ t.v0.y ∷ t.v0.z ∷ [])
        (var 0 ⊗ (var 3 ⊖ var 6) ⊕ var 1 ⊗ (var 4 ⊖ var 7) ⊕ var 2 ⊗ (var 5 ⊖ var 8))
        (var 0 ⊗ var 3 ⊕ var 1 ⊗ var 4 ⊕ var 2 ⊗ var 5 ⊕ (num (pos 0) ⊖ (var 0 ⊗ var 6 ⊕ var 1 ⊗ var 7 ⊕ var 2 ⊗ var 8))) refl

    minus_plane_is : (q : Point) → pos 0 -ℤ plane q t ≡ first_degree (pos 0 -ℤ n.x) (pos 0 -ℤ n.y) (pos 0 -ℤ n.z) far q
    minus_plane_is q =
        ap (λ v. pos 0 -ℤ v) (plane_is q)
        ∙ ring (n.x ∷ n.y ∷ n.z ∷ q.x ∷ q.y ∷ q.z ∷ far ∷ [])
        (num (pos 0) ⊖ (var 0 ⊗ var 3 ⊕ var 1 ⊗ var 4 ⊕ var 2 ⊗ var 5 ⊕ (num (pos 0) ⊖ var 6)))
        ((num (pos 0) ⊖ var 0) ⊗ var 3 ⊕ (num (pos 0) ⊖ var 1) ⊗ var 4 ⊕ (num (pos 0) ⊖ var 2) ⊗ var 5 ⊕ var 6) refl

    pub plane_greatest : at_corner h k (λ q. le_z (pos 0) (plane q t)) ≡ le_z (pos 0) (plane (far_corner n.x n.y n.z h k) t)
    plane_greatest = corner_tells n.x n.y n.z (pos 0 -ℤ far) k (λ q. plane q t) plane_is

    pub plane_least : at_corner h k (λ q. le_z (plane q t) (pos 0)) ≡ le_z (plane (corner_of h k (le_z n.x (pos 0)) (le_z n.y (pos 0)) (le_z n.z (pos 0))) t) (pos 0)
    plane_least =
        at_corner_same h k (λ q. le_z (plane q t) (pos 0)) (λ q. le_z (pos 0) (pos 0 -ℤ plane q t)) (λ q. turn (plane q t))
        ∙ corner_tells (pos 0 -ℤ n.x) (pos 0 -ℤ n.y) (pos 0 -ℤ n.z) far k (λ q. pos 0 -ℤ plane q t) minus_plane_is
        ∙ sym (turn (plane (far_corner (pos 0 -ℤ n.x) (pos 0 -ℤ n.y) (pos 0 -ℤ n.z) h k) t))
        ∙ picked (turn n.x) (turn n.y) (turn n.z)
      where
        turn : (a : ℤ) → le_z a (pos 0) ≡ le_z (pos 0) (pos 0 -ℤ a)
        turn a = grind (arith, ints)

        picked : {a b c a' b' c' : Bool} → a ≡ a' → b ≡ b' → c ≡ c'
            → le_z (plane (corner_of h k a' b' c') t) (pos 0) ≡ le_z (plane (corner_of h k a b c) t) (pos 0)
        picked e f g = cc

  -- ---- a side, seen along an axis

  module _ (n : ℤ) (u v k : Point) where
    abbrev s : ℤ
    s = sign n

    -- the side's value at a point that is seen as (qa, qb), as an expression in which it is of the first degree
    spread : (s ua ub va vb qa qb : ℤ) → s *ℤ ((va -ℤ ua) *ℤ (qb -ℤ ub) -ℤ (vb -ℤ ub) *ℤ (qa -ℤ ua))
        ≡ (s *ℤ (ub -ℤ vb)) *ℤ qa +ℤ (s *ℤ (va -ℤ ua)) *ℤ qb +ℤ s *ℤ ((vb -ℤ ub) *ℤ ua -ℤ (va -ℤ ua) *ℤ ub)
    spread s ua ub va vb qa qb =
        ring (s ∷ ua ∷ ub ∷ va ∷ vb ∷ qa ∷ qb ∷ [])
        (var 0 ⊗ ((var 3 ⊖ var 1) ⊗ (var 6 ⊖ var 2) ⊖ (var 4 ⊖ var 2) ⊗ (var 5 ⊖ var 1)))
        ((var 0 ⊗ (var 2 ⊖ var 4)) ⊗ var 5 ⊕ (var 0 ⊗ (var 3 ⊖ var 1)) ⊗ var 6 ⊕ var 0 ⊗ ((var 4 ⊖ var 2) ⊗ var 1 ⊖ (var 3 ⊖ var 1) ⊗ var 2)) refl

    in_x : (a b c d x : ℤ) → a ≡ b +ℤ c +ℤ d → a ≡ pos 0 *ℤ x +ℤ b +ℤ c +ℤ d
    in_x a b c d x e = omega (arith, ints)

    in_y : (a b c d x : ℤ) → a ≡ b +ℤ c +ℤ d → a ≡ c +ℤ pos 0 *ℤ x +ℤ b +ℤ d
    in_y a b c d x e = omega (arith, ints)

    in_z : (a b c d x : ℤ) → a ≡ b +ℤ c +ℤ d → a ≡ b +ℤ c +ℤ pos 0 *ℤ x +ℤ d
    in_z a b c d x e = omega (arith, ints)

    -- the corner farthest to the inner side decides
    pub beside_far : (axis : Axis) → beside_side (first_of axis) (second_of axis) n u v h k
        ≡ le_z (pos 0) (s *ℤ flat_edge (first_of axis u) (second_of axis u) (first_of axis v) (second_of axis v)
        (far_end (s *ℤ (second_of axis u -ℤ second_of axis v)) h (first_of axis k)) (far_end (s *ℤ (first_of axis v -ℤ first_of axis u)) h (second_of axis k)))
    unfolding edge flat_edge ◌·◌
    beside_far X =
        corner_tells (pos 0) (s *ℤ (u.z -ℤ v.z)) (s *ℤ (v.y -ℤ u.y)) (s *ℤ ((v.z -ℤ u.z) *ℤ u.y -ℤ (v.y -ℤ u.y) *ℤ u.z)) k
        (λ q. s *ℤ edge (λ p. p.y) (λ p. p.z) u v q) (λ q. in_x (s *ℤ edge (λ p. p.y) (λ p. p.z) u v q) ((s *ℤ (u.z -ℤ v.z)) *ℤ q.y) ((s *ℤ (v.y -ℤ u.y)) *ℤ q.z) (s *ℤ ((v.z -ℤ u.z) *ℤ u.y -ℤ (v.y -ℤ u.y) *ℤ u.z)) q.x (spread s u.y u.z v.y v.z q.y q.z))
    beside_far Y =
        corner_tells (s *ℤ (v.z -ℤ u.z)) (pos 0) (s *ℤ (u.x -ℤ v.x)) (s *ℤ ((v.x -ℤ u.x) *ℤ u.z -ℤ (v.z -ℤ u.z) *ℤ u.x)) k
        (λ q. s *ℤ edge (λ p. p.z) (λ p. p.x) u v q) (λ q. in_y (s *ℤ edge (λ p. p.z) (λ p. p.x) u v q) ((s *ℤ (u.x -ℤ v.x)) *ℤ q.z) ((s *ℤ (v.z -ℤ u.z)) *ℤ q.x) (s *ℤ ((v.x -ℤ u.x) *ℤ u.z -ℤ (v.z -ℤ u.z) *ℤ u.x)) q.y (spread s u.z u.x v.z v.x q.z q.x))
    beside_far Z =
        corner_tells (s *ℤ (u.y -ℤ v.y)) (s *ℤ (v.x -ℤ u.x)) (pos 0) (s *ℤ ((v.y -ℤ u.y) *ℤ u.x -ℤ (v.x -ℤ u.x) *ℤ u.y)) k
        (λ q. s *ℤ edge (λ p. p.x) (λ p. p.y) u v q) (λ q. in_z (s *ℤ edge (λ p. p.x) (λ p. p.y) u v q) ((s *ℤ (u.y -ℤ v.y)) *ℤ q.x) ((s *ℤ (v.x -ℤ u.x)) *ℤ q.y) (s *ℤ ((v.y -ℤ u.y) *ℤ u.x -ℤ (v.x -ℤ u.x) *ℤ u.y)) q.z (spread s u.x u.y v.x v.y q.x q.y))
