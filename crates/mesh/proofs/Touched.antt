-- Touched cells are thick: a triangle with a point in a closed cell makes it thick. Each test of `thick` asks that something of the first
-- degree be not negative at some corner of the cell; at the point it is not negative, and from there it is greatest at a corner.
use Rattle.std.proofs.Common.{◌≡◌, Bool, true, ◌⊎◌, [], ◌∷◌, ℤ, pos, ◌+ℤ◌, ◌-ℤ◌, ◌*ℤ◌, ◌≤ℤ◌, ◌<ℤ◌, sym, refl, ap, ◌∙◌, subst, inl, inr, arith}
use Rattle.std.proofs.lemmas.Int.{ints, by_lt_z}
use lib.Signed.{le_z}
use Rattle.algebra.proofs.Ring.{var, ◌⊕◌, ◌⊖◌, ◌⊗◌, ring}
use Rattle.algebra.proofs.Order.{gap, of_gap, plus_nonneg, mul_nonneg, nonneg_of_mul}
use Rattle.std.proofs.lemmas.Bool.{or_left, or_right}
use Rattle.algebra.proofs.Tests.{le_true, both}
use Rattle.geometry.specs.declared.mesh.Point.{Point}
use Rattle.geometry.specs.declared.mesh.Triangle.{Triangle}
use Rattle.geometry.specs.Geometry.{normal_of, edge, plane}
use Rattle.geometry.specs.Cells.{low, high, sign, at_end, at_corner, at_tip, reaches, beside_side, beside, thick}
use Rattle.mesh.specs.Means.{Weights, total, mean, Between, Touches}
use Rattle.mesh.proofs.Exprs.{Zero, One}
use Rattle.mesh.proofs.Means.{mean_less, plane_mean}
use Rattle.mesh.proofs.Origin.{origin}
use Rattle.mesh.proofs.Sides.{area_of, edge_mean, edge01_some, edge12_some, edge20_some}

-- ---- the extent

module _ (f : Point → ℤ) (w : Weights) (t : Triangle) where
  mean_some : {u v x : ℤ} → pos 0 ≤ℤ u → pos 0 ≤ℤ v → pos 0 ≤ℤ x → pos 0 ≤ℤ (w.a *ℤ u +ℤ w.b *ℤ v +ℤ w.c *ℤ x)
  mean_some p q r =
      plus_nonneg _ _
      (plus_nonneg _ _ (mul_nonneg w.a _ w.a_some p) (mul_nonneg w.b _ w.b_some q)) (mul_nonneg w.c _ w.c_some r)

  -- where f is at least b at each corner, so is its mean
  mean_least : (b : ℤ) → b ≤ℤ f t.v0 → b ≤ℤ f t.v1 → b ≤ℤ f t.v2 → (total w *ℤ b) ≤ℤ mean f w t
  mean_least b p q r =
      of_gap _ _ (subst (λ x. pos 0 ≤ℤ x) (mean_less w (f t.v0) (f t.v1) (f t.v2) b) (mean_some (gap _ _ p) (gap _ _ q) (gap _ _ r)))

  mean_most : (b : ℤ) → f t.v0 ≤ℤ b → f t.v1 ≤ℤ b → f t.v2 ≤ℤ b → mean f w t ≤ℤ (total w *ℤ b)
  mean_most b p q r =
      of_gap _ _ (subst (λ x. pos 0 ≤ℤ x)
      (ring (w.a ∷ w.b ∷ w.c ∷ f t.v0 ∷ f t.v1 ∷ f t.v2 ∷ b ∷ [])
      (var 0 ⊗ (var 6 ⊖ var 3) ⊕ var 1 ⊗ (var 6 ⊖ var 4) ⊕ var 2 ⊗ (var 6 ⊖ var 5))
      ((var 0 ⊕ var 1 ⊕ var 2) ⊗ var 6 ⊖ (var 0 ⊗ var 3 ⊕ var 1 ⊗ var 4 ⊕ var 2 ⊗ var 5)) refl)
      (mean_some (gap _ _ p) (gap _ _ q) (gap _ _ r)))

  -- a mean that is at most hi has a corner that is, and so for lo
  tip_below : (hi : ℤ) → mean f w t ≤ℤ (total w *ℤ hi) → at_tip (λ v. le_z (f v) hi) t ≡ true
  tip_below hi m =
      by_lt_z hi (f t.v0)
      (λ p. by_lt_z hi (f t.v1)
      (λ q. by_lt_z hi (f t.v2)
      (λ r. absurd (past _ _ _ _ w.not_none m (mean_least (hi +ℤ pos 1) (next _ _ p) (next _ _ q) (next _ _ r))
      (ring (total w ∷ hi ∷ []) (var 0 ⊗ (var 1 ⊕ One)) (var 0 ⊗ var 1 ⊕ var 0) refl)))
      (λ r. or_right _ _ (le_true _ _ r)))
      (λ q. or_left _ _ (or_right _ _ (le_true _ _ q))))
      (λ p. or_left _ _ (or_left _ _ (le_true _ _ p)))
    where
      next : (a b : ℤ) → a <ℤ b → (a +ℤ pos 1) ≤ℤ b
      next a b h = omega (arith, ints)

      past : (T m k l : ℤ) → pos 0 <ℤ T → m ≤ℤ k → l ≤ℤ m → l ≡ k +ℤ T → ⊥
      past T m k l h i j e = omega (arith, ints)

  tip_above : (lo : ℤ) → (total w *ℤ lo) ≤ℤ mean f w t → at_tip (λ v. le_z lo (f v)) t ≡ true
  tip_above lo m =
      by_lt_z (f t.v0) lo
      (λ p. by_lt_z (f t.v1) lo
      (λ q. by_lt_z (f t.v2) lo
      (λ r. absurd (past _ _ _ _ w.not_none m (mean_most (lo -ℤ pos 1) (next _ _ p) (next _ _ q) (next _ _ r))
      (ring (total w ∷ lo ∷ []) (var 0 ⊗ (var 1 ⊖ One)) (var 0 ⊗ var 1 ⊖ var 0) refl)))
      (λ r. or_right _ _ (le_true _ _ r)))
      (λ q. or_left _ _ (or_right _ _ (le_true _ _ q))))
      (λ p. or_left _ _ (or_left _ _ (le_true _ _ p)))
    where
      next : (a b : ℤ) → a <ℤ b → a ≤ℤ (b -ℤ pos 1)
      next a b h = omega (arith, ints)

      past : (T m k l : ℤ) → pos 0 <ℤ T → k ≤ℤ m → m ≤ℤ l → l ≡ k -ℤ T → ⊥
      past T m k l h i j e = omega (arith, ints)

  spans : (h k : ℤ) → Between f (low h k) (high h k) w t → reaches f h k t ≡ true
  spans h k b = both (tip_below (high h k) b.high) (tip_above (low h k) b.low)

-- ---- an expression of the first degree that is not negative at a point of the cell is not negative at a corner

-- the end of the span where A times it is greatest
record End (lo hi A T m : ℤ) : Type 0 where
  at : ℤ
  is : (at ≡ lo) ⊎ (at ≡ hi)
  up : (A *ℤ m) ≤ℤ (A *ℤ (T *ℤ at))

greatest : (lo hi A T m : ℤ) → (T *ℤ lo) ≤ℤ m → m ≤ℤ (T *ℤ hi) → End lo hi A T m
greatest lo hi A T m l g =
    by_lt_z A (pos 0)
    (λ n. record {
      at = lo;
      is = inl refl;
      up =
          of_gap _ _ (subst (λ x. pos 0 ≤ℤ x)
          (ring (A ∷ m ∷ (T *ℤ lo) ∷ []) ((Zero ⊖ var 0) ⊗ (var 1 ⊖ var 2)) (var 0 ⊗ var 2 ⊖ var 0 ⊗ var 1) refl)
          (mul_nonneg (pos 0 -ℤ A) (m -ℤ T *ℤ lo) (neg A n) (gap _ _ l)));
    })
    (λ p. record {
      at = hi;
      is = inr refl;
      up =
          of_gap _ _ (subst (λ x. pos 0 ≤ℤ x)
          (ring (A ∷ m ∷ (T *ℤ hi) ∷ []) (var 0 ⊗ (var 2 ⊖ var 1)) (var 0 ⊗ var 2 ⊖ var 0 ⊗ var 1) refl)
          (mul_nonneg A (T *ℤ hi -ℤ m) p (gap _ _ g)));
    })
  where
    neg : (a : ℤ) → a <ℤ pos 0 → pos 0 ≤ℤ (pos 0 -ℤ a)
    neg a h = omega (arith, ints)

end_so : (h k : ℤ) (f : ℤ → Bool) {q : ℤ} → (q ≡ low h k) ⊎ (q ≡ high h k) → f q ≡ true → at_end h k f ≡ true
end_so h k f (inl e) y = or_left _ _ (ap f (sym e) ∙ y)
end_so h k f (inr e) y = or_right _ _ (ap f (sym e) ∙ y)

module _ (h : ℤ) (k : Point) (t : Triangle) (to : Touches h k t) where
  abbrev W : Weights
  W = to.w

  abbrev T : ℤ
  T = total W

  abbrev mx : ℤ
  mx = mean (λ p. p.x) W t

  abbrev my : ℤ
  my = mean (λ p. p.y) W t

  abbrev mz : ℤ
  mz = mean (λ p. p.z) W t

  corner : (A B C D : ℤ) (test : Point → Bool)
      → ((q : Point) → pos 0 ≤ℤ (A *ℤ q.x +ℤ B *ℤ q.y +ℤ C *ℤ q.z +ℤ D) → test q ≡ true)
      → pos 0 ≤ℤ (A *ℤ mx +ℤ B *ℤ my +ℤ C *ℤ mz +ℤ D *ℤ T) → at_corner h k test ≡ true
  corner A B C D test ok some =
      let ex = greatest (low h k.x) (high h k.x) A T mx to.in_x.low to.in_x.high in
      let ey = greatest (low h k.y) (high h k.y) B T my to.in_y.low to.in_y.high in
      let ez = greatest (low h k.z) (high h k.z) C T mz to.in_z.low to.in_z.high in
      end_so h k.x (λ x. at_end h k.y (λ y. at_end h k.z (λ z. test (record { x = x; y = y; z = z })))) ex.is
      (end_so h k.y (λ y. at_end h k.z (λ z. test (record { x = ex.at; y = y; z = z }))) ey.is
      (end_so h k.z (λ z. test (record { x = ex.at; y = ey.at; z = z })) ez.is
      (ok (record { x = ex.at; y = ey.at; z = ez.at })
      (nonneg_of_mul _ T W.not_none
      (subst (λ x. pos 0 ≤ℤ x)
      (ring (A ∷ B ∷ C ∷ D ∷ T ∷ ex.at ∷ ey.at ∷ ez.at ∷ [])
      (var 0 ⊗ (var 4 ⊗ var 5) ⊕ var 1 ⊗ (var 4 ⊗ var 6) ⊕ var 2 ⊗ (var 4 ⊗ var 7) ⊕ var 3 ⊗ var 4)
      ((var 0 ⊗ var 5 ⊕ var 1 ⊗ var 6 ⊕ var 2 ⊗ var 7 ⊕ var 3) ⊗ var 4) refl)
      (rise _ _ _ _ _ _ _ ex.up ey.up ez.up some))))))
    where
      rise : (a b c d a' b' c' : ℤ) → a ≤ℤ a' → b ≤ℤ b' → c ≤ℤ c' → pos 0 ≤ℤ (a +ℤ b +ℤ c +ℤ d) → pos 0 ≤ℤ (a' +ℤ b' +ℤ c' +ℤ d)
      rise a b c d a' b' c' p q r s = omega (arith, ints)

  -- ---- the plane

  abbrev nx : ℤ
  nx = (normal_of t).x

  abbrev ny : ℤ
  ny = (normal_of t).y

  abbrev nz : ℤ
  nz = (normal_of t).z

  abbrev far : ℤ
  far = nx *ℤ t.v0.x +ℤ ny *ℤ t.v0.y +ℤ nz *ℤ t.v0.z

  plane_is : (q : Point) → plane q t ≡ nx *ℤ q.x +ℤ ny *ℤ q.y +ℤ nz *ℤ q.z +ℤ (pos 0 -ℤ far)
  unfolding plane
  plane_is q =
      ring (nx ∷ ny ∷ nz ∷ q.x ∷ q.y ∷ q.z ∷ t.v0.x ∷ t.v0.y ∷ t.v0.z ∷ [])
      (var 0 ⊗ (var 3 ⊖ var 6) ⊕ var 1 ⊗ (var 4 ⊖ var 7) ⊕ var 2 ⊗ (var 5 ⊖ var 8))
      (var 0 ⊗ var 3 ⊕ var 1 ⊗ var 4 ⊕ var 2 ⊗ var 5 ⊕ (Zero ⊖ (var 0 ⊗ var 6 ⊕ var 1 ⊗ var 7 ⊕ var 2 ⊗ var 8))) refl

  -- the mean of the corners lies on the plane
  on_plane : nx *ℤ mx +ℤ ny *ℤ my +ℤ nz *ℤ mz +ℤ (pos 0 -ℤ far) *ℤ T ≡ pos 0
  on_plane =
      let R = nx *ℤ (T *ℤ pos 0 -ℤ mx) +ℤ ny *ℤ (T *ℤ pos 0 -ℤ my) +ℤ nz *ℤ (T *ℤ pos 0 -ℤ mz) in
      let NX = var 0 in let NY = var 1 in let NZ = var 2 in let MX = var 3 in let MY = var 4 in let MZ = var 5 in
      let F = var 6 in let TT = var 7 in
      ring (nx ∷ ny ∷ nz ∷ mx ∷ my ∷ mz ∷ far ∷ T ∷ [])
      (NX ⊗ MX ⊕ NY ⊗ MY ⊕ NZ ⊗ MZ ⊕ (Zero ⊖ F) ⊗ TT)
      ((NX ⊗ Zero ⊕ NY ⊗ Zero ⊕ NZ ⊗ Zero ⊕ (Zero ⊖ F)) ⊗ TT
      ⊖ (NX ⊗ (TT ⊗ Zero ⊖ MX) ⊕ NY ⊗ (TT ⊗ Zero ⊖ MY) ⊕ NZ ⊗ (TT ⊗ Zero ⊖ MZ))) refl
      ∙ ap (λ x. x -ℤ R) (ap (λ x. x *ℤ T) (sym (plane_is origin)) ∙ plane_mean W t origin)
      ∙ ring (R ∷ []) (var 0 ⊖ var 0) Zero refl

  plane_above : at_corner h k (λ q. le_z (pos 0) (plane q t)) ≡ true
  plane_above =
      corner nx ny nz (pos 0 -ℤ far) (λ q. le_z (pos 0) (plane q t))
      (λ q p. le_true _ _ (subst (λ x. pos 0 ≤ℤ x) (sym (plane_is q)) p))
      (level _ on_plane)
    where
      level : (a : ℤ) → a ≡ pos 0 → pos 0 ≤ℤ a
      level a e = omega (arith, ints)

  plane_below : at_corner h k (λ q. le_z (plane q t) (pos 0)) ≡ true
  plane_below =
      corner (pos 0 -ℤ nx) (pos 0 -ℤ ny) (pos 0 -ℤ nz) far (λ q. le_z (plane q t) (pos 0))
      (λ q p. le_true _ _ (under _ _ (plane_is q)
      (ring (nx ∷ ny ∷ nz ∷ q.x ∷ q.y ∷ q.z ∷ far ∷ [])
      (var 0 ⊗ var 3 ⊕ var 1 ⊗ var 4 ⊕ var 2 ⊗ var 5 ⊕ (Zero ⊖ var 6))
      (Zero ⊖ ((Zero ⊖ var 0) ⊗ var 3 ⊕ (Zero ⊖ var 1) ⊗ var 4 ⊕ (Zero ⊖ var 2) ⊗ var 5 ⊕ var 6)) refl) p))
      (level _ _ on_plane
      (ring (nx ∷ ny ∷ nz ∷ mx ∷ my ∷ mz ∷ far ∷ T ∷ [])
      (var 0 ⊗ var 3 ⊕ var 1 ⊗ var 4 ⊕ var 2 ⊗ var 5 ⊕ (Zero ⊖ var 6) ⊗ var 7)
      (Zero ⊖ ((Zero ⊖ var 0) ⊗ var 3 ⊕ (Zero ⊖ var 1) ⊗ var 4 ⊕ (Zero ⊖ var 2) ⊗ var 5 ⊕ var 6 ⊗ var 7)) refl))
    where
      level : (a b : ℤ) → a ≡ pos 0 → a ≡ pos 0 -ℤ b → pos 0 ≤ℤ b
      level a b e f = omega (arith, ints)

      under : (a b : ℤ) {c : ℤ} → a ≡ c → c ≡ pos 0 -ℤ b → pos 0 ≤ℤ b → a ≤ℤ pos 0
      under a b {c} e f g = omega (arith, ints)

  -- ---- the sides, seen along each axis

  same : {a b : ℤ} → a ≡ b → pos 0 ≤ℤ a → pos 0 ≤ℤ b
  same e p = subst (λ x. pos 0 ≤ℤ x) e p

  side_xy : (n : ℤ) (u v : Point) → pos 0 ≤ℤ (sign n *ℤ edge_mean (λ p. p.x) (λ p. p.y) u v W t)
      → beside_side (λ p. p.x) (λ p. p.y) n u v h k ≡ true
  unfolding edge
  side_xy n u v i =
      let s = sign n in let dx = v.x -ℤ u.x in let dy = v.y -ℤ u.y in
      let S = var 0 in let DX = var 1 in let DY = var 2 in let UX = var 3 in let UY = var 4 in
      let X = var 5 in let Y = var 6 in let Z = var 7 in let TT = var 8 in
      corner (s *ℤ (pos 0 -ℤ dy)) (s *ℤ dx) (pos 0) (s *ℤ (dy *ℤ u.x -ℤ dx *ℤ u.y)) _
      (λ c j. le_true _ _ (same
      (ring (s ∷ dx ∷ dy ∷ u.x ∷ u.y ∷ c.x ∷ c.y ∷ c.z ∷ [])
      ((S ⊗ (Zero ⊖ DY)) ⊗ X ⊕ (S ⊗ DX) ⊗ Y ⊕ Zero ⊗ Z ⊕ S ⊗ (DY ⊗ UX ⊖ DX ⊗ UY))
      (S ⊗ (DX ⊗ (Y ⊖ UY) ⊖ DY ⊗ (X ⊖ UX))) refl) j))
      (same
      (ring (s ∷ dx ∷ dy ∷ u.x ∷ u.y ∷ mx ∷ my ∷ mz ∷ T ∷ [])
      (S ⊗ (DX ⊗ (Y ⊖ TT ⊗ UY) ⊖ DY ⊗ (X ⊖ TT ⊗ UX)))
      ((S ⊗ (Zero ⊖ DY)) ⊗ X ⊕ (S ⊗ DX) ⊗ Y ⊕ Zero ⊗ Z ⊕ (S ⊗ (DY ⊗ UX ⊖ DX ⊗ UY)) ⊗ TT) refl) i)

  side_yz : (n : ℤ) (u v : Point) → pos 0 ≤ℤ (sign n *ℤ edge_mean (λ p. p.y) (λ p. p.z) u v W t)
      → beside_side (λ p. p.y) (λ p. p.z) n u v h k ≡ true
  unfolding edge
  side_yz n u v i =
      let s = sign n in let dy = v.y -ℤ u.y in let dz = v.z -ℤ u.z in
      let S = var 0 in let DY = var 1 in let DZ = var 2 in let UY = var 3 in let UZ = var 4 in
      let X = var 5 in let Y = var 6 in let Z = var 7 in let TT = var 8 in
      corner (pos 0) (s *ℤ (pos 0 -ℤ dz)) (s *ℤ dy) (s *ℤ (dz *ℤ u.y -ℤ dy *ℤ u.z)) _
      (λ c j. le_true _ _ (same
      (ring (s ∷ dy ∷ dz ∷ u.y ∷ u.z ∷ c.x ∷ c.y ∷ c.z ∷ [])
      (Zero ⊗ X ⊕ (S ⊗ (Zero ⊖ DZ)) ⊗ Y ⊕ (S ⊗ DY) ⊗ Z ⊕ S ⊗ (DZ ⊗ UY ⊖ DY ⊗ UZ))
      (S ⊗ (DY ⊗ (Z ⊖ UZ) ⊖ DZ ⊗ (Y ⊖ UY))) refl) j))
      (same
      (ring (s ∷ dy ∷ dz ∷ u.y ∷ u.z ∷ mx ∷ my ∷ mz ∷ T ∷ [])
      (S ⊗ (DY ⊗ (Z ⊖ TT ⊗ UZ) ⊖ DZ ⊗ (Y ⊖ TT ⊗ UY)))
      (Zero ⊗ X ⊕ (S ⊗ (Zero ⊖ DZ)) ⊗ Y ⊕ (S ⊗ DY) ⊗ Z ⊕ (S ⊗ (DZ ⊗ UY ⊖ DY ⊗ UZ)) ⊗ TT) refl) i)

  side_zx : (n : ℤ) (u v : Point) → pos 0 ≤ℤ (sign n *ℤ edge_mean (λ p. p.z) (λ p. p.x) u v W t)
      → beside_side (λ p. p.z) (λ p. p.x) n u v h k ≡ true
  unfolding edge
  side_zx n u v i =
      let s = sign n in let dz = v.z -ℤ u.z in let dx = v.x -ℤ u.x in
      let S = var 0 in let DZ = var 1 in let DX = var 2 in let UZ = var 3 in let UX = var 4 in
      let X = var 5 in let Y = var 6 in let Z = var 7 in let TT = var 8 in
      corner (s *ℤ dz) (pos 0) (s *ℤ (pos 0 -ℤ dx)) (s *ℤ (dx *ℤ u.z -ℤ dz *ℤ u.x)) _
      (λ c j. le_true _ _ (same
      (ring (s ∷ dz ∷ dx ∷ u.z ∷ u.x ∷ c.x ∷ c.y ∷ c.z ∷ [])
      ((S ⊗ DZ) ⊗ X ⊕ Zero ⊗ Y ⊕ (S ⊗ (Zero ⊖ DX)) ⊗ Z ⊕ S ⊗ (DX ⊗ UZ ⊖ DZ ⊗ UX))
      (S ⊗ (DZ ⊗ (X ⊖ UX) ⊖ DX ⊗ (Z ⊖ UZ))) refl) j))
      (same
      (ring (s ∷ dz ∷ dx ∷ u.z ∷ u.x ∷ mx ∷ my ∷ mz ∷ T ∷ [])
      (S ⊗ (DZ ⊗ (X ⊖ TT ⊗ UX) ⊖ DX ⊗ (Z ⊖ TT ⊗ UZ)))
      ((S ⊗ DZ) ⊗ X ⊕ Zero ⊗ Y ⊕ (S ⊗ (Zero ⊖ DX)) ⊗ Z ⊕ (S ⊗ (DX ⊗ UZ ⊖ DZ ⊗ UX)) ⊗ TT) refl) i)

  -- the three sides in the plane of a and b, where one can be told
  all_sides : (a b : Point → ℤ)
      → ((u v : Point) → pos 0 ≤ℤ (sign (area_of a b t) *ℤ edge_mean a b u v W t) → beside_side a b (area_of a b t) u v h k ≡ true)
      → beside a b (area_of a b t) h k t ≡ true
  all_sides a b one =
      both (both
      (one t.v0 t.v1 (edge01_some a b W t))
      (one t.v1 t.v2 (edge12_some a b W t)))
      (one t.v2 t.v0 (edge20_some a b W t))

  -- a triangle with a point in the cell makes it thick
  pub touched_thick : thick h k t ≡ true
  unfolding thick normal_of
  touched_thick =
      both (both (both (both
      (both (both
      (spans (λ p. p.x) W t h k.x to.in_x)
      (spans (λ p. p.y) W t h k.y to.in_y))
      (spans (λ p. p.z) W t h k.z to.in_z))
      (both plane_below plane_above))
      (all_sides (λ p. p.x) (λ p. p.y) (side_xy nz)))
      (all_sides (λ p. p.y) (λ p. p.z) (side_yz nx)))
      (all_sides (λ p. p.z) (λ p. p.x) (side_zx ny))
