-- Thin cells. On each axis the test `near` holds exactly if the normal is not 0 along the axis and a mean of the corners lies on the line
-- through q along it, at most h from q. So a triangle that makes a cell thin touches it, and makes it thick too.
use Rattle.std.proofs.Common.{◌≡◌, Bool, true, ◌||◌, ◌⊎◌, ◌↔◌, List, [], ◌∷◌, ℤ, pos, ◌+ℤ◌, ◌-ℤ◌, ◌*ℤ◌, ◌≤ℤ◌, ◌<ℤ◌, sym, refl, ap, ◌∙◌, subst, inl, inr, ⊎_elim, arith}
use Rattle.std.proofs.lemmas.Int.{ints}
use Rattle.algebra.proofs.Ring.{Expr, var, ◌⊕◌, ◌⊖◌, ◌⊗◌, ring}
use Rattle.algebra.proofs.Order.{nonneg_of_pos, gap, of_gap, mul_nonneg, nonneg_of_mul}
use Rattle.std.proofs.lemmas.Bool.{or_left, or_right, or_cases}
use Rattle.algebra.proofs.Tests.{le_true, le_of, both, and_split}
use Rattle.geometry.specs.declared.mesh.Point.{Point}
use Rattle.geometry.specs.declared.mesh.Triangle.{Triangle}
use Rattle.geometry.specs.Geometry.{normal_of, edge, plane}
use Rattle.geometry.specs.Cells.{low, high, middle, centre, sign, size, thick, within_side, near, thin}
use Rattle.mesh.specs.Means.{Weights, total, mean, Between, Touches, Near}
use Rattle.mesh.proofs.Exprs.{Zero, One, area_e, edge_e, mean_e, plane_e, V0, V1, V2, PT, corners, point}
use Rattle.mesh.proofs.Signs.{nonzero, nonzero_of, sign_twice, signed_most, signed_least, size_most, size_some, size_pos}
use Rattle.mesh.proofs.Means.{times_less, times_more, plane_mean}
use Rattle.mesh.proofs.Sides.{area_of, edge_mean, edge01_some, edge12_some, edge20_some}
use Rattle.mesh.proofs.Touched.{touched_thick}

-- ---- from weights to the test

module _ (a b c : Point → ℤ) (h : ℤ) (q : Point) (t : Triangle) (nr : Near a b c h q t) (turns : area_of a b t ≡ pos 0 → ⊥)
    (flat : plane q t *ℤ total nr.w ≡ area_of a b t *ℤ (total nr.w *ℤ c q -ℤ mean c nr.w t)) where
  abbrev W : Weights
  W = nr.w

  abbrev T : ℤ
  T = total W

  abbrev n : ℤ
  n = area_of a b t

  -- the way along c from the mean to q, times T
  abbrev D : ℤ
  D = T *ℤ c q -ℤ mean c W t

  edge_at : (u v : Point) → edge_mean a b u v W t ≡ edge a b u v q *ℤ T
  unfolding edge
  edge_at u v =
      ap (λ x. (a v -ℤ a u) *ℤ (x -ℤ T *ℤ b u) -ℤ (b v -ℤ b u) *ℤ (mean a W t -ℤ T *ℤ a u)) nr.on_b
      ∙ ap (λ x. (a v -ℤ a u) *ℤ (T *ℤ b q -ℤ T *ℤ b u) -ℤ (b v -ℤ b u) *ℤ (x -ℤ T *ℤ a u)) nr.on_a
      ∙ ring (a u ∷ b u ∷ a v ∷ b v ∷ a q ∷ b q ∷ T ∷ [])
      ((var 2 ⊖ var 0) ⊗ (var 6 ⊗ var 5 ⊖ var 6 ⊗ var 1) ⊖ (var 3 ⊖ var 1) ⊗ (var 6 ⊗ var 4 ⊖ var 6 ⊗ var 0))
      (edge_e (var 0) (var 1) (var 2) (var 3) (var 4) (var 5) ⊗ var 6) refl

  edge_on : (u v : Point) → pos 0 ≤ℤ (sign n *ℤ edge_mean a b u v W t) → within_side a b n u v q ≡ true
  edge_on u v i =
      le_true _ _ (nonneg_of_mul (sign n *ℤ edge a b u v q) T W.not_none
      (subst (λ x. pos 0 ≤ℤ x)
      (ap (λ x. sign n *ℤ x) (edge_at u v)
      ∙ ring (sign n ∷ edge a b u v q ∷ T ∷ []) (var 0 ⊗ (var 1 ⊗ var 2)) ((var 0 ⊗ var 1) ⊗ var 2) refl) i))

  -- the way is at most h, times T
  close : (D ≤ℤ (h *ℤ T)) × ((pos 0 -ℤ D) ≤ℤ (h *ℤ T))
  close = (
    less _ _ _ _ (times_less T (c q) h) nr.by_c.low,
    more _ _ _ _ (times_more T (c q) h) nr.by_c.high,
  )
    where
      less : (l k e m : ℤ) → l ≡ k -ℤ e → l ≤ℤ m → (k -ℤ m) ≤ℤ e
      less l k e m i j = omega (arith, ints)

      more : (l k e m : ℤ) → l ≡ k +ℤ e → m ≤ℤ l → (pos 0 -ℤ (k -ℤ m)) ≤ℤ e
      more l k e m i j = omega (arith, ints)

  -- n times D, by their sizes
  by_sizes : n *ℤ D ≡ size n *ℤ (sign n *ℤ D)
  by_sizes =
      ring (n ∷ D ∷ []) (var 0 ⊗ var 1) (One ⊗ (var 0 ⊗ var 1)) refl ∙ ap (λ x. x *ℤ (n *ℤ D)) (sym (sign_twice n))
      ∙ ring (sign n ∷ n ∷ D ∷ []) ((var 0 ⊗ var 0) ⊗ (var 1 ⊗ var 2)) ((var 0 ⊗ var 1) ⊗ (var 0 ⊗ var 2)) refl

  plane_high : plane q t ≤ℤ (h *ℤ size n)
  plane_high =
      of_gap _ _ (nonneg_of_mul (h *ℤ size n -ℤ plane q t) T W.not_none
      (subst (λ x. pos 0 ≤ℤ x)
      (ring (size n ∷ h ∷ T ∷ (sign n *ℤ D) ∷ [])
      (var 0 ⊗ (var 1 ⊗ var 2 ⊖ var 3)) (var 1 ⊗ var 0 ⊗ var 2 ⊖ var 0 ⊗ var 3) refl
      ∙ ap (λ x. h *ℤ size n *ℤ T -ℤ x) (sym (flat ∙ by_sizes))
      ∙ ring (size n ∷ h ∷ T ∷ plane q t ∷ [])
      (var 1 ⊗ var 0 ⊗ var 2 ⊖ var 3 ⊗ var 2) ((var 1 ⊗ var 0 ⊖ var 3) ⊗ var 2) refl)
      (mul_nonneg (size n) (h *ℤ T -ℤ sign n *ℤ D) (size_some n)
      (gap _ _ (signed_most n D (h *ℤ T) close.0 close.1)))))

  plane_low : (pos 0 -ℤ plane q t) ≤ℤ (h *ℤ size n)
  plane_low =
      of_gap _ _ (nonneg_of_mul (h *ℤ size n -ℤ (pos 0 -ℤ plane q t)) T W.not_none
      (subst (λ x. pos 0 ≤ℤ x)
      (ring (size n ∷ h ∷ T ∷ (sign n *ℤ D) ∷ [])
      (var 0 ⊗ (var 1 ⊗ var 2 ⊖ (Zero ⊖ var 3))) (var 1 ⊗ var 0 ⊗ var 2 ⊕ var 0 ⊗ var 3) refl
      ∙ ap (λ x. h *ℤ size n *ℤ T +ℤ x) (sym (flat ∙ by_sizes))
      ∙ ring (size n ∷ h ∷ T ∷ plane q t ∷ [])
      (var 1 ⊗ var 0 ⊗ var 2 ⊕ var 3 ⊗ var 2) ((var 1 ⊗ var 0 ⊖ (Zero ⊖ var 3)) ⊗ var 2) refl)
      (mul_nonneg (size n) (h *ℤ T -ℤ (pos 0 -ℤ sign n *ℤ D)) (size_some n)
      (gap _ _ (signed_least n D (h *ℤ T) close.0 close.1)))))

  near_so : near a b n h q t ≡ true
  near_so =
      both (both (both (both
      (nonzero n turns)
      (edge_on t.v0 t.v1 (edge01_some a b W t)))
      (edge_on t.v1 t.v2 (edge12_some a b W t)))
      (edge_on t.v2 t.v0 (edge20_some a b W t)))
      (le_true _ _ (signed_most (plane q t) (plane q t) (h *ℤ size n) plane_high plane_low))

-- two of the three terms of `plane_mean` fall away
gone : (n : ℤ) {k m : ℤ} → m ≡ k → n *ℤ (k -ℤ m) ≡ pos 0
gone n {k} e = ap (λ x. n *ℤ (k -ℤ x)) e ∙ ring (n ∷ k ∷ []) (var 0 ⊗ (var 1 ⊖ var 1)) Zero refl

left_x : (a b c : ℤ) → b ≡ pos 0 → c ≡ pos 0 → a +ℤ b +ℤ c ≡ a
left_x a b c e f = omega (arith, ints)

left_y : (a b c : ℤ) → a ≡ pos 0 → c ≡ pos 0 → a +ℤ b +ℤ c ≡ b
left_y a b c e f = omega (arith, ints)

left_z : (a b c : ℤ) → a ≡ pos 0 → b ≡ pos 0 → a +ℤ b +ℤ c ≡ c
left_z a b c e f = omega (arith, ints)

module _ (h : ℤ) (q : Point) (t : Triangle) where
  near_x : ((normal_of t).x ≡ pos 0 → ⊥) → Near (λ p. p.y) (λ p. p.z) (λ p. p.x) h q t
      → near (λ p. p.y) (λ p. p.z) (normal_of t).x h q t ≡ true
  unfolding normal_of
  near_x turns nr =
      near_so (λ p. p.y) (λ p. p.z) (λ p. p.x) h q t nr turns
      (plane_mean nr.w t q ∙ left_x _ _ _ (gone (normal_of t).y nr.on_a) (gone (normal_of t).z nr.on_b))

  near_y : ((normal_of t).y ≡ pos 0 → ⊥) → Near (λ p. p.z) (λ p. p.x) (λ p. p.y) h q t
      → near (λ p. p.z) (λ p. p.x) (normal_of t).y h q t ≡ true
  unfolding normal_of
  near_y turns nr =
      near_so (λ p. p.z) (λ p. p.x) (λ p. p.y) h q t nr turns
      (plane_mean nr.w t q ∙ left_y _ _ _ (gone (normal_of t).x nr.on_b) (gone (normal_of t).z nr.on_a))

  near_z : ((normal_of t).z ≡ pos 0 → ⊥) → Near (λ p. p.x) (λ p. p.y) (λ p. p.z) h q t
      → near (λ p. p.x) (λ p. p.y) (normal_of t).z h q t ≡ true
  unfolding normal_of
  near_z turns nr =
      near_so (λ p. p.x) (λ p. p.y) (λ p. p.z) h q t nr turns
      (plane_mean nr.w t q ∙ left_z _ _ _ (gone (normal_of t).x nr.on_a) (gone (normal_of t).y nr.on_b))

-- ---- from the test to weights

-- what the test says
record Parts (a b : Point → ℤ) (n h : ℤ) (q : Point) (t : Triangle) : Type 0 where
  turns : n ≡ pos 0 → ⊥
  some_c : pos 0 ≤ℤ (sign n *ℤ edge a b t.v0 t.v1 q)
  some_a : pos 0 ≤ℤ (sign n *ℤ edge a b t.v1 t.v2 q)
  some_b : pos 0 ≤ℤ (sign n *ℤ edge a b t.v2 t.v0 q)
  bound : size (plane q t) ≤ℤ (h *ℤ size n)

parts : (a b : Point → ℤ) (n h : ℤ) (q : Point) (t : Triangle) → near a b n h q t ≡ true → Parts a b n h q t
parts a b n h q t e =
    let e4 = and_split _ _ e in let e3 = and_split _ _ e4.0 in let e2 = and_split _ _ e3.0 in let e1 = and_split _ _ e2.0 in
    record {
      turns = nonzero_of n e1.0;
      some_c = le_of _ _ e1.1;
      some_a = le_of _ _ e2.1;
      some_b = le_of _ _ e3.1;
      bound = le_of _ _ e4.1;
    }

module _ (a b : Point → ℤ) (h : ℤ) (q : Point) (t : Triangle) (ps : Parts a b (area_of a b t) h q t) where
  abbrev s : ℤ
  s = sign (area_of a b t)

  abbrev vars : List ℤ
  vars = a t.v0 ∷ b t.v0 ∷ a t.v1 ∷ b t.v1 ∷ a t.v2 ∷ b t.v2 ∷ a q ∷ b q ∷ s ∷ []

  abbrev E12 : Expr
  E12 = var 8 ⊗ edge_e (var 2) (var 3) (var 4) (var 5) (var 6) (var 7)

  abbrev E20 : Expr
  E20 = var 8 ⊗ edge_e (var 4) (var 5) (var 0) (var 1) (var 6) (var 7)

  abbrev E01 : Expr
  E01 = var 8 ⊗ edge_e (var 0) (var 1) (var 2) (var 3) (var 6) (var 7)

  -- the three sides make the whole
  whole : s *ℤ edge a b t.v1 t.v2 q +ℤ s *ℤ edge a b t.v2 t.v0 q +ℤ s *ℤ edge a b t.v0 t.v1 q
      ≡ size (area_of a b t)
  unfolding edge
  whole = ring vars (E12 ⊕ E20 ⊕ E01) (var 8 ⊗ area_e (var 0) (var 1) (var 2) (var 3) (var 4) (var 5)) refl

  -- each corner has the side across for its weight
  abbrev across : Weights
  across = record {
    a = s *ℤ edge a b t.v1 t.v2 q;
    b = s *ℤ edge a b t.v2 t.v0 q;
    c = s *ℤ edge a b t.v0 t.v1 q;
    a_some = ps.some_a;
    b_some = ps.some_b;
    c_some = ps.some_c;
    not_none = subst (λ x. pos 0 <ℤ x) (sym whole) (size_pos (area_of a b t) ps.turns);
  }

  mean_a : mean a across t ≡ total across *ℤ a q
  unfolding edge
  mean_a = ring vars (mean_e E12 E20 E01 (var 0) (var 2) (var 4)) ((E12 ⊕ E20 ⊕ E01) ⊗ var 6) refl

  mean_b : mean b across t ≡ total across *ℤ b q
  unfolding edge
  mean_b = ring vars (mean_e E12 E20 E01 (var 1) (var 3) (var 5)) ((E12 ⊕ E20 ⊕ E01) ⊗ var 7) refl

  near_of : (c : Point → ℤ) → mean c across t ≡ total across *ℤ c q -ℤ s *ℤ plane q t → Near a b c h q t
  near_of c e =
      let k = h *ℤ size (area_of a b t) in
      let m = size_most (plane q t) k ps.bound in
      let up = signed_most (area_of a b t) (plane q t) k m.0 m.1 in
      let down = signed_least (area_of a b t) (plane q t) k m.0 m.1 in
      let T = total across in
      record {
        w = across;
        on_a = mean_a;
        on_b = mean_b;
        by_c = record {
          low = less _ _ _ _ _ (times_less T (c q) h ∙ ap (λ x. T *ℤ c q -ℤ h *ℤ x) whole) e up;
          high = more _ _ _ _ (s *ℤ plane q t) (times_more T (c q) h ∙ ap (λ x. T *ℤ c q +ℤ h *ℤ x) whole) e down;
        };
      }
    where
      less : (l k e m p : ℤ) → l ≡ k -ℤ e → m ≡ k -ℤ p → p ≤ℤ e → l ≤ℤ m
      less l k e m p i j o = omega (arith, ints)

      more : (l k e m p : ℤ) → l ≡ k +ℤ e → m ≡ k -ℤ p → (pos 0 -ℤ p) ≤ℤ e → m ≤ℤ l
      more l k e m p i j o = omega (arith, ints)

module _ (h : ℤ) (q : Point) (t : Triangle) where
  abbrev coords : ℤ → List ℤ
  coords s = corners t (point q (s ∷ []))

  of_near_x : near (λ p. p.y) (λ p. p.z) (normal_of t).x h q t ≡ true → Near (λ p. p.y) (λ p. p.z) (λ p. p.x) h q t
  unfolding normal_of plane edge
  of_near_x e =
      let E12 = var 12 ⊗ edge_e V1.y V1.z V2.y V2.z PT.y PT.z in
      let E20 = var 12 ⊗ edge_e V2.y V2.z V0.y V0.z PT.y PT.z in
      let E01 = var 12 ⊗ edge_e V0.y V0.z V1.y V1.z PT.y PT.z in
      near_of (λ p. p.y) (λ p. p.z) h q t (parts (λ p. p.y) (λ p. p.z) (normal_of t).x h q t e) (λ p. p.x)
      (ring (coords (sign (normal_of t).x))
      (mean_e E12 E20 E01 V0.x V1.x V2.x) ((E12 ⊕ E20 ⊕ E01) ⊗ PT.x ⊖ var 12 ⊗ plane_e PT V0 V1 V2) refl)

  of_near_y : near (λ p. p.z) (λ p. p.x) (normal_of t).y h q t ≡ true → Near (λ p. p.z) (λ p. p.x) (λ p. p.y) h q t
  unfolding normal_of plane edge
  of_near_y e =
      let E12 = var 12 ⊗ edge_e V1.z V1.x V2.z V2.x PT.z PT.x in
      let E20 = var 12 ⊗ edge_e V2.z V2.x V0.z V0.x PT.z PT.x in
      let E01 = var 12 ⊗ edge_e V0.z V0.x V1.z V1.x PT.z PT.x in
      near_of (λ p. p.z) (λ p. p.x) h q t (parts (λ p. p.z) (λ p. p.x) (normal_of t).y h q t e) (λ p. p.y)
      (ring (coords (sign (normal_of t).y))
      (mean_e E12 E20 E01 V0.y V1.y V2.y) ((E12 ⊕ E20 ⊕ E01) ⊗ PT.y ⊖ var 12 ⊗ plane_e PT V0 V1 V2) refl)

  of_near_z : near (λ p. p.x) (λ p. p.y) (normal_of t).z h q t ≡ true → Near (λ p. p.x) (λ p. p.y) (λ p. p.z) h q t
  unfolding normal_of plane edge
  of_near_z e =
      let E12 = var 12 ⊗ edge_e V1.x V1.y V2.x V2.y PT.x PT.y in
      let E20 = var 12 ⊗ edge_e V2.x V2.y V0.x V0.y PT.x PT.y in
      let E01 = var 12 ⊗ edge_e V0.x V0.y V1.x V1.y PT.x PT.y in
      near_of (λ p. p.x) (λ p. p.y) h q t (parts (λ p. p.x) (λ p. p.y) (normal_of t).z h q t e) (λ p. p.z)
      (ring (coords (sign (normal_of t).z))
      (mean_e E12 E20 E01 V0.z V1.z V2.z) ((E12 ⊕ E20 ⊕ E01) ⊗ PT.z ⊖ var 12 ⊗ plane_e PT V0 V1 V2) refl)

  -- the test holds exactly if the normal is not 0 along the axis and a mean of the corners lies on the line, at most h from q
  pub near_x_is : (near (λ p. p.y) (λ p. p.z) (normal_of t).x h q t ≡ true)
      ↔ (((normal_of t).x ≡ pos 0 → ⊥) × Near (λ p. p.y) (λ p. p.z) (λ p. p.x) h q t)
  near_x_is = (
    (λ e. ((parts (λ p. p.y) (λ p. p.z) (normal_of t).x h q t e).turns, of_near_x e)),
    (λ n. near_x h q t n.0 n.1),
  )

  pub near_y_is : (near (λ p. p.z) (λ p. p.x) (normal_of t).y h q t ≡ true)
      ↔ (((normal_of t).y ≡ pos 0 → ⊥) × Near (λ p. p.z) (λ p. p.x) (λ p. p.y) h q t)
  near_y_is = (
    (λ e. ((parts (λ p. p.z) (λ p. p.x) (normal_of t).y h q t e).turns, of_near_y e)),
    (λ n. near_y h q t n.0 n.1),
  )

  pub near_z_is : (near (λ p. p.x) (λ p. p.y) (normal_of t).z h q t ≡ true)
      ↔ (((normal_of t).z ≡ pos 0 → ⊥) × Near (λ p. p.x) (λ p. p.y) (λ p. p.z) h q t)
  near_z_is = (
    (λ e. ((parts (λ p. p.x) (λ p. p.y) (normal_of t).z h q t e).turns, of_near_z e)),
    (λ n. near_z h q t n.0 n.1),
  )

-- ---- thin, by any of the three axes

module _ (h : ℤ) (k : Point) (t : Triangle) where
  abbrev x_near : Bool
  x_near = near (λ p. p.y) (λ p. p.z) (normal_of t).x h (centre h k) t

  abbrev y_near : Bool
  y_near = near (λ p. p.z) (λ p. p.x) (normal_of t).y h (centre h k) t

  abbrev z_near : Bool
  z_near = near (λ p. p.x) (λ p. p.y) (normal_of t).z h (centre h k) t

  pub thin_by_x : ((normal_of t).x ≡ pos 0 → ⊥) → Near (λ p. p.y) (λ p. p.z) (λ p. p.x) h (centre h k) t → thin h k t ≡ true
  unfolding thin
  thin_by_x turns nr = or_left _ z_near (or_left _ y_near (near_x h (centre h k) t turns nr))

  pub thin_by_y : ((normal_of t).y ≡ pos 0 → ⊥) → Near (λ p. p.z) (λ p. p.x) (λ p. p.y) h (centre h k) t → thin h k t ≡ true
  unfolding thin
  thin_by_y turns nr = or_left _ z_near (or_right x_near _ (near_y h (centre h k) t turns nr))

  pub thin_by_z : ((normal_of t).z ≡ pos 0 → ⊥) → Near (λ p. p.x) (λ p. p.y) (λ p. p.z) h (centre h k) t → thin h k t ≡ true
  unfolding thin
  thin_by_z turns nr = or_right (x_near || y_near) _ (near_z h (centre h k) t turns nr)

  thin_cases : thin h k t ≡ true → ((x_near ≡ true) ⊎ (y_near ≡ true)) ⊎ (z_near ≡ true)
  unfolding thin
  thin_cases e = first (or_cases (x_near || y_near) z_near e)
    where
      first : ((x_near || y_near) ≡ true) ⊎ (z_near ≡ true) → ((x_near ≡ true) ⊎ (y_near ≡ true)) ⊎ (z_near ≡ true)
      first (inl e) = inl (or_cases x_near y_near e)
      first (inr e) = inr e

  -- the triangle makes the cell thin exactly if it passes near the centre along some axis along which its normal is not 0
  pub thin_is : (thin h k t ≡ true)
      ↔ (((((normal_of t).x ≡ pos 0 → ⊥) × Near (λ p. p.y) (λ p. p.z) (λ p. p.x) h (centre h k) t)
      ⊎ (((normal_of t).y ≡ pos 0 → ⊥) × Near (λ p. p.z) (λ p. p.x) (λ p. p.y) h (centre h k) t))
      ⊎ (((normal_of t).z ≡ pos 0 → ⊥) × Near (λ p. p.x) (λ p. p.y) (λ p. p.z) h (centre h k) t))
  thin_is = (
    (λ e. ⊎_elim
        (λ xy. inl (⊎_elim (λ x. inl ((near_x_is h (centre h k) t).0 x)) (λ y. inr ((near_y_is h (centre h k) t).0 y)) xy))
        (λ z. inr ((near_z_is h (centre h k) t).0 z))
        (thin_cases e)),
    ⊎_elim
        (⊎_elim (λ x. thin_by_x x.0 x.1) (λ y. thin_by_y y.0 y.1))
        (λ z. thin_by_z z.0 z.1),
  )

-- ---- thin within thick

module _ (h : ℤ) (h_some : pos 0 ≤ℤ h) (k : Point) (t : Triangle) where
  -- at most h from the centre is within the cell, and so is the centre itself
  within_cell : (f : Point → ℤ) (i : ℤ) (w : Weights)
      → Between f (middle h i -ℤ h) (middle h i +ℤ h) w t → Between f (low h i) (high h i) w t
  within_cell f i w b = record {
    low = subst (λ x. (total w *ℤ x) ≤ℤ mean f w t)
        (ring (h ∷ i ∷ []) ((var 0 ⊕ var 0) ⊗ var 1 ⊕ var 0 ⊖ var 0) ((var 0 ⊕ var 0) ⊗ var 1) refl) b.low;
    high = subst (λ x. mean f w t ≤ℤ (total w *ℤ x))
        (ring (h ∷ i ∷ []) ((var 0 ⊕ var 0) ⊗ var 1 ⊕ var 0 ⊕ var 0) ((var 0 ⊕ var 0) ⊗ var 1 ⊕ (var 0 ⊕ var 0)) refl) b.high;
  }

  at_centre : (f : Point → ℤ) (i : ℤ) (w : Weights) → mean f w t ≡ total w *ℤ middle h i → Between f (low h i) (high h i) w t
  at_centre f i w e =
      let T = total w in
      let th = mul_nonneg h T h_some (nonneg_of_pos T w.not_none) in
      within_cell f i w (record {
        low = less _ _ _ _ (times_less T (middle h i) h) e th;
        high = more _ _ _ _ (times_more T (middle h i) h) e th;
      })
    where
      less : (l m e p : ℤ) → l ≡ p -ℤ e → m ≡ p → pos 0 ≤ℤ e → l ≤ℤ m
      less l m e p i j o = omega (arith, ints)

      more : (l m e p : ℤ) → l ≡ p +ℤ e → m ≡ p → pos 0 ≤ℤ e → m ≤ℤ l
      more l m e p i j o = omega (arith, ints)

  -- a triangle that makes the cell thin has a point in it
  pub thin_touches : thin h k t ≡ true → Touches h k t
  thin_touches e = ⊎_elim (⊎_elim by_x by_y) by_z ((thin_is h k t).0 e)
    where
      by_x : ((normal_of t).x ≡ pos 0 → ⊥) × Near (λ p. p.y) (λ p. p.z) (λ p. p.x) h (centre h k) t → Touches h k t
      by_x m = let n = m.1 in record {
        w = n.w;
        in_x = within_cell (λ p. p.x) k.x n.w n.by_c;
        in_y = at_centre (λ p. p.y) k.y n.w n.on_a;
        in_z = at_centre (λ p. p.z) k.z n.w n.on_b;
      }

      by_y : ((normal_of t).y ≡ pos 0 → ⊥) × Near (λ p. p.z) (λ p. p.x) (λ p. p.y) h (centre h k) t → Touches h k t
      by_y m = let n = m.1 in record {
        w = n.w;
        in_y = within_cell (λ p. p.y) k.y n.w n.by_c;
        in_z = at_centre (λ p. p.z) k.z n.w n.on_a;
        in_x = at_centre (λ p. p.x) k.x n.w n.on_b;
      }

      by_z : ((normal_of t).z ≡ pos 0 → ⊥) × Near (λ p. p.x) (λ p. p.y) (λ p. p.z) h (centre h k) t → Touches h k t
      by_z m = let n = m.1 in record {
        w = n.w;
        in_z = within_cell (λ p. p.z) k.z n.w n.by_c;
        in_x = at_centre (λ p. p.x) k.x n.w n.on_a;
        in_y = at_centre (λ p. p.y) k.y n.w n.on_b;
      }

  -- and so makes it thick
  pub thin_thick : thin h k t ≡ true → thick h k t ≡ true
  thin_thick e = touched_thick h k t (thin_touches e)
