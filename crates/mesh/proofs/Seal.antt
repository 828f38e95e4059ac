-- The seal between two points. Of two points some way apart along one axis, let exactly one be inside a closed list of triangles. Then some
-- triangle of the list, whose normal is not 0 along that axis, has a point on the closed segment between them. Summed over the list, the
-- crossings at the two points and the sides' crossings of the half strip between their rows are odd, since the sides' are even; so they are
-- odd for some triangle, and that one stops the step.
use Rattle.std.proofs.Common.{◌≡◌, Bool, true, false, ◌⊎◌, List, [], ◌∷◌, ℤ, pos, ◌+ℤ◌, ◌-ℤ◌, ◌*ℤ◌, ◌≤ℤ◌, sym, refl, ap, ◌∙◌, inl, inr, arith}
use mathlib.Core.Bool.{false≢true}
use Rattle.std.proofs.lemmas.Int.{ints}
use Rattle.algebra.specs.Parity.{◌⊻◌}
use Rattle.algebra.proofs.Parity.{xor_assoc, xor_left, xor_false, xor_same}
use Rattle.geometry.specs.declared.mesh.Point.{Point}
use Rattle.geometry.specs.declared.mesh.Triangle.{Triangle}
use Rattle.geometry.specs.Geometry.{normal_of, crosses, inside}
use Rattle.geometry.specs.Closed.{odd_sides, Closed}
use Rattle.mesh.specs.Means.{Weights, total, mean, Meets, Any}
use Rattle.mesh.proofs.Closed.{closed_even}
use Rattle.mesh.proofs.Means.{times_more, mean_less}
use Rattle.mesh.proofs.Turned.{three_sides}
use Rattle.mesh.proofs.Origin.{crosses0, to_origin, shift, nx_shift, ny_shift, nz_shift}
use Rattle.mesh.proofs.Row.{crosses_is}
use Rattle.mesh.proofs.Segments.{Seg}
use Rattle.mesh.proofs.StepX.{lowered_x, step_x}
use Rattle.mesh.proofs.StepY.{lowered_y, strip_y, strip_y_turn, strip_y_none, step_y}
use Rattle.mesh.proofs.StepZ.{lowered_z, strip_z, strip_z_turn, strip_z_none, step_z}

-- ---- what is odd over a list is odd for one of its triangles

abbrev odd_of : (Triangle → Bool) → List Triangle → Bool
odd_of F [] = false
odd_of F (t ∷ ts) = F t ⊻ odd_of F ts

odd_any : (P : Triangle → Type 0) (F : Triangle → Bool) → ((t : Triangle) → F t ≡ true → P t)
    → (ts : List Triangle) → odd_of F ts ≡ true → Any P ts
odd_any P F h [] e = false≢true e
odd_any P F h (t ∷ ts) e = by_bool (F t) refl (λ o. odd_any P F h ts o)
  where
    by_bool : (b : Bool) → b ≡ F t → (odd_of F ts ≡ true → Any P ts) → P t ⊎ Any P ts
    by_bool true k f = inl (h t (sym k))
    by_bool false k f = inr (f (ap (λ x. x ⊻ odd_of F ts) k ∙ e))

-- the two counts of the inside and the sides' count, triangle by triangle
gather : (p q : Point) (f : Point → Point → Bool) (ts : List Triangle)
    → ((inside p ts ⊻ inside q ts) ⊻ odd_sides f ts) ≡ odd_of (λ t. crosses p t ⊻ crosses q t ⊻ three_sides f t) ts
gather p q f [] = refl
gather p q f (t ∷ ts) =
    mix (crosses p t) (crosses q t) (three_sides f t) (inside p ts) (inside q ts) (odd_sides f ts)
    ∙ ap (λ x. (crosses p t ⊻ crosses q t ⊻ three_sides f t) ⊻ x) (gather p q f ts)
  where
    mix : (a b s i j r : Bool) → (((a ⊻ i) ⊻ (b ⊻ j)) ⊻ (s ⊻ r)) ≡ ((a ⊻ b ⊻ s) ⊻ ((i ⊻ j) ⊻ r))
    mix a b s i j r = simp (xor_assoc, xor_left)

parted : (p q : Point) (f : Point → Point → Bool) (P : Triangle → Type 0)
    → ((t : Triangle) → (crosses p t ⊻ crosses q t ⊻ three_sides f t) ≡ true → P t)
    → (ts : List Triangle) → odd_sides f ts ≡ false → (inside p ts ⊻ inside q ts) ≡ true → Any P ts
parted p q f P h ts even odd =
    odd_any P (λ t. crosses p t ⊻ crosses q t ⊻ three_sides f t) h ts
    (sym (gather p q f ts) ∙ ap (λ x. (inside p ts ⊻ inside q ts) ⊻ x) even ∙ xor_false (inside p ts ⊻ inside q ts) ∙ odd)

-- ---- a point of the triangle seen from p, as a point of the triangle

-- the value k of a point seen from p is by how much it is more than p's
abbrev Plain : (Point → ℤ) → Type 0
Plain k = (p v : Point) → k (to_origin p v) ≡ k v -ℤ k p

mean_shift : (k : Point → ℤ) → Plain k → (p : Point) (t : Triangle) (w : Weights)
    → mean k w (shift p t) ≡ mean k w t -ℤ total w *ℤ k p
mean_shift k s p t w =
    (λ i. w.a *ℤ s p t.v0 i +ℤ w.b *ℤ s p t.v1 i +ℤ w.c *ℤ s p t.v2 i)
    ∙ mean_less w (k t.v0) (k t.v1) (k t.v2) (k p)

meets_of : (a b c : Point → ℤ) → Plain a → Plain b → Plain c → (far : ℤ) (p : Point) (t : Triangle)
    → Seg a b c far (shift p t) → Meets a b c far p t
meets_of a b c pa pb pc far p t s =
    let W = s.w in
    record {
      w = W;
      on_a = level _ _ (sym (mean_shift a pa p t W) ∙ s.on_e);
      on_b = level _ _ (sym (mean_shift b pb p t W) ∙ s.on_g);
      by_c = record {
        low = least _ _ _ (mean_shift c pc p t W) s.low;
        high = most _ _ _ _ _ (mean_shift c pc p t W) (times_more (total W) (c p) far) s.high;
      };
    }
  where
    level : (m n : ℤ) → m -ℤ n ≡ pos 0 → m ≡ n
    level m n i = omega (arith, ints)

    least : (d m k : ℤ) → d ≡ m -ℤ k → pos 0 ≤ℤ d → k ≤ℤ m
    least d m k e i = omega (arith, ints)

    most : (d m k l f : ℤ) → d ≡ m -ℤ k → l ≡ k +ℤ f → d ≤ℤ f → m ≤ℤ l
    most d m k l f e g i = omega (arith, ints)

-- ---- the three steps

less_more : (a b h : ℤ) → a -ℤ (b +ℤ h) ≡ (a -ℤ b) -ℤ h
less_more a b h = omega (arith, ints)

module _ (p : Point) (far : ℤ) (some : pos 0 ≤ℤ far) where
  abbrev up_x : Point
  up_x = record { x = p.x +ℤ far; y = p.y; z = p.z }

  abbrev up_y : Point
  up_y = record { x = p.x; y = p.y +ℤ far; z = p.z }

  abbrev up_z : Point
  up_z = record { x = p.x; y = p.y; z = p.z +ℤ far }

  shift_x : (t : Triangle) → shift up_x t ≡ lowered_x far (shift p t)
  shift_x t = λ i. record { v0 = at t.v0 i; v1 = at t.v1 i; v2 = at t.v2 i }
    where
      at : (v : Point) → to_origin up_x v ≡ record { x = (v.x -ℤ p.x) -ℤ far; y = v.y -ℤ p.y; z = v.z -ℤ p.z }
      at v = λ i. record { x = less_more v.x p.x far i; y = v.y -ℤ p.y; z = v.z -ℤ p.z }

  shift_y : (t : Triangle) → shift up_y t ≡ lowered_y far some (shift p t)
  shift_y t = λ i. record { v0 = at t.v0 i; v1 = at t.v1 i; v2 = at t.v2 i }
    where
      at : (v : Point) → to_origin up_y v ≡ record { x = v.x -ℤ p.x; y = (v.y -ℤ p.y) -ℤ far; z = v.z -ℤ p.z }
      at v = λ i. record { x = v.x -ℤ p.x; y = less_more v.y p.y far i; z = v.z -ℤ p.z }

  shift_z : (t : Triangle) → shift up_z t ≡ lowered_z far some (shift p t)
  shift_z t = λ i. record { v0 = at t.v0 i; v1 = at t.v1 i; v2 = at t.v2 i }
    where
      at : (v : Point) → to_origin up_z v ≡ record { x = v.x -ℤ p.x; y = v.y -ℤ p.y; z = (v.z -ℤ p.z) -ℤ far }
      at v = λ i. record { x = v.x -ℤ p.x; y = v.y -ℤ p.y; z = less_more v.z p.z far i }

  -- along x: no side is asked there, so the list need not be closed
  pub parted_x : (ts : List Triangle) → (inside p ts ⊻ inside (record { x = p.x +ℤ far; y = p.y; z = p.z }) ts) ≡ true
      → Any (λ t. ((normal_of t).x ≡ pos 0 → ⊥) × Meets (λ q. q.y) (λ q. q.z) (λ q. q.x) far p t) ts
  parted_x ts = parted p up_x (λ a b. false) _ step ts (none ts)
    where
      none : (ts : List Triangle) → odd_sides (λ a b. false) ts ≡ false
      none [] = refl
      none (t ∷ ts) = none ts

      step : (t : Triangle) → (crosses p t ⊻ crosses up_x t ⊻ false) ≡ true
          → ((normal_of t).x ≡ pos 0 → ⊥) × Meets (λ q. q.y) (λ q. q.z) (λ q. q.x) far p t
      step t odd =
          let m = step_x far some (shift p t)
          (sym (xor_false (crosses p t ⊻ crosses up_x t) ∙ xor_same (crosses_is p t) (crosses_is up_x t ∙ ap crosses0 (shift_x t))) ∙ odd) in
          ((λ e. m.turns (nx_shift p t ∙ e)), meets_of _ _ _ (λ p v. refl) (λ p v. refl) (λ p v. refl) far p t m.seg)

  -- along y
  pub parted_y : (ts : List Triangle) → Closed ts → (inside p ts ⊻ inside (record { x = p.x; y = p.y +ℤ far; z = p.z }) ts) ≡ true
      → Any (λ t. ((normal_of t).y ≡ pos 0 → ⊥) × Meets (λ q. q.z) (λ q. q.x) (λ q. q.y) far p t) ts
  parted_y ts closed =
      parted p up_y side _ step ts
      (closed_even side (λ a b. strip_y_turn far some (to_origin p a) (to_origin p b)) (λ a. strip_y_none far some (to_origin p a)) ts closed)
    where
      side : Point → Point → Bool
      side a b = strip_y far some (to_origin p a) (to_origin p b)

      step : (t : Triangle) → (crosses p t ⊻ crosses up_y t ⊻ three_sides side t) ≡ true
          → ((normal_of t).y ≡ pos 0 → ⊥) × Meets (λ q. q.z) (λ q. q.x) (λ q. q.y) far p t
      step t odd =
          let m = step_y far some (shift p t)
          (sym (ap (λ x. x ⊻ three_sides side t) (xor_same (crosses_is p t) (crosses_is up_y t ∙ ap crosses0 (shift_y t)))) ∙ odd) in
          let s = m.seg in (
            (λ e. m.turns (ny_shift p t ∙ e)),
            meets_of _ _ _ (λ p v. refl) (λ p v. refl) (λ p v. refl) far p t
                (record { w = s.w; on_e = s.on_g; on_g = s.on_e; low = s.low; high = s.high }),
          )

  -- along z
  pub parted_z : (ts : List Triangle) → Closed ts → (inside p ts ⊻ inside (record { x = p.x; y = p.y; z = p.z +ℤ far }) ts) ≡ true
      → Any (λ t. ((normal_of t).z ≡ pos 0 → ⊥) × Meets (λ q. q.x) (λ q. q.y) (λ q. q.z) far p t) ts
  parted_z ts closed =
      parted p up_z side _ step ts
      (closed_even side (λ a b. strip_z_turn far some (to_origin p a) (to_origin p b)) (λ a. strip_z_none far some (to_origin p a)) ts closed)
    where
      side : Point → Point → Bool
      side a b = strip_z far some (to_origin p a) (to_origin p b)

      step : (t : Triangle) → (crosses p t ⊻ crosses up_z t ⊻ three_sides side t) ≡ true
          → ((normal_of t).z ≡ pos 0 → ⊥) × Meets (λ q. q.x) (λ q. q.y) (λ q. q.z) far p t
      step t odd =
          let m = step_z far some (shift p t)
          (sym (ap (λ x. x ⊻ three_sides side t) (xor_same (crosses_is p t) (crosses_is up_z t ∙ ap crosses0 (shift_z t)))) ∙ odd) in
          ((λ e. m.turns (nz_shift p t ∙ e)), meets_of _ _ _ (λ p v. refl) (λ p v. refl) (λ p v. refl) far p t m.seg)
