-- The points of a triangle with rational coordinates, as means of its corners: each corner has a whole-number weight, none is negative,
-- and not all are 0. A mean is kept times the sum of the weights, so that nothing is divided.
use Rattle.std.specs.Prelude.{◌≡◌, ◌⊎◌, List, [], ◌∷◌, ℤ, pos, ◌+ℤ◌, ◌-ℤ◌, ◌*ℤ◌, ◌≤ℤ◌, ◌<ℤ◌}
use Rattle.geometry.specs.declared.mesh.Point.{Point}
use Rattle.geometry.specs.declared.mesh.Triangle.{Triangle}
use Rattle.geometry.specs.Cells.{low, high}

pub record Weights : Type 0 where
  pub a : ℤ
  pub b : ℤ
  pub c : ℤ
  pub a_some : pos 0 ≤ℤ a
  pub b_some : pos 0 ≤ℤ b
  pub c_some : pos 0 ≤ℤ c
  pub not_none : pos 0 <ℤ (a +ℤ b +ℤ c)

abbrev pub total : Weights → ℤ
total w = w.a +ℤ w.b +ℤ w.c

-- the mean of f over the corners, times the total weight
abbrev pub mean : (Point → ℤ) → Weights → Triangle → ℤ
mean f w t = w.a *ℤ f t.v0 +ℤ w.b *ℤ f t.v1 +ℤ w.c *ℤ f t.v2

-- the mean of f lies from lo to hi
pub record Between (f : Point → ℤ) (lo hi : ℤ) (w : Weights) (t : Triangle) : Type 0 where
  pub low : (total w *ℤ lo) ≤ℤ mean f w t
  pub high : mean f w t ≤ℤ (total w *ℤ hi)

-- the triangle has a point in the closed cell k, whose half width is h
pub record Touches (h : ℤ) (k : Point) (t : Triangle) : Type 0 where
  pub w : Weights
  pub in_x : Between (λ p. p.x) (low h k.x) (high h k.x) w t
  pub in_y : Between (λ p. p.y) (low h k.y) (high h k.y) w t
  pub in_z : Between (λ p. p.z) (low h k.z) (high h k.z) w t

-- the triangle has a point with q's a and b, whose c is at most h from q's
pub record Near (a b c : Point → ℤ) (h : ℤ) (q : Point) (t : Triangle) : Type 0 where
  pub w : Weights
  pub on_a : mean a w t ≡ total w *ℤ a q
  pub on_b : mean b w t ≡ total w *ℤ b q
  pub by_c : Between c (c q -ℤ h) (c q +ℤ h) w t

-- the triangle has a point on the closed segment from q to the point that is `far` further along the axis c
pub record Meets (a b c : Point → ℤ) (far : ℤ) (q : Point) (t : Triangle) : Type 0 where
  pub w : Weights
  pub on_a : mean a w t ≡ total w *ℤ a q
  pub on_b : mean b w t ≡ total w *ℤ b q
  pub by_c : Between c (c q) (c q +ℤ far) w t

-- P holds of one of the list's triangles
abbrev pub Any : (Triangle → Type 0) → List Triangle → Type 0
Any P [] = ⊥
Any P (t ∷ ts) = P t ⊎ Any P ts
