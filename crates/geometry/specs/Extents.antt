-- The cells that a triangle's closed spans meet.
use Rattle.std.specs.Prelude.{◌≡◌, ℕ, ◌<◌, ◌≤◌, Bool, ◌&&◌, ℤ, pos, nat_le, nat_lt}
use Rattle.geometry.specs.declared.mesh.Point.{Point}
use Rattle.geometry.specs.declared.mesh.Triangle.{Triangle}
use Rattle.geometry.specs.declared.facet.extent.Span.{Span}
use Rattle.geometry.specs.declared.facet.extent.Extent.{Extent}
use Rattle.geometry.specs.Cells.{reaches}
use Rattle.geometry.specs.Read.{half}

abbrev pub in_span : Span → ℕ → Bool
in_span s k = nat_le s.start k && nat_lt k s.end

-- of the first n cells on an axis, those of s are the ones that the triangle's closed span meets
pub record Spans (f : Point → ℤ) (n : ℕ) (t : Triangle) (s : Span) : Type 0 where
  pub within : s.end ≤ n
  pub met : (k : ℕ) → k < n → in_span s k ≡ reaches f half (pos k) t

-- so on each axis
pub record Extends (n : ℕ) (t : Triangle) (e : Extent) : Type 0 where
  pub x : Spans (λ p. p.x) n t e.x
  pub y : Spans (λ p. p.y) n t e.y
  pub z : Spans (λ p. p.z) n t e.z
