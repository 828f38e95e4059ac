-- Which coordinates are in range.
use Rattle.std.specs.Prelude.{Bool, ◌&&◌, ℤ, pos, negsuc, int_le}
use Rattle.geometry.specs.declared.mesh.Point.{Point}
use Rattle.geometry.specs.declared.mesh.Triangle.{Triangle}

-- from −8,192 to 8,191
abbrev pub in_range : ℤ → Bool
in_range c = int_le (negsuc 8191) c && int_le c (pos 8191)

abbrev pub point_in_range : Point → Bool
point_in_range p = in_range p.x && in_range p.y && in_range p.z

abbrev pub triangle_in_range : Triangle → Bool
triangle_in_range t = point_in_range t.v0 && point_in_range t.v1 && point_in_range t.v2
