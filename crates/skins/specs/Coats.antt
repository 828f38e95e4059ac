-- The cells of the skin of one triangle.
use Rattle.std.specs.Prelude.{ℕ, Bool}
use Rattle.geometry.specs.Read.{triangle_of}
use Rattle.skins.specs.declared.Coat.{Coat}
use Rattle.skins.specs.Skins.{made_at}

abbrev pub made_by : Coat → ℕ → ℕ → ℕ → Bool
made_by c = made_at c.skin (triangle_of c.facet)
