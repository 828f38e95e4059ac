-- Nine numbers a triangle: x, y and z of its three corners.
use Rattle.std.specs.Prelude.{ℕ, List, [], ◌∷◌, ℤ, pos, Some, None, Option, slice_index_or}
use Rattle.geometry.specs.declared.mesh.Point.{Point}
use Rattle.geometry.specs.declared.mesh.Triangle.{Triangle}

abbrev pub point : ℤ → ℤ → ℤ → Point
point x y z = record { x = x; y = y; z = z }

-- each nine numbers are a triangle, and numbers left over are one last hole
abbrev pub by_nine : List ℤ → List (Option Triangle)
by_nine [] = []
by_nine (a ∷ []) = None ∷ []
by_nine (a ∷ b ∷ []) = None ∷ []
by_nine (a ∷ b ∷ c ∷ []) = None ∷ []
by_nine (a ∷ b ∷ c ∷ d ∷ []) = None ∷ []
by_nine (a ∷ b ∷ c ∷ d ∷ e ∷ []) = None ∷ []
by_nine (a ∷ b ∷ c ∷ d ∷ e ∷ f ∷ []) = None ∷ []
by_nine (a ∷ b ∷ c ∷ d ∷ e ∷ f ∷ g ∷ []) = None ∷ []
by_nine (a ∷ b ∷ c ∷ d ∷ e ∷ f ∷ g ∷ h ∷ []) = None ∷ []
by_nine (a ∷ b ∷ c ∷ d ∷ e ∷ f ∷ g ∷ h ∷ i ∷ rest) =
    Some (record { v0 = point a b c; v1 = point d e f; v2 = point g h i }) ∷ by_nine rest

-- ---- a word of the code on the way

-- the triangle of the first nine numbers of a list
abbrev pub nine : List ℤ → Triangle
nine xs =
    let at : ℕ → ℤ = λ k. slice_index_or xs k (pos 0) in
    record { v0 = point (at 0) (at 1) (at 2); v1 = point (at 3) (at 4) (at 5); v2 = point (at 6) (at 7) (at 8) }
