-- Chains of cells, each of which shares a face with the next. A cell is given by three whole numbers, as a point is.
use Rattle.std.specs.Prelude.{Bool, false, ◌||◌, List, [], ◌∷◌, pos, ◌+ℤ◌}
use Rattle.geometry.specs.declared.mesh.Point.{Point}

-- f holds of one of the list's elements
abbrev pub some : {A : Type 0} → (A → Bool) → List A → Bool
some f [] = false
some f (x ∷ xs) = f x || some f xs

-- the two cells share a face
pub data Share : Point → Point → Type 0 where
  on_x : (k : Point) → Share k (record { x = k.x +ℤ pos 1; y = k.y; z = k.z })
  on_y : (k : Point) → Share k (record { x = k.x; y = k.y +ℤ pos 1; z = k.z })
  on_z : (k : Point) → Share k (record { x = k.x; y = k.y; z = k.z +ℤ pos 1 })
  back : {k l : Point} → Share k l → Share l k

-- cells from the first to the last, each of which shares a face with the next
pub data Chain : Point → Point → Type 0 where
  only : (k : Point) → Chain k k
  step : (k : Point) {l m : Point} → Share k l → Chain l m → Chain k m

abbrev pub cells : {k m : Point} → Chain k m → List Point
cells (only k) = k ∷ []
cells (step k s c) = k ∷ cells c
