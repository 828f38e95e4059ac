-- What a sheet means: the side of a box, and a list of lines.
use Rattle.std.specs.Prelude.{◌≡◌, ℕ, ◌<◌, List, [], ◌∷◌, ◌++◌, length, take, sum_by, Ok, Err, Result}
use Rattle.refusals.specs.declared.Refusal.{Refusal}
use Rattle.refusals.specs.declared.Refusal.TheVariants.{FullSheet}
use Rattle.refusals.specs.declared.box_side.BoxSide.{BoxSide}
use Rattle.sheet.specs.declared.lines.Line.{Line}
use Rattle.sheet.specs.declared.lines.Sheet.{Sheet}

abbrev pub side_of : Sheet → BoxSide
side_of s = s.side

-- the lines that stand, the first one first
abbrev pub lines_of : Sheet → List Line
lines_of s = take s.used s.lines

abbrev pub line : ℕ → ℕ → Line
line triangles flips = record { triangles = triangles; flips = flips }

-- the triangles of all lines
abbrev pub total : List Line → ℕ
total ls = sum_by (λ l. l.triangles) ls

-- adding a line to the sheet a leaves the sheet b: one line more, at the end, unless sixteen stand
abbrev pub Added : {T : Type 0} → Sheet → ℕ → ℕ → Sheet → Result T Refusal → Type 0
Added a triangles flips b (Ok v) =
    (length (lines_of a) < 16) × (side_of b ≡ side_of a) × (lines_of b ≡ lines_of a ++ (line triangles flips ∷ []))
Added a triangles flips b (Err r) = (length (lines_of a) ≡ 16) × (r ≡ FullSheet) × (b ≡ a)
