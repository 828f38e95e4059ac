-- The numbers of cells and of runs, where they lie in a box of at most 64 cells along each axis.
use Rattle.std.specs.Prelude.{◌≡◌, ℕ, true, false, ◌&&◌, Some, None, Option, nat_le}
use Rattle.geometry.specs.declared.facet.extent.Span.{Span}
use Rattle.block.specs.declared.cells.Cell.{Cell}
use Rattle.block.specs.declared.cells.Run.{Run}
use Rattle.block.specs.Drawing.{number, in_box, in_row}

-- the number k of the cell, or none where it lies outside or the box is too large
abbrev pub CellNumber : ℕ → Cell → Option ℕ → Type 0
CellNumber n c (Some k) = (in_box n c.x c.y c.z ≡ true) × (k ≡ number n c.x c.y c.z)
CellNumber n c None = (nat_le n 64 && in_box n c.x c.y c.z) ≡ false

-- the number of the first cell of the run, and that behind its last cell, or none where the run lies outside or the box is too large
abbrev pub RunNumbers : ℕ → Run → Option Span → Type 0
RunNumbers n w (Some s) = (in_row n w ≡ true) × (s.start ≡ number n w.start w.y w.z) × (s.end ≡ number n w.end w.y w.z)
RunNumbers n w None = (nat_le n 64 && in_row n w) ≡ false
