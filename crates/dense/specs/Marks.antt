-- What marking a cell of a box of n × n × n cells does.
use Rattle.std.specs.Prelude.{ℕ, Bool, if◌then◌else◌, ◌||◌, Some, None, Option, ◌==◌}
use Rattle.refusals.specs.declared.Refusal.{Refusal}
use Rattle.refusals.specs.declared.Refusal.TheVariants.{OffBox, NoSand}
use Rattle.block.specs.declared.cells.Cell.{Cell}
use Rattle.block.specs.Drawing.{number, in_box}

-- the drawing d with cell k solid, whatever it was
unfoldable pub marked : (ℕ → Bool) → ℕ → ℕ → Bool
marked d k j = j == k || d j

-- why a mark is refused, if it is, where F tells what fits
abbrev pub mark_refusal : ℕ → ((ℕ → Bool) → Bool) → (ℕ → Bool) → Cell → Option Refusal
mark_refusal n F d c = if in_box n c.x c.y c.z then (if F (marked d (number n c.x c.y c.z)) then None else Some NoSand) else Some OffBox
