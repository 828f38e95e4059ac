-- Changing a run of a box of n × n × n cells, and looking at its first cell then.
use Rattle.std.specs.Prelude.{ℕ, Bool, if◌then◌else◌, Ok, Err, Result}
use Rattle.refusals.specs.declared.Refusal.{Refusal}
use Rattle.refusals.specs.declared.Refusal.TheVariants.{OffBox, NoSand}
use Rattle.block.specs.declared.cells.Run.{Run}
use Rattle.block.specs.Drawing.{changed, in_row, number}

-- what the first cell of the run is then, or why nothing was changed, where F tells what fits
abbrev pub turn_answer : ℕ → ((ℕ → Bool) → Bool) → (ℕ → Bool) → Run → Result Bool Refusal
turn_answer n F d w =
    let e = changed n d w in
    if in_row n w then (if F e then Ok (e (number n w.start w.y w.z)) else Err NoSand) else Err OffBox
