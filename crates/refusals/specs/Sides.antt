-- The sides that a box may have, in cells.
use Rattle.std.specs.Prelude.{ℕ, Bool, ◌||◌, ◌==◌}

abbrev pub is_side : ℕ → Bool
is_side n = n == 2 || n == 4 || n == 8 || n == 16 || n == 32 || n == 64
