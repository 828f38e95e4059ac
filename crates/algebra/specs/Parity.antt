-- Odd and even.
use Rattle.std.specs.Prelude.{Bool, true, false, not}

-- exactly one of the two holds
infixl 32 ◌⊻◌
abbrev pub ◌⊻◌ : Bool → Bool → Bool
true ⊻ b = not b
false ⊻ b = b
