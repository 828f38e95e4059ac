-- What a call of a block keeps, whatever it answers.
use Rattle.std.specs.Prelude.{◌≡◌, ℕ, Bool}

-- c, which b has become, is sound, it is in the same lent memory, and it has the same side and holds the same drawings
pub record Keeps {B : Type 0} (sound : B → Type 0) (ties : B → B → Type 0) (edge : B → ℕ) (fits : B → (ℕ → Bool) → Bool) (b c : B) : Type 0 where
  pub still_sound : sound c
  pub same_loans : ties b c
  pub same_side : edge c ≡ edge b
  pub same_fits : fits c ≡ fits b
