-- What one call of a block keeps, several calls keep.
use Rattle.std.proofs.Common.{ℕ, Bool, refl, ◌∙◌}
use Rattle.block.specs.Keeps.{Keeps}

module _ {B : Type 0} {sound : B → Type 0} {ties : B → B → Type 0} {edge : B → ℕ} {fits : B → (ℕ → Bool) → Bool} where
  pub kept_same : (b : B) → sound b → ties b b → Keeps sound ties edge fits b b
  kept_same b s t = record { still_sound = s; same_loans = t; same_side = refl; same_fits = refl }

  pub kept_on : ((a b c : B) → ties a b → ties b c → ties a c) → (a b c : B) → Keeps sound ties edge fits a b → Keeps sound ties edge fits b c → Keeps sound ties edge fits a c
  kept_on on a b c h k = record {
    still_sound = k.still_sound;
    same_loans = on a b c h.same_loans k.same_loans;
    same_side = k.same_side ∙ h.same_side;
    same_fits = k.same_fits ∙ h.same_fits;
  }
