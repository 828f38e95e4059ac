-- Marks, one after the other.
use Rattle.std.proofs.Common.{◌≡◌, ℕ, Bool, true, false, ◌||◌, sym, ap, ◌∙◌, subst}
use Rattle.std.proofs.Math.Bool.{or-false, or_assoc}
use Rattle.block.specs.Drawing.{in_box, number}
use Rattle.dense.specs.declared.Dense.{Dense}
use Rattle.dense.specs.Board.{drawing_of, edge_of}
use Rattle.dense.specs.Ties.{tied_on, tied_same}
use Rattle.dense.proofs.ShownLaws.{tied_kept}
use Rattle.skins.specs.Skins.{Marked}

-- no cell is marked
pub marked_none : (a : Dense) → Marked a a (λ _ _ _. false)
marked_none a = record { kept = tied_kept a a (tied_same a); cells = λ x y z h. sym (or-false _) }

-- the test may be another one that is the same in the box
pub marked_as : {a b : Dense} {P Q : ℕ → ℕ → ℕ → Bool} → ((x y z : ℕ) → in_box (edge_of a) x y z ≡ true → P x y z ≡ Q x y z) → Marked a b P → Marked a b Q
marked_as {a} e m = record {
  kept = m.kept;
  cells = λ x y z h. m.cells x y z h ∙ ap (λ v. drawing_of a (number (edge_of a) x y z) || v) (e x y z h);
}

-- marks upon marks
pub marked_on : {a b c : Dense} {P Q R : ℕ → ℕ → ℕ → Bool} → ((x y z : ℕ) → (P x y z || Q x y z) ≡ R x y z) → Marked a b P → Marked b c Q → Marked a c R
marked_on {a} {b} {c} {P} {Q} {R} e m k =
    record {
      kept = tied_kept a c (tied_on a b c m.kept.same_loans k.kept.same_loans);
      cells = λ x y z h.
          subst (λ (n : ℕ). in_box n x y z ≡ true → drawing_of c (number n x y z) ≡ (drawing_of b (number n x y z) || Q x y z)) m.kept.same_side (k.cells x y z) h
          ∙ ap (λ v. v || Q x y z) (m.cells x y z h) ∙ or_assoc (drawing_of a (number (edge_of a) x y z)) (P x y z) (Q x y z) ∙ ap (λ v. drawing_of a (number (edge_of a) x y z) || v) (e x y z);
    }
