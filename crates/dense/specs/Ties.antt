-- Boards over the same lent bytes.
use Rattle.std.specs.Prelude.{◌≡◌, ℕ, refl}
use Rattle.std.proofs.Common.{sym, ap, ◌∙◌}
use Rattle.dense.specs.declared.Dense.{Dense}
use Rattle.dense.specs.Board.{Tied, bytes_of, edge_of}
use Rattle.dense.specs.Cells.{spare}

pub tied_same : (b : Dense) → Tied b b
tied_same b = record { same_edge = refl; same_loan = refl; same_length = refl; same_spare = refl }

pub tied_on : (b c d : Dense) → Tied b c → Tied c d → Tied b d
tied_on b c d p q =
    let at : (e : Dense) → spare (edge_of c) (bytes_of e) ≡ spare (edge_of b) (bytes_of e) = λ e. ap (λ (n : ℕ). spare n (bytes_of e)) p.same_edge in
    record {
      same_edge = q.same_edge ∙ p.same_edge;
      same_loan = q.same_loan ∙ p.same_loan;
      same_length = q.same_length ∙ p.same_length;
      same_spare = sym (at d) ∙ q.same_spare ∙ at c ∙ p.same_spare;
    }
