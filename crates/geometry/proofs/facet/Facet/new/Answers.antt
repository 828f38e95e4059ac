use Rattle.geometry.proofs.Checked.{three_made}
use Rattle.geometry.proofs.facet.Facet.new.Goals as goal

pub returns : goal.returns
returns c = three_made _ _ _ _ _ _ _ _ _ (λ a b c. record { v0 = a; v1 = b; v2 = c }) c.in_ok-v0.ensures c.in_ok-v1.ensures c.in_ok-v2.ensures
