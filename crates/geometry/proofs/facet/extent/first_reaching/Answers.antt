use Rattle.std.proofs.Common.{leb, ℤ, ap, ◌∙◌, arith}
use Rattle.std.proofs.lemmas.Int.{to_z-of_z}
use Rattle.geometry.specs.Cells.{least}
use Rattle.geometry.proofs.Extents.{reaching, risen}
use Rattle.geometry.proofs.facet.extent.first_reaching.Goals as goal

pub returns : goal.returns
returns c = λ k h.
    let e = c.first_at.ensures in
    ap (λ m. leb m k) (e ∙ ap (λ (s : ℤ). least (risen s) c.args.n) (grind (arith, to_z-of_z))) ∙ reaching c.args.least c.args.n k h
