use Rattle.std.proofs.Common.{◌≡◌, ltb, ℤ, pos, ◌-ℤ◌, ap, ◌∙◌, arith}
use Rattle.std.proofs.lemmas.Int.{to_z-of_z}
use Rattle.geometry.specs.Cells.{least}
use Rattle.geometry.proofs.Extents.{behind, risen}
use Rattle.geometry.proofs.Least.{least_le}
use Rattle.geometry.proofs.facet.extent.first_behind.Goals as goal

pub returns : goal.returns
returns c =
    let n = c.args.n in
    let start = pos 0 -ℤ c.args.greatest -ℤ pos 1 in
    let e : c.first_at.result ≡ least (risen start) n = c.first_at.ensures ∙ ap (λ (s : ℤ). least (risen s) n) (grind (arith, to_z-of_z)) in
    record {
      within = omega (arith, e, least_le (risen start) n);
      before = λ k h. ap (ltb k) e ∙ behind c.args.greatest n k h;
    }
