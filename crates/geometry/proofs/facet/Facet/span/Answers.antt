use Rattle.std.proofs.Common.{pos, arith}
use Rattle.std.proofs.lemmas.Int.{to_z-of_z}
use Rattle.geometry.specs.Cells.{low, high}
use Rattle.geometry.specs.Read.{half}
use Rattle.geometry.proofs.facet.Facet.span.Goals as goal

pub returns : goal.returns
returns c =
    record {
      within = c.first_behind.ensures.within;
      met = λ k h.
          let l = c.reach-least.ensures.least (high half (pos k)) in
          let g = c.reach-least.ensures.greatest (low half (pos k)) in
          let from = c.first_reaching.ensures k h in
          let up_to_lem = c.first_behind.ensures.before k h in
          grind (arith, to_z-of_z);
    }
