use Rattle.std.proofs.Common.{◌≡◌, ℕ, ◌<◌, false, eqb, get_or, take}
use Rattle.rows.specs.Rows.{first_at, odd}
use Rattle.rows.proofs.mark_first.Given as goal

abbrev pub invariant-loop-facet : goal.invariant-loop-facet
invariant-loop-facet l = (x : ℕ) → x < l.n → get_or l.cells x false ≡ odd (λ f. eqb (first_at l.row.y l.row.z l.n f) x) (take l.facet-index l.facets)
