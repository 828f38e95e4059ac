use Rattle.rows.specs.Rows.{RowsOf, SameBehind}
use Rattle.rows.proofs.boxes.solid_rows.Given as goal

abbrev pub invariant-loop-number : goal.invariant-loop-number
invariant-loop-number l = RowsOf l.facets l.n l.number l.cells × SameBehind l.n l.number l.initial.cells l.cells
