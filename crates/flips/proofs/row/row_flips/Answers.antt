use Rattle.std.proofs.Common.{◌≡◌, ◌≤◌, length, arith}
use Rattle.refusals.specs.BoxSides.{cells_of}
use Rattle.block.proofs.Sides.{side_le}
use Rattle.flips.proofs.Rows.{row_told}
use Rattle.flips.proofs.row.row_flips.Goals as goal

pub returns : goal.returns
returns g c =
    let n = cells_of c.args.side in
    let short : c.cells.result ≤ 64 = side_le c.cells.result c.cells.ensures.one_of_six in
    let is = c.cells.ensures.number in
    let told = c.row.ensures in
    let kept = c.row.auto in
    let long : length c.row.new.cells ≡ n = omega arith in
    row_told (g.S.RowSource.solid c.args.source.now) n c.args.number c.row_at-row.result c.row.new.cells _ c.row_at-row.ensures.y c.row_at-row.ensures.z long (λ x h. told x (omega arith)) c.cut_runs.ensures
