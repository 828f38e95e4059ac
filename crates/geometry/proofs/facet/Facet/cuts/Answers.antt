use Rattle.std.proofs.Common.{arith}
use Rattle.std.proofs.lemmas.Int.{ints, to_z-of_z}
use Rattle.geometry.specs.Cells.{cell_at}
use Rattle.geometry.specs.Read.{half, triangle_of}
use Rattle.geometry.proofs.Corner.{plane_least, plane_greatest}
use Rattle.geometry.proofs.facet.Facet.cuts.Goals as goal

pub returns-then-least-le0 : goal.returns-then-least-le0
returns-then-least-le0 c =
    let t = triangle_of c.args.self.now in
    let k = cell_at c.args.c.x c.args.c.y c.args.c.z in
    let l = plane_least half (omega (arith, ints)) t k in
    let g = plane_greatest half (omega (arith, ints)) t k in
    grind (arith, to_z-of_z)

pub returns-else-least-le0 : goal.returns-else-least-le0
returns-else-least-le0 c =
    let t = triangle_of c.args.self.now in
    let k = cell_at c.args.c.x c.args.c.y c.args.c.z in
    let l = plane_least half (omega (arith, ints)) t k in
    grind (arith, to_z-of_z)
