use Rattle.std.proofs.Common.{◌≡◌, ℕ, ◌∙◌, subst}
use Rattle.geometry.specs.Extents.{Extends}
use Rattle.geometry.specs.Read.{triangle_of}
use Rattle.dense.specs.Board.{edge_of}
use Rattle.skins.proofs.Extents.{within_extent}
use Rattle.skins.proofs.Marks.{marked_as}
use Rattle.skins.proofs.mark_coat.Goals as goal

pub returns : goal.returns
returns c =
    let t = triangle_of c.args.coat.now.facet in
    let same : c.cells-n.result ≡ edge_of c.args.board.now = c.cells-n.ensures.number ∙ c.side.ensures in
    let extends = subst (λ (n : ℕ). Extends n t c.extent.result) same c.extent.ensures in
    marked_as (λ u v w h. within_extent (edge_of c.args.board.now) t c.extent.result extends c.args.coat.now.skin u v w h) c.mark_extent.ensures
