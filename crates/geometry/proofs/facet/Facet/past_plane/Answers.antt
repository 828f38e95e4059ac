use Rattle.std.proofs.Common.{ap, arith}
use Rattle.std.proofs.lemmas.Int.{to_z-of_z}
use Rattle.geometry.specs.Geometry.{normal_of}
use Rattle.geometry.specs.Read.{triangle_of}
use Rattle.geometry.proofs.Signs.{turned}
use Rattle.geometry.proofs.facet.Facet.past_plane.Goals as goal

pub returns-else-along-ge0 : goal.returns-else-along-ge0
returns-else-along-ge0 c =
    let e = ap (λ p. p.x) c.args.self.now.is_normal in
    let t = turned (normal_of (triangle_of c.args.self.now)).x c.plane-value.result (grind (arith, to_z-of_z)) in
    grind (arith, to_z-of_z)
