use Rattle.std.proofs.Common.{ℤ, arith}
use Rattle.std.proofs.lemmas.Int.{to_z-of_z}
use Rattle.geometry.specs.declared.mesh.Point.{Point}
use Rattle.geometry.specs.Range.{in_range}
use Rattle.std.proofs.lemmas.Bool.{and_right}
use Rattle.geometry.proofs.Checked.{none_is, three_made}
use Rattle.geometry.proofs.bounded.Bounded.new.Goals as goal

pub returns-in_err-new-3 : goal.returns-in_err-new-3
returns-in_err-new-3 c =
    let e = none_is (in_range c.args.p.z) c.args.p.z (grind (arith, to_z-of_z)) in
    grind (arith, to_z-of_z, and_right)

pub returns : goal.returns
returns c =
    let p = c.args.p in
    three_made (in_range p.x) (in_range p.y) (in_range p.z) p.x p.y p.z _ _ _ (λ (x y z : ℤ). let q : Point = record { x = x; y = y; z = z } in q)
    (grind (arith, to_z-of_z)) (grind (arith, to_z-of_z)) (grind (arith, to_z-of_z))
