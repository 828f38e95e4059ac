use Rattle.std.proofs.Common.{◌≡◌, ℕ, Bool, true}
use Rattle.block.specs.Keeps.{Keeps}
use Rattle.flips.specs.Flips.{first_rows}
use Rattle.flips.specs.Drawn.{drawn, all_fit}
use Rattle.flips.proofs.undo_rows.Given as goal

-- the rows that are not made again yet stand in the drawing
abbrev pub invariant-loop-i : goal.invariant-loop-i
invariant-loop-i g l =
    let n = g.B.Block.edge l.initial.block in
    let F = g.B.Block.fits l.initial.block in
    let solid = g.S.RowSource.solid l.source in
    record {
      kept : Keeps g.B.Block.sound g.B.Block.ties g.B.Block.edge g.B.Block.fits l.initial.block l.block;
      back : (d : ℕ → Bool) → F d ≡ true → all_fit n F d (first_rows n solid l.count) ≡ true
          → g.B.Block.drawing l.initial.block ≡ drawn n d (first_rows n solid l.count) → g.B.Block.drawing l.block ≡ drawn n d (first_rows n solid l.i);
    }
