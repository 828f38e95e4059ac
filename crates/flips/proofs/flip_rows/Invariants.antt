use Rattle.std.proofs.Common.{◌≡◌, ◌*◌, ◌≤◌, true, length}
use Rattle.block.specs.Keeps.{Keeps}
use Rattle.flips.specs.Flips.{first_rows}
use Rattle.flips.specs.Drawn.{drawn, all_fit}
use Rattle.flips.proofs.flip_rows.Given as goal

-- the first rows are made, and every drawing on the way fits
abbrev pub invariant-loop-i : goal.invariant-loop-i
invariant-loop-i g l =
    let n = g.B.Block.edge l.initial.block in
    let d = g.B.Block.drawing l.initial.block in
    let rows = first_rows n (g.S.RowSource.solid l.source) l.i in
    record {
      kept : Keeps g.B.Block.sound g.B.Block.ties g.B.Block.edge g.B.Block.fits l.initial.block l.block;
      drawn : g.B.Block.drawing l.block ≡ drawn n d rows;
      fit : all_fit n (g.B.Block.fits l.initial.block) d rows ≡ true;
      counted : l.count ≡ length rows;
      few : l.count ≤ 64 * l.i;
    }
