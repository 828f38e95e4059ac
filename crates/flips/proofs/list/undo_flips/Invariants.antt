use Rattle.std.proofs.Common.{◌≡◌, ℕ, Bool, true, take}
use Rattle.block.specs.Keeps.{Keeps}
use Rattle.flips.specs.Drawn.{drawn, all_fit}
use Rattle.flips.proofs.list.undo_flips.Given as goal

-- the flips that are not made again yet stand in the drawing
abbrev pub invariant-loop-i : goal.invariant-loop-i
invariant-loop-i g l = record {
  kept : Keeps g.B.Block.sound g.B.Block.ties g.B.Block.edge g.B.Block.fits l.initial.block l.block;
  back : (d : ℕ → Bool) → g.B.Block.fits l.initial.block d ≡ true
      → all_fit (g.B.Block.edge l.initial.block) (g.B.Block.fits l.initial.block) d l.flips ≡ true
      → g.B.Block.drawing l.initial.block ≡ drawn (g.B.Block.edge l.initial.block) d l.flips
      → g.B.Block.drawing l.block ≡ drawn (g.B.Block.edge l.initial.block) d (take l.i l.flips);
}
