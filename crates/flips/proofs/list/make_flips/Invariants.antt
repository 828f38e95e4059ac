use Rattle.std.proofs.Common.{◌≡◌, true, take}
use Rattle.block.specs.Keeps.{Keeps}
use Rattle.flips.specs.Drawn.{drawn, all_fit}
use Rattle.flips.proofs.list.make_flips.Given as goal

-- the flips so far are made, and every drawing on the way fits
abbrev pub invariant-loop-made : goal.invariant-loop-made
invariant-loop-made g l = record {
  kept : Keeps g.B.Block.sound g.B.Block.ties g.B.Block.edge g.B.Block.fits l.initial.block l.block;
  drawn : g.B.Block.drawing l.block ≡ drawn (g.B.Block.edge l.initial.block) (g.B.Block.drawing l.initial.block) (take l.made l.flips);
  fit : all_fit (g.B.Block.edge l.initial.block) (g.B.Block.fits l.initial.block) (g.B.Block.drawing l.initial.block) (take l.made l.flips) ≡ true;
}
