use Rattle.std.proofs.Common.{◌≡◌, ℕ, Bool, true, is_ok, sym, ap, ◌∙◌}
use Rattle.std.proofs.lemmas.Bool.{cond-true}
use Rattle.block.specs.Drawing.{number}
use Rattle.block.proofs.Calls.{done}
use Rattle.dense.specs.Board.{drawing_of, edge_of, fits_in}
use Rattle.dense.specs.Marks.{marked}
use Rattle.skins.specs.Coats.{made_by}
use Rattle.skins.proofs.Cells.{mark_taken, marked_cell}
use Rattle.skins.proofs.mark_cell.Goals as goal

pub returns-then-is_in_skin : goal.returns-then-is_in_skin
returns-then-is_in_skin c =
    let a = c.args.board.now in
    let n = edge_of a in
    let d = drawing_of a in
    let k = c.args.cell in
    let q = c.mark.result in
    let made = c.mark.ensures in
    let ok : is_ok q ≡ true = done q (made.refused ∙ mark_taken n (fits_in a) d k c.requires.inside c.requires.room) in
    let drawn : drawing_of c.mark.new.self ≡ marked d (number n k.x k.y k.z) = made.drawn ∙ cond-true (is_ok q) _ _ ok in
    record {
      kept = made.kept;
      cells = λ u v w h. ap (λ (e : ℕ → Bool). e (number n u v w)) drawn
          ∙ marked_cell n k.x k.y k.z u v w c.requires.inside h d (made_by c.args.coat.now) (sym c.if-is_in_skin.ensures);
    }
