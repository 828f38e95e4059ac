use Rattle.std.proofs.Common.{◌≡◌, List, Some, None, Ok, Err, Option, Result, refl, rules}
use Rattle.std.proofs.lemmas.Result.{err_from_is_err_and}
use Rattle.std.specs.Option.{option_map}
use Rattle.refusals.specs.declared.Refusal.{Refusal}
use Rattle.refusals.specs.declared.box_side.BoxSide.{BoxSide}
use Rattle.refusals.specs.BoxSides.{cells_of}
use Rattle.pattern.specs.declared.state.State.{State}
use Rattle.pattern.specs.declared.reader.Reader.{Reader}
use Rattle.pattern.specs.Lines.{Spoken}
use Rattle.pattern.specs.Pattern.{Stand, settled, side_from}
use Rattle.pattern.specs.Read.{SideRead, Sided, stand_of}
use Rattle.pattern.proofs.reader.Reader.side.Goals as goal

-- where the side is not read yet, it is read now
not_settled : (d : Option BoxSide) (s : State) (ls : List Spoken) → ((b : BoxSide) → d ≡ Some b → ⊥)
    → settled (record { state = s; side = option_map cells_of d; left = ls }) ≡ side_from s ls
not_settled None s ls n = refl
not_settled (Some b) s ls n = absurd (n b refl)

-- a side that is refused leaves the reader
refused : (x : Result Stand Refusal) (before after : Reader) (q : Refusal) → SideRead x after (Err q) → Sided x before before (Err q)
refused (Ok d) before after q h = absurd h
refused (Err r) before after q h = (h, refl)

pub returns-in_err-side : goal.returns-in_err-side
returns-in_err-side c =
    let p = err_from_is_err_and c.from_residual.result c.from_residual.ensures.1 in
    let r = c.args.self.now in
    let e = not_settled r.side r.state (stand_of r).left c.in_default.not-Some in
    let h = refused _ r c.read_side.new.self _ c.in_err-side.ensures in
    rw (p.1, p.2, e) (search rules)
