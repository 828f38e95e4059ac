use Rattle.std.proofs.Common.{◌≡◌, length, take, sym, refl, ◌∙◌, subst, arith}
use Rattle.std.proofs.lemmas.List.{take_all, take_more}
use Rattle.toggles.specs.Present.{present}
use Rattle.closing.specs.Holds.{Holds}
use Rattle.closing.proofs.Closes.{holds_none, none_means, odd_means}
use Rattle.closing.proofs.check.check_sides.Goals as goal

pub loop-t-init : goal.loop-t-init
loop-t-init c = record { same_room = refl; few = omega arith; holds = holds_none _ c.new-loose.ensures.empty }

pub loop-t-preserved : goal.loop-t-preserved
loop-t-preserved c =
    let ts = c.args.triangles.now in
    let i = c.loop-t.t-index in
    record {
      same_room = c.toggle_sides.ensures.shelf.room ∙ c.loop-t.invariant.same_room;
      few = omega arith;
      holds = subst (Holds (present c.toggle_sides.new.loose)) (sym (take_more ts i _ c.loop-t-test.true))
          (c.in_ok-toggle_sides.ensures.holds (take i ts) c.loop-t.invariant.holds);
    }

pub returns-in-Some : goal.returns-in-Some
returns-in-Some c =
    let ts = c.args.triangles.now in
    let ks = present c.loop-t.loose in
    let all : take c.loop-t.t-index ts ≡ ts = take_all c.loop-t.t-index ts (omega arith) in
    let h : Holds ks ts = subst (Holds ks) all c.loop-t.invariant.holds in
    odd_means c.in-Some.side ks ts (length c.args.shelf.now) (omega arith) h (sym c.get.ensures ∙ c.in-Some.is)

pub returns-in-None : goal.returns-in-None
returns-in-None c =
    let ts = c.args.triangles.now in
    let ks = present c.loop-t.loose in
    let all : take c.loop-t.t-index ts ≡ ts = take_all c.loop-t.t-index ts (omega arith) in
    let h : Holds ks ts = subst (Holds ks) all c.loop-t.invariant.holds in
    none_means ks ts (length c.args.shelf.now) (omega arith) h (sym c.get.ensures ∙ c.in-None.is)
