use Rattle.std.proofs.Common.{◌≡◌, ℕ, ◌<◌, List, [], ◌∷◌, length, take, drop, sym, refl, ap, ◌∙◌, subst}
use Rattle.std.proofs.lemmas.List.{nil_from_length}
use Rattle.std.proofs.lemmas.Bool.{eqb-true, eqb-false}
use Rattle.pattern.specs.Text.{lines}
use Rattle.pattern.proofs.Cuts.{from, before_is, from_is}
use Rattle.pattern.proofs.LineLaws.{first_line, first_less}
use Rattle.pattern.proofs.reader.Reader.take_line.Goals as goal

pub returns-then-is_empty : goal.returns-then-is_empty
returns-then-is_empty c = (nil_from_length _ (eqb-true _ 0 (sym c.if-is_empty.ensures)), refl)

pub returns : goal.returns
returns c =
    let bs = c.args.self.now.rest.now in
    let some : bs ≡ [] → ⊥ = λ e. eqb-false (length bs) 0 (sym c.if-is_empty.ensures) (ap length e) in
    let end = c.count_before-end.ensures.place in
    let rest : c.behind_first-self.result.now ≡ drop 1 (from 10 bs) =
    c.behind_first-self.ensures ∙ ap (drop 1) (c.split_at.ensures.back ∙ ap (λ n. drop n bs) end ∙ from_is 10 bs) in
    record {
      text = first_line bs some
          ∙ ap (λ w. w ∷ lines (drop 1 (from 10 bs))) (sym (c.split_at.ensures.front ∙ ap (λ n. take n bs) end ∙ before_is 10 bs))
          ∙ ap (λ xs. c.split_at.result.0.now ∷ lines xs) (sym rest);
      count = refl;
      state = refl;
      side = refl;
      less = subst (λ (xs : List ℕ). length xs < length bs) (sym rest) (first_less bs some);
    }
