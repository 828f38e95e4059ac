use Rattle.std.proofs.Common.{◌≡◌, ℕ, ◌-◌, Some, List, [], ◌∷◌, length, take, drop, sym, ap, ◌∙◌, suc, arith}
use Rattle.std.proofs.lemmas.List.{take_rest, nil_from_length}
use Rattle.std.proofs.lemmas.Bool.{eqb-true, eqb-false}
use Rattle.pattern.specs.Text.{words}
use Rattle.pattern.specs.Read.{First, bytes_of}
use Rattle.pattern.proofs.Cuts.{before, before_is, from, from_is, past_is, past_spaces}
use Rattle.pattern.proofs.WordLaws.{words_past, first_word, past_twice}
use Rattle.pattern.proofs.word.WordsIterator.next.Goals as goal

pub returns-then-is_empty-clause-steps : goal.returns-then-is_empty-clause-steps
returns-then-is_empty-clause-steps c =
    let bs = c.args.self.now.rest.now in
    let n = c.count_spaces.result in
    let text : List ℕ = take (length bs - n) (drop n bs) in
    let is : text ≡ past_spaces bs = take_rest bs n ∙ ap (λ n. drop n bs) c.count_spaces.ensures.place ∙ past_is bs in
    let none : text ≡ [] = nil_from_length text (eqb-true (length text) 0 (sym c.if-is_empty.ensures)) in
    (words_past bs ∙ ap words (sym is ∙ none), ap words none)

pub returns : goal.returns
returns c =
    let bs = c.args.self.now.rest.now in
    let n = c.count_spaces.result in
    let text : List ℕ = take (length bs - n) (drop n bs) in
    let is : text ≡ past_spaces bs = take_rest bs n ∙ ap (λ n. drop n bs) c.count_spaces.ensures.place ∙ past_is bs in
    let some : past_spaces bs ≡ [] → ⊥ = λ e. eqb-false (length text) 0 (sym c.if-is_empty.ensures) (ap length (is ∙ e)) in
    let front : c.split_at.result.0.now ≡ before 32 text = c.split_at.ensures.front ∙ ap (λ n. take n text) c.count_before.ensures.place ∙ before_is 32 text in
    let back : c.split_at.result.1.now ≡ from 32 text = c.split_at.ensures.back ∙ ap (λ n. drop n text) c.count_before.ensures.place ∙ from_is 32 text in
    let steps : First bs c.split_at.result.1.now (Some c.new.result) = (
      words_past bs ∙ first_word (past_spaces bs) (past_twice bs) some
          ∙ ap (λ w. w ∷ words (from 32 (past_spaces bs))) (ap (before 32) (sym is) ∙ sym front ∙ sym c.new.ensures.bytes)
          ∙ ap (λ ws. bytes_of c.new.result ∷ words ws) (ap (from 32) (sym is) ∙ sym back),
      c.new.ensures.told,
    ) in
    let fewer : length (words bs) ≡ suc (length (words c.split_at.result.1.now)) = ap length steps.0 in
    record {
      steps = steps;
      goes = record { on = λ h. (tt, h, omega arith); keeps = tt; rests = λ h. tt };
    }
