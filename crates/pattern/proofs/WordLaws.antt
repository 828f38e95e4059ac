-- The first word of a text: its bytes up to the first space, once the spaces in front are gone.
use Rattle.std.proofs.Common.{◌≡◌, ℕ, ◌≤◌, cond, eqb, List, [], ◌∷◌, length, refl, ap, arith}
use Rattle.std.proofs.lemmas.Bool.Decides.{nat_tests}
use Rattle.pattern.specs.Text.{pieces, without_empty, words}
use Rattle.pattern.proofs.Cuts.{before, from, past_spaces}

-- the spaces in front make no word
pub words_past : (bs : List ℕ) → words bs ≡ words (past_spaces bs)
words_past [] = refl
words_past (c ∷ cs) = grind (arith, nat_tests, words_past cs)

-- the pieces behind the first space
abbrev behind : List ℕ → List (List ℕ)
behind [] = []
behind (c ∷ cs) = cond (eqb c 32) (pieces cs) (behind cs)

pieces_are : (bs : List ℕ) → pieces bs ≡ before 32 bs ∷ behind bs
pieces_are [] = refl
pieces_are (c ∷ cs) = grind (arith, nat_tests, pieces_are cs)

behind_words : (bs : List ℕ) → without_empty (behind bs) ≡ words (from 32 bs)
behind_words [] = refl
behind_words (c ∷ cs) = grind (arith, nat_tests, behind_words cs)

-- where the spaces in front are gone and something is left, that begins with a word
pub first_word : (bs : List ℕ) → past_spaces bs ≡ bs → (bs ≡ [] → ⊥) → words bs ≡ before 32 bs ∷ words (from 32 bs)
first_word [] p n = absurd (n refl)
first_word (c ∷ cs) p n = let h = shorter cs in grind (arith, nat_tests, pieces_are (c ∷ cs), behind_words (c ∷ cs), ap length p)
  where
    shorter : (bs : List ℕ) → length (past_spaces bs) ≤ length bs
    shorter [] = omega arith
    shorter (d ∷ ds) = grind (arith, nat_tests, shorter ds)

pub past_twice : (bs : List ℕ) → past_spaces (past_spaces bs) ≡ past_spaces bs
past_twice [] = refl
past_twice (c ∷ cs) = grind (arith, nat_tests, past_twice cs)
