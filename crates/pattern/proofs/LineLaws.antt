-- The first line of a text: its bytes up to the first line feed.
use Rattle.std.proofs.Common.{◌≡◌, ℕ, ◌<◌, ◌≤◌, List, [], ◌∷◌, length, drop, refl, arith}
use Rattle.std.proofs.lemmas.Bool.Decides.{nat_tests}
use Rattle.pattern.specs.Text.{lines}
use Rattle.pattern.proofs.Cuts.{before, from}

line_at : (c : ℕ) (cs : List ℕ) → lines (c ∷ cs) ≡ before 10 (c ∷ cs) ∷ lines (drop 1 (from 10 (c ∷ cs)))
line_at c [] = grind (arith, nat_tests)
line_at c (d ∷ ds) = grind (arith, nat_tests, line_at d ds)

pub first_line : (bs : List ℕ) → (bs ≡ [] → ⊥) → lines bs ≡ before 10 bs ∷ lines (drop 1 (from 10 bs))
first_line [] n = absurd (n refl)
first_line (c ∷ cs) n = line_at c cs

-- behind it less is left
pub first_less : (bs : List ℕ) → (bs ≡ [] → ⊥) → length (drop 1 (from 10 bs)) < length bs
first_less [] n = absurd (n refl)
first_less (c ∷ cs) n = grind (arith, nat_tests, shorter cs)
  where
    shorter : (bs : List ℕ) → length (drop 1 (from 10 bs)) ≤ length bs
    shorter [] = omega arith
    shorter (d ∷ ds) = grind (arith, nat_tests, shorter ds)
