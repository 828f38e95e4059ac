-- Nine numbers for each entry.
use Rattle.std.proofs.Common.{◌≡◌, ℕ, zero, suc, ◌+◌, ◌/◌, ◌%◌, List, [], ◌∷◌, length, min, map, ℤ, Some, None, refl, sym, ap, ◌∙◌, arith}
use Rattle.std.specs.Simd.{first_chunks}
use Rattle.shapes.specs.Entries.{entry_at}
use Rattle.shapes.specs.ByNine.{by_nine, nine}

-- how many entries there are
pub length_by_nine : (xs : List ℤ) → length xs / 9 + min 1 (length xs % 9) ≡ length (by_nine xs)
length_by_nine [] = refl
length_by_nine (a ∷ []) = refl
length_by_nine (a ∷ b ∷ []) = refl
length_by_nine (a ∷ b ∷ c ∷ []) = refl
length_by_nine (a ∷ b ∷ c ∷ d ∷ []) = refl
length_by_nine (a ∷ b ∷ c ∷ d ∷ e ∷ []) = refl
length_by_nine (a ∷ b ∷ c ∷ d ∷ e ∷ f ∷ []) = refl
length_by_nine (a ∷ b ∷ c ∷ d ∷ e ∷ f ∷ g ∷ []) = refl
length_by_nine (a ∷ b ∷ c ∷ d ∷ e ∷ f ∷ g ∷ h ∷ []) = refl
length_by_nine (a ∷ b ∷ c ∷ d ∷ e ∷ f ∷ g ∷ h ∷ i ∷ rest) = omega (arith, length_by_nine rest)

-- behind the nines there is at most a hole
hole : (k : ℕ) → entry_at (None ∷ []) k ≡ None
hole zero = refl
hole (suc k) = refl

-- the entry of a number, from the first m nines, where there are as many
by_chunks : (xs : List ℤ) (m k : ℕ) → m ≡ length xs / 9 → entry_at (by_nine xs) k ≡ entry_at (map (λ c. Some (nine c)) (first_chunks 9 m xs)) k
by_chunks ([]) zero k q = refl
by_chunks ([]) (suc m) k q = absurd (omega arith)
by_chunks (a ∷ []) zero k q = hole k
by_chunks (a ∷ []) (suc m) k q = absurd (omega arith)
by_chunks (a ∷ b ∷ []) zero k q = hole k
by_chunks (a ∷ b ∷ []) (suc m) k q = absurd (omega arith)
by_chunks (a ∷ b ∷ c ∷ []) zero k q = hole k
by_chunks (a ∷ b ∷ c ∷ []) (suc m) k q = absurd (omega arith)
by_chunks (a ∷ b ∷ c ∷ d ∷ []) zero k q = hole k
by_chunks (a ∷ b ∷ c ∷ d ∷ []) (suc m) k q = absurd (omega arith)
by_chunks (a ∷ b ∷ c ∷ d ∷ e ∷ []) zero k q = hole k
by_chunks (a ∷ b ∷ c ∷ d ∷ e ∷ []) (suc m) k q = absurd (omega arith)
by_chunks (a ∷ b ∷ c ∷ d ∷ e ∷ f ∷ []) zero k q = hole k
by_chunks (a ∷ b ∷ c ∷ d ∷ e ∷ f ∷ []) (suc m) k q = absurd (omega arith)
by_chunks (a ∷ b ∷ c ∷ d ∷ e ∷ f ∷ g ∷ []) zero k q = hole k
by_chunks (a ∷ b ∷ c ∷ d ∷ e ∷ f ∷ g ∷ []) (suc m) k q = absurd (omega arith)
by_chunks (a ∷ b ∷ c ∷ d ∷ e ∷ f ∷ g ∷ h ∷ []) zero k q = hole k
by_chunks (a ∷ b ∷ c ∷ d ∷ e ∷ f ∷ g ∷ h ∷ []) (suc m) k q = absurd (omega arith)
by_chunks (a ∷ b ∷ c ∷ d ∷ e ∷ f ∷ g ∷ h ∷ i ∷ rest) zero k q = absurd (omega arith)
by_chunks (a ∷ b ∷ c ∷ d ∷ e ∷ f ∷ g ∷ h ∷ i ∷ rest) (suc m) zero q = refl
by_chunks (a ∷ b ∷ c ∷ d ∷ e ∷ f ∷ g ∷ h ∷ i ∷ rest) (suc m) (suc k) q = by_chunks rest m k (omega arith)

-- the entry of a number, from the nines
pub entry_at_by_nine : (xs : List ℤ) (nines : List (List ℤ)) (k : ℕ) → nines ≡ first_chunks 9 (length xs / 9) xs
    → entry_at (by_nine xs) k ≡ entry_at (map (λ c. Some (nine c)) nines) k
entry_at_by_nine xs nines k e = by_chunks xs _ k refl ∙ ap (λ ns. entry_at (map (λ c. Some (nine c)) ns) k) (sym e)
