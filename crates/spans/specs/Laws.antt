-- What the meaning of a block asks of a span block.
use Rattle.std.specs.Prelude.{◌≡◌, ℕ, zero, suc, ◌≤◌, Bool, true, false, List, length, nat_le, nat_lt, refl}
use Rattle.std.proofs.Common.{◌+◌, ◌∙◌, ap, sym}
use lib.Dec.{leb-zero}
use Rattle.std.proofs.lemmas.Bool.{le-leb, le-ltb, and_left}
use Rattle.block.specs.Drawing.{blank}
use Rattle.toggles.proofs.Sizes.{within_room}
use Rattle.spans.specs.declared.Spans.{Spans}
use Rattle.spans.specs.Changes.{ChangePlaces, changes, count, differs}
use Rattle.spans.specs.Shown.{odd, shown, upto}
use Rattle.spans.specs.Meaning.{Sound, Tied, drawing_of, fits_in, lent_to, places_of, volume_of}

-- the blank drawing has no change places
pub blank_changes : (n : ℕ) → changes n blank ≡ 0
unfolding count differs
blank_changes zero = refl
blank_changes (suc zero) = refl
blank_changes (suc (suc n)) = ap (λ k. 0 + k) (blank_changes (suc n))

-- it fits
pub blank_fits : (b : Spans) → fits_in b blank ≡ true
blank_fits b = ap (λ k. nat_le k (length (lent_to b))) (blank_changes (volume_of b)) ∙ leb-zero (length (lent_to b))

-- a drawing fits where there is room for its change places
pub listed_fits : (m n : ℕ) (d : ℕ → Bool) (ps : List ℕ) → ChangePlaces m d ps → length ps ≤ n → nat_le (changes m d) n ≡ true
listed_fits m n d ps h l = ap (λ k. nat_le k n) (sym h.many) ∙ le-leb (length ps) n l

-- the present drawing fits
pub kept_fits : (b : Spans) → Sound b → fits_in b (drawing_of b) ≡ true
kept_fits b h = listed_fits (volume_of b) (length (lent_to b)) (drawing_of b) (places_of b) h (within_room b.list)

-- no cell outside the box is solid
pub shown_within : (m : ℕ) (ps : List ℕ) (k : ℕ) → m ≤ k → shown m ps k ≡ false
unfolding shown
shown_within m ps k h = and_left (nat_lt k m) (odd (upto ps k)) (le-ltb k m h)

-- a block is tied to itself, and over several calls
pub tied_same : (b : Spans) → Tied b b
tied_same b = record { room = refl; loan = refl }

pub tied_on : (a b c : Spans) → Tied a b → Tied b c → Tied a c
tied_on a b c s t = record { room = t.room ∙ s.room; loan = t.loan ∙ s.loan }
