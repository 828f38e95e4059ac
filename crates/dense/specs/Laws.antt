-- What the meaning of a block asks of a dense board.
use Rattle.std.specs.Prelude.{◌≡◌, ℕ, ◌*◌, ◌<◌, ◌≤◌, Bool, true, false, not, ◌&&◌, List, Decides, nat_lt, refl}
use Rattle.std.proofs.Common.{⊎_elim}
use Rattle.std.proofs.lemmas.Bool.{le-ltb, not-true, not_from_false, and_left, and_right, or_left, or_right, cases_Bool}
use Rattle.std.proofs.lemmas.Bool.Decides.{Decides-below_and}
use Rattle.block.specs.Drawing.{blank}
use Rattle.dense.specs.Cells.{bare_below, cell_in, enough, room, shown}

-- the test of the first m cells tells that none of them is solid
pub bare_decides : (m : ℕ) (d : ℕ → Bool) → Decides (bare_below m d) ((k : ℕ) → k < m → d k ≡ false)
unfolding bare_below
bare_decides m d = Decides-below_and (λ k. not (d k)) (λ k. d k ≡ false) (λ n. bare_below n d) (λ k. (not-true (d k), not_from_false (d k))) refl (λ _. refl) m

-- where the bytes are too few, no cell is solid
pub short_shown : (n : ℕ) (bs : List ℕ) → enough n bs ≡ false → (k : ℕ) → shown n bs k ≡ false
unfolding shown
short_shown n bs e k = and_left (enough n bs && nat_lt k (n * n * n)) (cell_in bs k) (and_left (enough n bs) (nat_lt k (n * n * n)) e)

-- the blank drawing fits
pub blank_fits : (n : ℕ) (bs : List ℕ) → room n bs blank ≡ true
unfolding room
blank_fits n bs = or_right (enough n bs) _ ((bare_decides (n * n * n) blank).1 (λ k h. refl))

-- the drawing that the bytes hold fits
pub shown_fits : (n : ℕ) (bs : List ℕ) → room n bs (shown n bs) ≡ true
unfolding room
shown_fits n bs = ⊎_elim
    (or_left (enough n bs) _)
    (λ e. or_right (enough n bs) _ ((bare_decides (n * n * n) (shown n bs)).1 (λ k h. short_shown n bs e k)))
    (cases_Bool (enough n bs))

-- it has no solid cell outside the box
pub shown_within : (n : ℕ) (bs : List ℕ) (k : ℕ) → n * n * n ≤ k → shown n bs k ≡ false
unfolding shown
shown_within n bs k h = and_left (enough n bs && nat_lt k (n * n * n)) (cell_in bs k) (and_right (enough n bs) (nat_lt k (n * n * n)) (le-ltb k (n * n * n) h))
