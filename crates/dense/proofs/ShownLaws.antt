-- The drawing that bytes hold, and what fits in them.
use Rattle.std.proofs.Common.{◌≡◌, ℕ, ◌*◌, ◌/◌, ◌<◌, ◌≤◌, Bool, true, false, not, ◌&&◌, ◌||◌, eqb, ltb, leb, List, ◌++◌, length, drop, replicate, Decides, sym, refl, ap, ◌∙◌, ⊎_elim, arith}
use mathlib.Core.Path.{fun_ext}
use lib.ListN.{get_or-replicate, length-replicate}
use Rattle.std.proofs.lemmas.List.{get_or_append_left}
use Rattle.std.proofs.lemmas.Bool.{lt-ltb, and_from, and_right, or_left, or_from, cond-true, cond-false, cases_Bool, cases_lt, eq-eqb, ne_eqb, true≢false}
use Rattle.std.proofs.lemmas.Bool.Decides.{Decides-at}
use Rattle.refusals.specs.Sides.{is_side}
use Rattle.block.specs.Drawing.{blank, turned}
use Rattle.block.proofs.Sides.{cube_some, cube_eights}
use Rattle.block.proofs.Turns.{turned_high, turned_in}
use Rattle.dense.specs.Cells.{BlankIn, bytes_for, cell_in, enough, shown, bare_below, room, wiped}
use Rattle.dense.specs.Laws.{bare_decides, short_shown, shown_within}
use Rattle.dense.specs.declared.Dense.{Dense}
use Rattle.dense.specs.Board.{Kept, Tied, bytes_of, edge_of}
use Rattle.dense.specs.Marks.{marked}
use Rattle.dense.proofs.BitLaws.{cell_zero}

-- with enough bytes a cell of the box shows what its bit is
pub shown_in : (n : ℕ) (bs : List ℕ) (k : ℕ) → enough n bs ≡ true → k < n * n * n → shown n bs k ≡ cell_in bs k
unfolding shown
shown_in n bs k e h = ap (λ t. t && cell_in bs k) (and_from (enough n bs) (ltb k (n * n * n)) e (lt-ltb k (n * n * n) h))

-- a cell whose bit is 0 is empty
pub shown_clear : (n : ℕ) (bs : List ℕ) (k : ℕ) → cell_in bs k ≡ false → shown n bs k ≡ false
unfolding shown
shown_clear n bs k e = and_right (enough n bs && ltb k (n * n * n)) (cell_in bs k) e

-- a change of the bytes, cell by cell, that makes nothing solid outside the box, is the same change of the drawing
pub shown_changed : (n : ℕ) (bs cs : List ℕ) (f : ℕ → Bool → Bool) → enough n bs ≡ true → length cs ≡ length bs
    → ((k : ℕ) → n * n * n ≤ k → f k false ≡ false) → ((k : ℕ) → cell_in cs k ≡ f k (cell_in bs k)) → (k : ℕ) → shown n cs k ≡ f k (shown n bs k)
shown_changed n bs cs f e len out t k = ⊎_elim
    (λ h. shown_in n cs k (ap (leb (bytes_for n)) len ∙ e) h ∙ t k ∙ ap (f k) (sym (shown_in n bs k e h)))
    (λ h. shown_within n cs k h ∙ sym (out k h) ∙ ap (f k) (sym (shown_within n bs k h)))
    (cases_lt k (n * n * n))

-- so for a changed run and for a marked cell
pub shown_turned : (n : ℕ) (bs cs : List ℕ) (lo hi : ℕ) → enough n bs ≡ true → length cs ≡ length bs → hi ≤ n * n * n
    → cell_in cs ≡ turned (cell_in bs) lo hi → shown n cs ≡ turned (shown n bs) lo hi
unfolding turned
shown_turned n bs cs lo hi e len h t = fun_ext (shown_changed n bs cs (λ k b. turned (λ _. b) lo hi k) e len
    (λ k out. turned_high blank lo hi k (omega arith))
    (λ k. ap (λ (d : ℕ → Bool). d k) t))

pub shown_marked : (n : ℕ) (bs cs : List ℕ) (k : ℕ) → enough n bs ≡ true → length cs ≡ length bs → k < n * n * n
    → cell_in cs ≡ marked (cell_in bs) k → shown n cs ≡ marked (shown n bs) k
unfolding marked
shown_marked n bs cs k e len h t = fun_ext (shown_changed n bs cs (λ j b. eqb j k || b) e len
    (λ j out. let ne : j ≡ k → ⊥ = omega arith in or_from (eqb j k) false (ne_eqb j k ne) refl)
    (λ j. ap (λ (d : ℕ → Bool). d j) t))

-- a new board shows no cell
pub wiped_blank : (n : ℕ) (bs : List ℕ) → is_side n ≡ true → shown n (wiped n bs) ≡ blank
wiped_blank n bs s = ⊎_elim enough_blank short_blank (cases_Bool (enough n bs))
  where
    short_blank : enough n bs ≡ false → shown n (wiped n bs) ≡ blank
    short_blank e = ap (shown n) (cond-false (enough n bs) _ bs e) ∙ fun_ext (short_shown n bs e)

    clear : (k : ℕ) → k < n * n * n → cell_in (replicate (bytes_for n) 0 ++ drop (bytes_for n) bs) k ≡ false
    clear k h =
        let w : k / 8 < bytes_for n = omega (arith, cube_eights n s) in
        cell_zero _ k (get_or_append_left (replicate (bytes_for n) 0) (drop (bytes_for n) bs) 0 (k / 8) (omega (arith, length-replicate {A = ℕ} (bytes_for n) 0)) ∙ get_or-replicate (bytes_for n) (k / 8) 0 0 w)

    enough_blank : enough n bs ≡ true → shown n (wiped n bs) ≡ blank
    enough_blank e = ap (shown n) (cond-true (enough n bs) _ bs e) ∙ fun_ext (λ k. ⊎_elim (λ h. shown_clear n _ k (clear k h)) (shown_within n _ k) (cases_lt k (n * n * n)))

-- with enough bytes every drawing fits
pub enough_fits : (n : ℕ) (bs : List ℕ) → enough n bs ≡ true → (d : ℕ → Bool) → room n bs d ≡ true
unfolding room
enough_fits n bs e d = or_left (enough n bs) (bare_below (n * n * n) d) e

-- with too few bytes just the drawings fit that are blank in the box
pub short_decides : (n : ℕ) (bs : List ℕ) → enough n bs ≡ false → (d : ℕ → Bool) → Decides (room n bs d) (BlankIn n d)
unfolding room
short_decides n bs e d = Decides-at _ _ (ap (λ t. t || bare_below (n * n * n) d) e) (bare_decides (n * n * n) d)

-- so none that has a solid cell there
pub short_refuses : (n : ℕ) (bs : List ℕ) → enough n bs ≡ false → (d : ℕ → Bool) (k : ℕ) → k < n * n * n → d k ≡ true → room n bs d ≡ false
short_refuses n bs e d k h t = ⊎_elim (λ r. absurd (true≢false (sym t ∙ (short_decides n bs e d).0 r k h))) (λ r. r) (cases_Bool (room n bs d))

-- whether there are enough bytes is whether every drawing fits
pub enough_decides : (n : ℕ) (bs : List ℕ) → is_side n ≡ true → Decides (enough n bs) ((d : ℕ → Bool) → room n bs d ≡ true)
enough_decides n bs s = (enough_fits n bs, λ all. ⊎_elim (λ e. e) (λ e. absurd (true≢false (sym (all (λ _. true)) ∙ short_refuses n bs e (λ _. true) 0 (cube_some n s) refl))) (cases_Bool (enough n bs)))

-- what fits is settled by how many bytes there are
pub room_same : (n : ℕ) (bs cs : List ℕ) → length cs ≡ length bs → room n cs ≡ room n bs
unfolding room
room_same n bs cs len = fun_ext (λ d. ap (λ (m : ℕ). leb (bytes_for n) m || bare_below (n * n * n) d) len)

-- a drawing with a marked cell, and one with a changed run, fits just where there are enough bytes
pub fits_marked : (n : ℕ) (bs : List ℕ) (k : ℕ) → k < n * n * n → enough n bs ≡ room n bs (marked (shown n bs) k)
unfolding marked
fits_marked n bs k h = ⊎_elim
    (λ e. e ∙ sym (enough_fits n bs e _))
    (λ e. e ∙ sym (short_refuses n bs e (marked (shown n bs) k) k h (or_left (eqb k k) (shown n bs k) (eq-eqb k k refl))))
    (cases_Bool (enough n bs))

pub fits_turned : (n : ℕ) (bs : List ℕ) (lo hi : ℕ) → lo < hi → hi ≤ n * n * n → enough n bs ≡ room n bs (turned (shown n bs) lo hi)
fits_turned n bs lo hi l h =
    let here : lo ≤ lo = omega arith in
    let within : lo < n * n * n = omega arith in
    ⊎_elim
    (λ e. e ∙ sym (enough_fits n bs e _))
    (λ e. e ∙ sym (short_refuses n bs e (turned (shown n bs) lo hi) lo within (turned_in (shown n bs) lo hi lo here l ∙ ap not (short_shown n bs e lo))))
    (cases_Bool (enough n bs))

-- a board over the same lent bytes keeps what a call has to keep
pub tied_kept : (b c : Dense) → Tied b c → Kept b c
tied_kept b c t = record {
  still_sound = tt;
  same_loans = t;
  same_side = t.same_edge;
  same_fits = ap (λ (n : ℕ). room n (bytes_of c)) t.same_edge ∙ room_same (edge_of b) (bytes_of b) (bytes_of c) t.same_length;
}
