-- One row more, and one row back.
use Rattle.std.proofs.Common.{◌≡◌, ℕ, zero, suc, ◌+◌, ◌-◌, ◌*◌, ◌/◌, ◌%◌, ◌<◌, ◌≤◌, Bool, true, false, ◌&&◌, List, length, Ok, Err, sym, refl, ap, ◌∙◌, subst, ⊎_elim, add-zero, arith}
use Rattle.std.proofs.lemmas.List.{length-append}
use Rattle.std.proofs.lemmas.Bool.{cond-true, cond-false, cases_Bool, both_ways, and_parts, and_from, and_right}
use Rattle.refusals.specs.declared.Refusal.TheVariants.{NoSand}
use Rattle.block.specs.declared.cells.Run.{Run}
use Rattle.flips.specs.Flips.{flips_of, first_rows}
use Rattle.flips.specs.Drawn.{drawn, all_fit, flips_answer, InBox}
use Rattle.flips.proofs.Made.{drawn_append, all_fit_append, fits_end, fit_moved}
use Rattle.flips.proofs.Rows.{row_in_box, row_y, row_z, numbered, rows_all, rows_more}

module _ (n : ℕ) (solid : ℕ → ℕ → ℕ → Bool) (i : ℕ) (fs : List Run) (cut : fs ≡ numbered n solid i) where
  -- the flips of a row lie in the box
  pub cut_in_box : {m : ℕ} → m ≡ n → i < n * n → InBox m fs
  cut_in_box side h =
      subst (λ (k : ℕ). InBox k fs) (sym side) (subst (InBox n) (sym cut) (row_in_box solid n (i % n) (i / n) (row_y n i h) (row_z n i h)))

  pub count_more : (count k : ℕ) → count ≡ length (first_rows n solid i) → length fs ≡ k → count + k ≡ length (first_rows n solid (i + 1))
  count_more count k e l = omega (arith, ap length (rows_more n solid i), length-append (first_rows n solid i) (numbered n solid i), ap length cut)

module _ (n : ℕ) (solid : ℕ → ℕ → ℕ → Bool) (F : (ℕ → Bool) → Bool) (d : ℕ → Bool) where
  -- on the way from the drawing d: the drawing after the first rows, and whether the drawings on the way to it fit
  abbrev after : ℕ → ℕ → Bool
  after i = drawn n d (first_rows n solid i)

  abbrev fit : ℕ → Bool
  fit i = all_fit n F d (first_rows n solid i)

  fit_more : (i : ℕ) → fit (i + 1) ≡ (fit i && all_fit n F (after i) (numbered n solid i))
  fit_more i = ap (all_fit n F d) (rows_more n solid i) ∙ all_fit_append n F d (first_rows n solid i) (numbered n solid i)

  fit_first : (i count : ℕ) → i ≤ count → fit count ≡ true → fit i ≡ true
  fit_first i count l h = let e : i + (count - i) ≡ count = omega arith in fewer (count - i) (ap fit e ∙ h)
    where
      fewer : (more : ℕ) → fit (i + more) ≡ true → fit i ≡ true
      fewer zero h = ap fit (sym (add-zero i)) ∙ h
      fewer (suc more) h = let e : i + more + 1 ≡ i + suc more = omega arith in fewer more (and_parts _ _ (sym (fit_more (i + more)) ∙ ap fit e ∙ h)).0

  module _ (i : ℕ) (fs : List Run) (cut : fs ≡ numbered n solid i) {m : ℕ} {G : (ℕ → Bool) → Bool} (side : m ≡ n) (fits : G ≡ F) where
    fit_here : (e : ℕ → Bool) → e ≡ after i → all_fit m G e fs ≡ all_fit n F (after i) (numbered n solid i)
    fit_here e now = fit_moved e fs side fits ∙ ap (λ (k : ℕ → Bool). all_fit n F k fs) now ∙ ap (all_fit n F (after i)) cut

    drawn_here : (e : ℕ → Bool) → e ≡ after i → drawn m e fs ≡ after (i + 1)
    drawn_here e now =
        ap (λ k. drawn k e fs) side ∙ ap (λ (k : ℕ → Bool). drawn n k fs) now ∙ ap (drawn n (after i)) cut
        ∙ sym (ap (drawn n d) (rows_more n solid i) ∙ drawn_append n d (first_rows n solid i) (numbered n solid i))

    -- the row is made
    pub row_made : (e : ℕ → Bool) → e ≡ after i → fit i ≡ true → all_fit m G e fs ≡ true → (drawn m e fs ≡ after (i + 1)) × (fit (i + 1) ≡ true)
    row_made e now a h = (drawn_here e now, fit_more i ∙ and_from _ _ a (sym (fit_here e now) ∙ h))

    -- the row is refused
    pub row_not : (e : ℕ → Bool) → e ≡ after i → i < n * n → all_fit m G e fs ≡ false → all_fit n F d (flips_of n solid) ≡ false
    row_not e now l h =
        let broken : fit (i + 1) ≡ false = fit_more i ∙ and_right _ _ (sym (fit_here e now) ∙ h) in
        ap (all_fit n F d) (sym (rows_all n solid))
        ∙ ⊎_elim (λ whole. absurd (both_ways (fit (i + 1)) broken (fit_first (i + 1) (n * n) (omega arith) whole))) (λ none. none) (cases_Bool (fit (n * n)))

    -- the row is made again
    pub row_undone : (e f : ℕ → Bool) (count : ℕ) → i + 1 ≤ count → F d ≡ true → fit count ≡ true → e ≡ after (i + 1)
        → ((c : ℕ → Bool) → G c ≡ true → all_fit m G c fs ≡ true → e ≡ drawn m c fs → f ≡ c) → f ≡ after i
    row_undone e f count l start way now back =
        let up = and_parts _ _ (sym (fit_more i) ∙ fit_first (i + 1) count l way) in
        back (after i) (ap (λ (K : (ℕ → Bool) → Bool). K (after i)) fits ∙ fits_end n F d (first_rows n solid i) start up.0)
        (fit_here (after i) refl ∙ up.1) (now ∙ sym (drawn_here (after i) refl))

  -- ---- the whole box

  -- all rows are made
  pub all_made : (i count : ℕ) (e : ℕ → Bool) → i ≡ n * n → e ≡ after i → fit i ≡ true → count ≡ length (first_rows n solid i)
      → (Ok count ≡ flips_answer n F d (flips_of n solid)) × (e ≡ drawn n d (flips_of n solid))
  all_made i count e all now fits long =
      let at : first_rows n solid i ≡ flips_of n solid = ap (first_rows n solid) all ∙ rows_all n solid in (
        ap Ok (long ∙ ap length at) ∙ sym (cond-true (all_fit n F d (flips_of n solid)) _ _ (ap (all_fit n F d) (sym at) ∙ fits)),
        now ∙ ap (drawn n d) at,
      )

  -- some row is refused
  pub none_made : all_fit n F d (flips_of n solid) ≡ false → Err NoSand ≡ flips_answer n F d (flips_of n solid)
  none_made broken = sym (cond-false (all_fit n F d (flips_of n solid)) _ _ broken)
