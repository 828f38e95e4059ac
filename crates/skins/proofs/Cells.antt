-- One marked cell.
use Rattle.std.proofs.Common.{◌≡◌, ℕ, ◌*◌, ◌/◌, ◌%◌, Bool, true, false, ◌&&◌, ◌||◌, eqb, ◌⊎◌, None, sym, refl, ap, ◌∙◌, inl, inr, ⊎_elim}
use Rattle.std.proofs.Math.Bool.{or-false, or-true}
use Rattle.std.proofs.lemmas.Bool.{cases_eq, cond-true, eq-eqb, ne_eqb}
use Rattle.block.specs.declared.cells.Cell.{Cell}
use Rattle.block.specs.Drawing.{in_box, number}
use Rattle.block.proofs.Numbers.{in_box_true}
use Rattle.block.proofs.Rows.{number_x, number_y, number_z}
use Rattle.dense.specs.Marks.{mark_refusal, marked}

-- cells of the box with one number are one cell
module _ (n x y z u v w : ℕ) (h : in_box n x y z ≡ true) (k : in_box n u v w ≡ true) where
  same_x : number n u v w ≡ number n x y z → u ≡ x
  same_x e = sym (number_x n u v w (in_box_true n u v w k).0) ∙ ap (λ m. m % n) e ∙ number_x n x y z (in_box_true n x y z h).0

  same_y : number n u v w ≡ number n x y z → v ≡ y
  same_y e = let a = in_box_true n u v w k in let b = in_box_true n x y z h in
      sym (number_y n u v w a.0 a.1) ∙ ap (λ m. m / n % n) e ∙ number_y n x y z b.0 b.1

  same_z : number n u v w ≡ number n x y z → w ≡ z
  same_z e = let a = in_box_true n u v w k in let b = in_box_true n x y z h in
      sym (number_z n u v w a.0 a.1) ∙ ap (λ m. m / (n * n)) e ∙ number_z n x y z b.0 b.1

  -- a mark at (x, y, z), where the test holds, is one at each cell that is this one and passes the test
  pub marked_cell : (d : ℕ → Bool) (T : ℕ → ℕ → ℕ → Bool) → T x y z ≡ true
      → marked d (number n x y z) (number n u v w) ≡ (d (number n u v w) || (eqb u x && (eqb v y && (eqb w z && T u v w))))
  unfolding marked
  marked_cell d T t = ⊎_elim here away (cases_eq (number n u v w) (number n x y z))
    where
      yes : (b c : Bool) → b ≡ true → c ≡ true → (b || d (number n u v w)) ≡ (d (number n u v w) || c)
      yes b c e f = rw (e, f) (sym (or-true (d (number n u v w))))

      no : (b c : Bool) → b ≡ false → c ≡ false → (b || d (number n u v w)) ≡ (d (number n u v w) || c)
      no b c e f = rw (e, f) (sym (or-false (d (number n u v w))))

      here : number n u v w ≡ number n x y z → (eqb (number n u v w) (number n x y z) || d (number n u v w)) ≡ (d (number n u v w) || (eqb u x && (eqb v y && (eqb w z && T u v w))))
      here e = yes _ _ (eq-eqb _ _ e) all
        where
          all : (eqb u x && (eqb v y && (eqb w z && T u v w))) ≡ true
          all = rw (eq-eqb u x (same_x e), eq-eqb v y (same_y e), eq-eqb w z (same_z e)) (ap (λ m. T m v w) (same_x e) ∙ ap (λ m. T x m w) (same_y e) ∙ ap (λ m. T x y m) (same_z e) ∙ t)

      away : (number n u v w ≡ number n x y z → ⊥) → (eqb (number n u v w) (number n x y z) || d (number n u v w)) ≡ (d (number n u v w) || (eqb u x && (eqb v y && (eqb w z && T u v w))))
      away ne = no _ _ (ne_eqb _ _ ne) (none (cases_eq u x) (cases_eq v y) (cases_eq w z))
        where
          none : (u ≡ x) ⊎ (u ≡ x → ⊥) → (v ≡ y) ⊎ (v ≡ y → ⊥) → (w ≡ z) ⊎ (w ≡ z → ⊥) → (eqb u x && (eqb v y && (eqb w z && T u v w))) ≡ false
          none (inl p) (inl q) (inl r) = absurd (ne (ap (λ m. number n m v w) p ∙ ap (λ m. number n x m w) q ∙ ap (λ m. number n x y m) r))
          none (inr p) q r = rw (ne_eqb u x p) refl
          none (inl p) (inr q) r = rw (eq-eqb u x p, ne_eqb v y q) refl
          none (inl p) (inl q) (inr r) = rw (eq-eqb u x p, eq-eqb v y q, ne_eqb w z r) refl

-- a mark in the box is refused nowhere, where all drawings fit
pub mark_taken : (n : ℕ) (F : (ℕ → Bool) → Bool) (d : ℕ → Bool) (c : Cell) → in_box n c.x c.y c.z ≡ true → ((e : ℕ → Bool) → F e ≡ true) → mark_refusal n F d c ≡ None
mark_taken n F d c h f = cond-true (in_box n c.x c.y c.z) _ _ h ∙ cond-true (F (marked d (number n c.x c.y c.z))) _ _ (f _)
