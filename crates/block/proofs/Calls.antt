-- What calls of a block answer.
use Rattle.std.proofs.Common.{◌≡◌, ℕ, Bool, true, false, cond, is_ok, Some, None, Ok, Err, Result, refl, ap, ◌∙◌, arith}
use Rattle.std.proofs.lemmas.Bool.{cond-true, cond-false}
use Rattle.refusals.specs.declared.Refusal.{Refusal}
use Rattle.refusals.specs.declared.Refusal.TheVariants.{NoSand, OffBox}
use Rattle.block.specs.declared.cells.Cell.{Cell}
use Rattle.block.specs.declared.cells.Run.{Run}
use Rattle.block.specs.Drawing.{changed, flip_refusal, in_box, in_row, looked, number, refusal_of}

-- a look into the box
pub looked_in : (n : ℕ) (d : ℕ → Bool) (c : Cell) → in_box n c.x c.y c.z ≡ true → looked n d c ≡ Ok (d (number n c.x c.y c.z))
looked_in n d c h = cond-true (in_box n c.x c.y c.z) _ _ h

-- a flip in the box is refused just where the changed drawing does not fit
pub flip_fits : (n : ℕ) (F : (ℕ → Bool) → Bool) (d : ℕ → Bool) (w : Run) → in_row n w ≡ true → F (changed n d w) ≡ true → flip_refusal n F d w ≡ None
flip_fits n F d w h f = cond-true (in_row n w) _ _ h ∙ cond-true (F (changed n d w)) _ _ f

pub flip_full : (n : ℕ) (F : (ℕ → Bool) → Bool) (d : ℕ → Bool) (w : Run) → in_row n w ≡ true → F (changed n d w) ≡ false → flip_refusal n F d w ≡ Some NoSand
flip_full n F d w h f = cond-true (in_row n w) _ _ h ∙ cond-false (F (changed n d w)) _ _ f

pub flip_none : (n : ℕ) (F : (ℕ → Bool) → Bool) (d : ℕ → Bool) (w : Run) → flip_refusal n F d w ≡ None → (in_row n w ≡ true) × (F (changed n d w) ≡ true)
flip_none n F d w = by (in_row n w) (F (changed n d w))
  where
    by : (a b : Bool) → cond a (cond b None (Some NoSand)) (Some OffBox) ≡ None → (a ≡ true) × (b ≡ true)
    by true true e = (refl, refl)
    by true false e = let z : ◌≡◌ {A = ℕ} 0 1 = cc in absurd (omega arith)
    by false b e = let z : ◌≡◌ {A = ℕ} 0 1 = cc in absurd (omega arith)

-- a call with no refusal is done, and one with a refusal answers it
pub done : {A : Type 0} (q : Result A Refusal) → refusal_of q ≡ None → is_ok q ≡ true
done (Ok a) e = refl
done (Err r) e = let z : ◌≡◌ {A = ℕ} 0 1 = cc in absurd (omega arith)

pub answered : {A : Type 0} (q : Result A Refusal) (r : Refusal) → refusal_of q ≡ Some r → q ≡ Err r
answered (Ok a) r e = let z : ◌≡◌ {A = ℕ} 0 1 = cc in absurd (omega arith)
answered (Err s) r e = let same : s ≡ r = cc in ap (λ (t : Refusal). Err t) same
