-- The seal between cells. Of two cells that share a face, let one centre be inside a closed list of triangles and the other not: then a
-- triangle of the list makes one of the two thin, since it meets the segment between the centres in one half or the other. So every chain
-- of cells that starts inside and ends outside contains a cell that is thin by a triangle of the list.
use Rattle.std.proofs.Common.{◌≡◌, Bool, true, false, not, ◌||◌, ◌⊎◌, List, [], ◌∷◌, ℤ, pos, ◌+ℤ◌, ◌-ℤ◌, ◌*ℤ◌, ◌≤ℤ◌, ◌<ℤ◌, sym, refl, ap, ◌∙◌, inl, inr, ⊎_elim, true≢false, arith}
use Rattle.std.proofs.lemmas.Int.{ints, by_lt_z}
use Rattle.algebra.specs.Parity.{◌⊻◌}
use Rattle.algebra.proofs.Ring.{var, ◌⊕◌, ◌⊖◌, ◌⊗◌, ring}
use Rattle.algebra.proofs.Order.{nonneg_of_pos, mul_nonneg}
use Rattle.algebra.proofs.Parity.{xor_comm}
use Rattle.std.proofs.lemmas.Bool.{or_left, or_right, or_cases}
use Rattle.geometry.specs.declared.mesh.Point.{Point}
use Rattle.geometry.specs.declared.mesh.Triangle.{Triangle}
use Rattle.geometry.specs.Geometry.{inside}
use Rattle.geometry.specs.Closed.{Closed}
use Rattle.geometry.specs.Cells.{middle, centre, thin}
use Rattle.mesh.specs.Means.{total, mean, Near, Meets, Any}
use Rattle.mesh.specs.Chains.{some, Share, on_x, on_y, on_z, back, Chain, only, step, cells}
use Rattle.mesh.proofs.Exprs.{One}
use Rattle.mesh.proofs.Means.{times_less, times_more}
use Rattle.mesh.proofs.Seal.{parted_x, parted_y, parted_z}
use Rattle.mesh.proofs.Thin.{thin_by_x, thin_by_y, thin_by_z}

-- ---- a meeting between two centres is at most half way from one of them

module _ (a b c : Point → ℤ) (h : ℤ) (h_some : pos 0 ≤ℤ h) (p q : Point) (t : Triangle)
    (aq : a q ≡ a p) (bq : b q ≡ b p) (cq : c q ≡ c p +ℤ (h +ℤ h)) (m : Meets a b c (h +ℤ h) p t) where
  abbrev T : ℤ
  T = total m.w

  th : pos 0 ≤ℤ (h *ℤ T)
  th = mul_nonneg h T h_some (nonneg_of_pos T m.w.not_none)

  first_half : mean c m.w t ≤ℤ (T *ℤ c p +ℤ h *ℤ T) → Near a b c h p t
  first_half i = record {
    w = m.w;
    on_a = m.on_a;
    on_b = m.on_b;
    by_c = record {
      low = less _ _ _ _ (times_less T (c p) h) m.by_c.low th;
      high = more _ _ _ (times_more T (c p) h) i;
    };
  }
    where
      less : (m k l e : ℤ) → l ≡ k -ℤ e → k ≤ℤ m → pos 0 ≤ℤ e → l ≤ℤ m
      less m k l e j o n = omega (arith, ints)

      more : (m l k : ℤ) → l ≡ k → m ≤ℤ k → m ≤ℤ l
      more m l k j o = omega (arith, ints)

  second_half : (T *ℤ c p +ℤ h *ℤ T) <ℤ mean c m.w t → Near a b c h q t
  second_half i = record {
    w = m.w;
    on_a = m.on_a ∙ ap (λ x. T *ℤ x) (sym aq);
    on_b = m.on_b ∙ ap (λ x. T *ℤ x) (sym bq);
    by_c = record {
      low = less _ _ _
          (ap (λ x. T *ℤ (x -ℤ h)) cq
          ∙ ring (T ∷ c p ∷ h ∷ []) (var 0 ⊗ (var 1 ⊕ (var 2 ⊕ var 2) ⊖ var 2)) (var 0 ⊗ var 1 ⊕ var 2 ⊗ var 0) refl) i;
      high = more _ _ _ _
          (ap (λ x. T *ℤ (x +ℤ h)) cq ∙ times_more T (c p +ℤ (h +ℤ h)) h) m.by_c.high th;
    };
  }
    where
      less : (m l k : ℤ) → l ≡ k → k <ℤ m → l ≤ℤ m
      less m l k j o = omega (arith, ints)

      more : (m l k e : ℤ) → l ≡ k +ℤ e → m ≤ℤ k → pos 0 ≤ℤ e → m ≤ℤ l
      more m l k e j o n = omega (arith, ints)

  halves : Near a b c h p t ⊎ Near a b c h q t
  halves = by_lt_z (T *ℤ c p +ℤ h *ℤ T) (mean c m.w t) (λ i. inr (second_half i)) (λ i. inl (first_half i))

-- ---- two cells that share a face

any_some : (P : Triangle → Type 0) (f g : Triangle → Bool) → ((t : Triangle) → P t → (f t ≡ true) ⊎ (g t ≡ true))
    → (ts : List Triangle) → Any P ts → (some f ts || some g ts) ≡ true
any_some P f g so [] none = absurd none
any_some P f g so (t ∷ ts) (inl p) = here (so t p)
  where
    here : (f t ≡ true) ⊎ (g t ≡ true) → ((f t || some f ts) || (g t || some g ts)) ≡ true
    here (inl e) = or_left _ _ (or_left _ _ e)
    here (inr e) = or_right (f t || some f ts) _ (or_left _ _ e)
any_some P f g so (t ∷ ts) (inr r) = there (f t) (g t) (some f ts) (some g ts) (any_some P f g so ts r)
  where
    there : (a b c d : Bool) → (c || d) ≡ true → ((a || c) || (b || d)) ≡ true
    there true b c d e = refl
    there false b true d e = refl
    there false true false d e = refl
    there false false false d e = e

module _ (h : ℤ) (h_some : pos 0 ≤ℤ h) (ts : List Triangle) (closed : Closed ts) where
  wide : pos 0 ≤ℤ (h +ℤ h)
  wide = twice h h_some
    where
      twice : (h : ℤ) → pos 0 ≤ℤ h → pos 0 ≤ℤ (h +ℤ h)
      twice h i = omega (arith, ints)

  next_middle : (i : ℤ) → middle h (i +ℤ pos 1) ≡ middle h i +ℤ (h +ℤ h)
  next_middle i = ring (h ∷ i ∷ []) ((var 0 ⊕ var 0) ⊗ (var 1 ⊕ One) ⊕ var 0) ((var 0 ⊕ var 0) ⊗ var 1 ⊕ var 0 ⊕ (var 0 ⊕ var 0)) refl

  abbrev next_x : Point → Point
  next_x k = record { x = k.x +ℤ pos 1; y = k.y; z = k.z }

  abbrev next_y : Point → Point
  next_y k = record { x = k.x; y = k.y +ℤ pos 1; z = k.z }

  abbrev next_z : Point → Point
  next_z k = record { x = k.x; y = k.y; z = k.z +ℤ pos 1 }

  along_x : (k : Point) → (inside (centre h k) ts ⊻ inside (centre h (next_x k)) ts) ≡ true
      → (some (thin h k) ts || some (thin h (next_x k)) ts) ≡ true
  along_x k odd =
      any_some _ (thin h k) (thin h (next_x k))
      (λ t m. ⊎_elim (λ n. inl (thin_by_x h k t m.0 n)) (λ n. inr (thin_by_x h (next_x k) t m.0 n))
      (halves (λ p. p.y) (λ p. p.z) (λ p. p.x) h h_some (centre h k) (centre h (next_x k)) t refl refl
      (next_middle k.x) m.1))
      ts
      (parted_x p (h +ℤ h) wide ts
      (ap (λ i. inside p ts ⊻ inside (record { x = i; y = p.y; z = p.z }) ts) (sym (next_middle k.x)) ∙ odd))
    where
      p : Point
      p = centre h k

  along_y : (k : Point) → (inside (centre h k) ts ⊻ inside (centre h (next_y k)) ts) ≡ true
      → (some (thin h k) ts || some (thin h (next_y k)) ts) ≡ true
  along_y k odd =
      any_some _ (thin h k) (thin h (next_y k))
      (λ t m. ⊎_elim (λ n. inl (thin_by_y h k t m.0 n)) (λ n. inr (thin_by_y h (next_y k) t m.0 n))
      (halves (λ p. p.z) (λ p. p.x) (λ p. p.y) h h_some (centre h k) (centre h (next_y k)) t refl refl
      (next_middle k.y) m.1))
      ts
      (parted_y p (h +ℤ h) wide ts closed
      (ap (λ i. inside p ts ⊻ inside (record { x = p.x; y = i; z = p.z }) ts) (sym (next_middle k.y)) ∙ odd))
    where
      p : Point
      p = centre h k

  along_z : (k : Point) → (inside (centre h k) ts ⊻ inside (centre h (next_z k)) ts) ≡ true
      → (some (thin h k) ts || some (thin h (next_z k)) ts) ≡ true
  along_z k odd =
      any_some _ (thin h k) (thin h (next_z k))
      (λ t m. ⊎_elim (λ n. inl (thin_by_z h k t m.0 n)) (λ n. inr (thin_by_z h (next_z k) t m.0 n))
      (halves (λ p. p.x) (λ p. p.y) (λ p. p.z) h h_some (centre h k) (centre h (next_z k)) t refl refl
      (next_middle k.z) m.1))
      ts
      (parted_z p (h +ℤ h) wide ts closed
      (ap (λ i. inside p ts ⊻ inside (record { x = p.x; y = p.y; z = i }) ts) (sym (next_middle k.z)) ∙ odd))
    where
      p : Point
      p = centre h k

  -- of two cells that share a face and differ in inside, a triangle of the list makes one thin
  pub neighbours_sealed : {k l : Point} → Share k l → (inside (centre h k) ts ⊻ inside (centre h l) ts) ≡ true
      → (some (thin h k) ts || some (thin h l) ts) ≡ true
  neighbours_sealed (on_x k) odd = along_x k odd
  neighbours_sealed (on_y k) odd = along_y k odd
  neighbours_sealed (on_z k) odd = along_z k odd
  neighbours_sealed (back {k} {l} s) odd =
      turn (some (thin h k) ts) (some (thin h l) ts)
      (neighbours_sealed s (xor_comm (inside (centre h k) ts) (inside (centre h l) ts) ∙ odd))
    where
      turn : (a b : Bool) → (a || b) ≡ true → (b || a) ≡ true
      turn a true e = refl
      turn true false e = refl
      turn false false e = e

  -- ---- chains

  first_cell : {k m : Point} (f : Point → Bool) (c : Chain k m) → f k ≡ true → some f (cells c) ≡ true
  first_cell f (only k) e = or_left _ _ e
  first_cell f (step k s c) e = or_left _ _ e

  -- a chain of cells that starts inside and ends outside contains a cell that is thin by a triangle of the list
  pub chain_sealed : {k m : Point} (c : Chain k m) → inside (centre h k) ts ≡ true → inside (centre h m) ts ≡ false
      → some (λ i. some (thin h i) ts) (cells c) ≡ true
  chain_sealed (only k) i o = absurd (true≢false (sym i ∙ o))
  chain_sealed (step k {l} {m} s c) i o = by_bool (inside (centre h l) ts) refl (chain_sealed c)
    where
      by_bool : (b : Bool) → b ≡ inside (centre h l) ts
          → (inside (centre h l) ts ≡ true → inside (centre h m) ts ≡ false → some (λ i. some (thin h i) ts) (cells c) ≡ true)
          → (some (thin h k) ts || some (λ i. some (thin h i) ts) (cells c)) ≡ true
      by_bool true e rest = or_right _ _ (rest (sym e) o)
      by_bool false e rest = here (or_cases _ _ (neighbours_sealed s (ap (λ x. x ⊻ inside (centre h l) ts) i ∙ ap not (sym e))))
        where
          here : (some (thin h k) ts ≡ true) ⊎ (some (thin h l) ts ≡ true)
              → (some (thin h k) ts || some (λ i. some (thin h i) ts) (cells c)) ≡ true
          here (inl y) = or_left _ _ y
          here (inr y) = or_right _ _ (first_cell (λ i. some (thin h i) ts) c y)
