-- Cell by cell: the flips of a source change the cells that it makes solid, and no others.
use Rattle.std.proofs.Common.{◌≡◌, ℕ, zero, suc, ◌+◌, ◌<◌, ◌≤◌, Bool, true, false, cond, not, ◌&&◌, eqb, ltb, leb, List, [], ◌∷◌, map, sym, refl, ap, ◌∙◌, ⊎_elim, arith}
use Rattle.std.specs.List.{range_with_len, flat_map}
use Rattle.std.proofs.lemmas.Bool.{and_left, and_right, cases_eq, cases_lt, ne_eqb}
use Rattle.std.proofs.lemmas.Bool.Decides.{nat_tests}
use Rattle.std.proofs.lemmas.List.Elements.{All-nil, All-head, All-tail, All-append}
use Rattle.algebra.specs.Parity.{◌⊻◌}
use Rattle.algebra.proofs.Parity.{xor_assoc, xor_false, xor_same}
use Rattle.block.specs.Drawing.{changed, in_row, number}
use Rattle.block.proofs.Numbers.{in_box_true, in_row_true}
use Rattle.block.proofs.Rows.{turned_row}
use Rattle.rows.specs.Rows.{odd}
use Rattle.geometry.specs.declared.facet.extent.Span.{Span}
use Rattle.block.specs.declared.cells.Run.{Run}
use Rattle.rows.proofs.Odd.{odd_append, odd_none}
use Rattle.flips.specs.Flips.{flip_at, row_runs, row_flips, flips_of}
use Rattle.flips.specs.Drawn.{drawn, ChangedWhere, InBox}
use Rattle.rows.proofs.RunLaws.{Chain, runs_chain}
use Rattle.flips.proofs.Rows.{joined_push, row_in_box}

-- the cell at x is in the run
abbrev has : ℕ → Span → Bool
has x r = leb r.start x && ltb x r.end

-- the flip changes the cell (x, y, z)
abbrev hits : ℕ → ℕ → ℕ → Run → Bool
hits x y z w = eqb y w.y && (eqb z w.z && (leb w.start x && ltb x w.end))

-- ---- a cell is changed where an odd number of flips change it

module _ (n x y z : ℕ) (hx : x < n) (hy : y < n) where
  changed_is : (d : ℕ → Bool) (w : Run) → in_row n w ≡ true → changed n d w (number n x y z) ≡ (d (number n x y z) ⊻ hits x y z w)
  changed_is d w h =
      let p = in_row_true n w h in
      turned_row n w.start w.end w.y w.z x y z p.3 p.0 hx hy d ∙ by (d (number n x y z)) (hits x y z w)
    where
      by : (v b : Bool) → cond b (not v) v ≡ (v ⊻ b)
      by true true = refl
      by true false = refl
      by false true = refl
      by false false = refl

  drawn_odd : (d : ℕ → Bool) (ws : List Run) → InBox n ws → drawn n d ws (number n x y z) ≡ (d (number n x y z) ⊻ odd (hits x y z) ws)
  drawn_odd d [] h = sym (xor_false (d (number n x y z)))
  drawn_odd d (w ∷ ws) h =
      drawn_odd (changed n d w) ws (All-tail (λ v. in_row n v ≡ true) w ws h)
      ∙ ap (λ b. b ⊻ odd (hits x y z) ws) (changed_is d w (All-head (λ v. in_row n v ≡ true) w ws h)) ∙ xor_assoc (d (number n x y z)) (hits x y z w) (odd (hits x y z) ws)

-- ---- the runs of a row have its solid cells, each once

module _ (n : ℕ) (p : ℕ → Bool) (x : ℕ) where
  has_none : (from : ℕ) (rs : List Span) → Chain n p from rs → x < from → odd (has x) rs ≡ false
  has_none from [] h l = refl
  has_none from (r ∷ rs) h l = xor_same (off h.0.after) (has_none r.end rs h.1 (omega (arith, h.0.after, h.0.some)))
    where
      off : from ≤ r.start → has x r ≡ false
      off a = grind (arith, nat_tests)

  has_odd : (from : ℕ) (rs : List Span) → Chain n p from rs → from ≤ x → x < n → odd (has x) rs ≡ p x
  has_odd from [] h a l = sym (h x a l)
  has_odd from (r ∷ rs) h a l =
      ⊎_elim
      (λ (u : x < r.end). xor_same refl (has_none r.end rs h.1 u) ∙ xor_false (has x r) ∙ ⊎_elim
      (λ (s : x < r.start). low s ∙ sym (h.0.before x a s))
      (λ (s : r.start ≤ x). mid s u ∙ sym (h.0.solid x s u))
      (cases_lt x r.start))
      (λ (u : r.end ≤ x). xor_same (high u) (has_odd r.end rs h.1 u l))
      (cases_lt x r.end)
    where
      low : x < r.start → has x r ≡ false
      low s = grind (arith, nat_tests)

      mid : r.start ≤ x → x < r.end → has x r ≡ true
      mid s u = grind (arith, nat_tests)

      high : r.end ≤ x → has x r ≡ false
      high u = grind (arith, nat_tests)

-- ---- the rows

odd_map : {X Y : Type 0} (q : Y → Bool) (p : X → Bool) (f : X → Y) → ((x : X) → q (f x) ≡ p x) → (xs : List X) → odd q (map f xs) ≡ odd p xs
odd_map q p f e [] = refl
odd_map q p f e (x ∷ xs) = xor_same (e x) (odd_map q p f e xs)

module _ {X : Type 0} (q : X → Bool) (f : ℕ → List X) where
  joined_none : (k : ℕ) → ((t : ℕ) → t < k → odd q (f t) ≡ false) → odd q (flat_map f (range_with_len 0 k)) ≡ false
  joined_none zero h = refl
  joined_none (suc k) h =
      ap (odd q) (joined_push f k) ∙ odd_append q (flat_map f (range_with_len 0 k)) (f k) ∙ xor_same (joined_none k (λ t l. h t (omega arith))) (h k (omega arith))

  joined_one : (j k : ℕ) → j < k → ((t : ℕ) → t < k → (t ≡ j → ⊥) → odd q (f t) ≡ false) → odd q (flat_map f (range_with_len 0 k)) ≡ odd q (f j)
  joined_one j zero l h = absurd (omega arith)
  joined_one j (suc k) l h =
      ap (odd q) (joined_push f k) ∙ odd_append q (flat_map f (range_with_len 0 k)) (f k)
      ∙ ⊎_elim
      (λ (e : k ≡ j). xor_same (joined_none k (λ t m. h t (omega arith) (omega arith))) (ap (λ t. odd q (f t)) e))
      (λ (ne : k ≡ j → ⊥). xor_same (joined_one j k (omega arith) (λ t m. h t (omega arith))) (h k (omega arith) ne) ∙ xor_false (odd q (f j)))
      (cases_eq k j)

in_box_joined : (n a : ℕ) (f : ℕ → List Run) (k : ℕ) → ((t : ℕ) → t < a + k → InBox n (f t)) → InBox n (flat_map f (range_with_len a k))
in_box_joined n a f zero h = All-nil (λ w. in_row n w ≡ true)
in_box_joined n a f (suc k) h =
    All-append (λ w. in_row n w ≡ true) (f a) (flat_map f (range_with_len (a + 1) k)) (h a (omega arith)) (in_box_joined n (a + 1) f k (λ t l. h t (omega arith)))

module _ (n : ℕ) (solid : ℕ → ℕ → ℕ → Bool) where
  flips_in_box : InBox n (flips_of n solid)
  unfolding flips_of
  flips_in_box =
      in_box_joined n 0 (λ z. flat_map (λ y. row_flips n solid y z) (range_with_len 0 n)) n
      (λ z hz. in_box_joined n 0 (λ y. row_flips n solid y z) n (λ y hy. row_in_box solid n y z (omega arith) (omega arith)))

  module _ (x y z : ℕ) (hx : x < n) (hy : y < n) (hz : z < n) where
    -- its own row
    row_own : odd (hits x y z) (row_flips n solid y z) ≡ solid x y z
    unfolding row_flips
    row_own =
        odd_map (hits x y z) (has x) (flip_at y z) (λ r. here (has x r)) (row_runs n solid y z)
        ∙ has_odd n (λ x. solid x y z) x 0 (row_runs n solid y z) (runs_chain n (λ x. solid x y z)) (omega arith) hx
      where
        here : (b : Bool) → (eqb y y && (eqb z z && b)) ≡ b
        here b = grind (arith, nat_tests)

    -- another row
    row_other : (v w : ℕ) → ((b : Bool) → (eqb y v && (eqb z w && b)) ≡ false) → odd (hits x y z) (row_flips n solid v w) ≡ false
    unfolding row_flips
    row_other v w off =
        odd_map (hits x y z) (λ r. false) (flip_at v w) (λ r. off (has x r)) (row_runs n solid v w) ∙ odd_none (λ r. false) (λ r. refl) (row_runs n solid v w)

    flips_odd : odd (hits x y z) (flips_of n solid) ≡ solid x y z
    unfolding flips_of
    flips_odd =
        joined_one (hits x y z) (λ w. flat_map (λ v. row_flips n solid v w) (range_with_len 0 n)) z n hz (λ w hw ne.
        joined_none (hits x y z) (λ v. row_flips n solid v w) n (λ v hv. row_other v w (λ b. and_right (eqb y v) _ (and_left (eqb z w) b (ne_eqb z w (λ e. ne (sym e)))))))
        ∙ joined_one (hits x y z) (λ v. row_flips n solid v z) y n hy (λ v hv ne. row_other v z (λ b. and_left (eqb y v) _ (ne_eqb y v (λ e. ne (sym e)))))
        ∙ row_own

-- THE FLIPS OF A SOURCE CHANGE EXACTLY THE CELLS THAT IT MAKES SOLID
pub flips_change : (n : ℕ) (solid : ℕ → ℕ → ℕ → Bool) (d : ℕ → Bool) → ChangedWhere n solid d (drawn n d (flips_of n solid))
flips_change n solid d x y z h =
    let p = in_box_true n x y z h in
    drawn_odd n x y z p.0 p.1 d (flips_of n solid) (flips_in_box n solid)
    ∙ ap (λ b. d (number n x y z) ⊻ b) (flips_odd n solid x y z p.0 p.1 p.2)
