-- Parity over a closed list of triangles. Whatever is told of a side, the same in both directions and never of a side without length,
-- holds of an even number of the list's sides. The seal and the agreement of tetrahedra both rest on this: they tell something of each
-- side that makes up for what one triangle alone leaves odd.
use Rattle.std.proofs.Common.{◌≡◌, ℕ, zero, suc, ◌≤◌, Bool, true, false, cond, ◌&&◌, ◌⊎◌, List, [], ◌∷◌, length, ℤ, pos, ◌-ℤ◌, sym, refl, ap, ◌∙◌, inl, inr, ⊎_elim, true≢false, arith}
use Rattle.std.proofs.lemmas.Int.{ints}
use Rattle.std.proofs.lemmas.Bool.{cases_Bool}
use Rattle.algebra.specs.Parity.{◌⊻◌}
use Rattle.algebra.proofs.Parity.{xor_assoc, xor_left, xor_again}
use Rattle.algebra.proofs.Tests.{both, and_split}
use Rattle.geometry.specs.declared.mesh.Point.{Point}
use Rattle.geometry.specs.declared.mesh.Triangle.{Triangle}
use Rattle.geometry.specs.Geometry.{is_zero}
use Rattle.geometry.specs.Closed.{eq_z, eq_p, joins, odd_sides, Closed}
use Rattle.mesh.proofs.Signs.{zero_of}

-- ---- the sides of a list, one after another

record Pair : Type 0 where
  from : Point
  to : Point

abbrev sides : List Triangle → List Pair
sides [] = []
sides (t ∷ ts) = record { from = t.v0; to = t.v1 } ∷ record { from = t.v1; to = t.v2 } ∷ record { from = t.v2; to = t.v0 } ∷ sides ts

-- whether f holds of an odd number of them
abbrev odd : (Point → Point → Bool) → List Pair → Bool
odd f [] = false
odd f (s ∷ l) = f s.from s.to ⊻ odd f l

sides_odd : (f : Point → Point → Bool) (ts : List Triangle) → odd_sides f ts ≡ odd f (sides ts)
sides_odd f [] = refl
sides_odd f (t ∷ ts) =
    ap (λ x. (f t.v0 t.v1 ⊻ f t.v1 t.v2 ⊻ f t.v2 t.v0) ⊻ x) (sides_odd f ts)
    ∙ nest (f t.v0 t.v1) (f t.v1 t.v2) (f t.v2 t.v0) (odd f (sides ts))
  where
    nest : (a b c d : Bool) → ((a ⊻ b ⊻ c) ⊻ d) ≡ (a ⊻ (b ⊻ (c ⊻ d)))
    nest a b c d = xor_assoc (a ⊻ b) c d ∙ xor_assoc a b (c ⊻ d)

-- ---- the tests of equality

eq_z_so : (a b : ℤ) → eq_z a b ≡ true → a ≡ b
eq_z_so a b e = equal a b (a -ℤ b) refl (zero_of (a -ℤ b) e)
  where
    equal : (a b d : ℤ) → a -ℤ b ≡ d → d ≡ pos 0 → a ≡ b
    equal a b d h k = omega (arith, ints)

eq_z_self : (a : ℤ) → eq_z a a ≡ true
eq_z_self a = ap is_zero (none a)
  where
    none : (a : ℤ) → a -ℤ a ≡ pos 0
    none a = omega (arith, ints)

pub eq_p_so : (a b : Point) → eq_p a b ≡ true → a ≡ b
eq_p_so a b e =
    let h = and_split _ _ e in let k = and_split _ _ h.0 in
    let p = eq_z_so a.x b.x k.0 in let q = eq_z_so a.y b.y k.1 in let r = eq_z_so a.z b.z h.1 in
    λ i. record { x = p i; y = q i; z = r i }

pub eq_p_self : (a : Point) → eq_p a a ≡ true
eq_p_self a = both (both (eq_z_self a.x) (eq_z_self a.y)) (eq_z_self a.z)

pub eq_p_no : (a b : Point) → eq_p a b ≡ false → a ≡ b → ⊥
eq_p_no a b e h = true≢false (sym (ap (eq_p a) (sym h) ∙ eq_p_self a) ∙ e)

-- ---- the sides that join two points, and the rest

joins_so : (a b c d : Point) → joins a b c d ≡ true → ((a ≡ c) × (b ≡ d)) ⊎ ((a ≡ d) × (b ≡ c))
joins_so a b c d e =
    ⊎_elim
    (λ h. let k = and_split (eq_p a c) (eq_p b d) h in inl (eq_p_so a c k.0, eq_p_so b d k.1))
    (λ h. let k = and_split (eq_p a d) (eq_p b c) h in inr (eq_p_so a d k.0, eq_p_so b c k.1))
    (either (eq_p a c && eq_p b d) (eq_p a d && eq_p b c) e)
  where
    either : (p q : Bool) → cond p true q ≡ true → (p ≡ true) ⊎ (q ≡ true)
    either true q e = inl refl
    either false q e = inr e

joins_turn : (a b c d : Point) → joins a b c d ≡ joins a b d c
joins_turn a b c d = either_way (eq_p a c && eq_p b d) (eq_p a d && eq_p b c)
  where
    either_way : (p q : Bool) → cond p true q ≡ cond q true p
    either_way true true = refl
    either_way true false = refl
    either_way false true = refl
    either_way false false = refl

joins_self : (a b : Point) → joins a b a b ≡ true
joins_self a b = ap (λ x. cond x true (eq_p a b && eq_p b a)) (both (eq_p_self a) (eq_p_self b))

-- a side without length joins no two different points
joins_none : (a b c d : Point) → c ≡ d → (a ≡ b → ⊥) → joins a b c d ≡ false
joins_none a b c d e n =
    ⊎_elim
    (λ j. absurd (n (⊎_elim (λ h. h.0 ∙ e ∙ sym h.1) (λ h. h.0 ∙ sym e ∙ sym h.1) (joins_so a b c d j))))
    (λ j. j)
    (cases_Bool (joins a b c d))

-- the sides that do not join a and b
abbrev rest : Point → Point → List Pair → List Pair
rest a b [] = []
rest a b (s ∷ l) = cond (joins a b s.from s.to) (rest a b l) (s ∷ rest a b l)

rest_short : (a b : Point) (l : List Pair) → length (rest a b l) ≤ length l
rest_short a b [] = omega arith
rest_short a b (s ∷ l) = fewer (joins a b s.from s.to) (rest_short a b l)
  where
    fewer : (j : Bool) → length (rest a b l) ≤ length l → length (cond j (rest a b l) (s ∷ rest a b l)) ≤ suc (length l)
    fewer true h = omega arith
    fewer false h = omega arith

module _ (f : Point → Point → Bool) (turn : (a b : Point) → f a b ≡ f b a) where
  joined_same : (a b c d : Point) → joins a b c d ≡ true → f c d ≡ f a b
  joined_same a b c d e =
      ⊎_elim
      (λ h. let p = h.0 in let q = h.1 in cc)
      (λ h. let p = h.0 in let q = h.1 in let r = turn b a in cc)
      (joins_so a b c d e)

  -- what f tells of all the sides: what it tells of those that join a and b, and of the rest
  split : (a b : Point) (l : List Pair) → odd f l ≡ ((odd (joins a b) l && f a b) ⊻ odd f (rest a b l))
  split a b [] = refl
  split a b (s ∷ l) =
      ⊎_elim
      (λ j.
      ap (λ x. x ⊻ odd f l) (joined_same a b s.from s.to j) ∙ ap (λ x. f a b ⊻ x) (split a b l)
      ∙ one_more (f a b) (odd (joins a b) l) (odd f (rest a b l)) ∙ sym (ap after j))
      (λ j.
      ap (λ x. f s.from s.to ⊻ x) (split a b l)
      ∙ xor_left (f s.from s.to) (odd (joins a b) l && f a b) (odd f (rest a b l)) ∙ sym (ap after j))
      (cases_Bool (joins a b s.from s.to))
    where
      one_more : (g p r : Bool) → (g ⊻ ((p && g) ⊻ r)) ≡ (((true ⊻ p) && g) ⊻ r)
      one_more true true r = xor_again true r
      one_more true false r = refl
      one_more false true r = refl
      one_more false false r = refl

      after : Bool → Bool
      after x = ((x ⊻ odd (joins a b) l) && f a b) ⊻ odd f (cond x (rest a b l) (s ∷ rest a b l))

-- ---- all sides

abbrev EvenJoined : List Pair → Type 0
EvenJoined l = (a b : Point) → (a ≡ b → ⊥) → odd (joins a b) l ≡ false

module _ (f : Point → Point → Bool) (turn : (a b : Point) → f a b ≡ f b a) (none : (a : Point) → f a a ≡ false) where
  -- the first side goes, with all that join the same two points
  even : (n : ℕ) (l : List Pair) → length l ≤ n → EvenJoined l → odd f l ≡ false
  even n [] h c = refl
  even zero (s ∷ l) h c = absurd (omega arith)
  even (suc n) (s ∷ l) h c =
      ⊎_elim
      (λ e.
      let same = eq_p_so a b e in
      ap (λ x. x ⊻ odd f l) (ap (f a) (sym same) ∙ none a)
      ∙ even n l (omega arith) (λ p q np. sym (ap (λ x. x ⊻ odd (joins p q) l) (joins_none p q a b same np)) ∙ c p q np))
      (λ e.
      let ne = eq_p_no a b e in
      without f turn ne
      ∙ even n (rest a b l) (shorter (rest_short a b l) h) (λ p q np. sym (without (joins p q) (joins_turn p q) ne) ∙ c p q np))
      (cases_Bool (eq_p a b))
    where
      a : Point
      a = s.from

      b : Point
      b = s.to

      without : (g : Point → Point → Bool) → ((p q : Point) → g p q ≡ g q p) → (a ≡ b → ⊥) → odd g (s ∷ l) ≡ odd g (rest a b l)
      without g t ne =
          split g t a b (s ∷ l) ∙ ap (λ x. (x && g a b) ⊻ odd g (rest a b (s ∷ l))) (c a b ne)
          ∙ ap (λ x. odd g (cond x (rest a b l) (s ∷ rest a b l))) (joins_self a b)

      shorter : {k m : ℕ} → k ≤ m → suc m ≤ suc n → k ≤ n
      shorter p q = omega arith

  -- over a closed list, f holds of an even number of sides
  pub closed_even : (ts : List Triangle) → Closed ts → odd_sides f ts ≡ false
  closed_even ts c =
      sides_odd f ts ∙ even (length (sides ts)) (sides ts) (omega arith) (λ a b ne. sym (sides_odd (joins a b) ts) ∙ c a b ne)
