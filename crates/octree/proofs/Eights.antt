-- Sums and tests over eight children.
use Rattle.std.proofs.Common.{◌≡◌, ℕ, zero, suc, ◌+◌, ◌<◌, ◌≤◌, Bool, true, cond, eqb, sym, refl, ◌∙◌, ⊎_elim, arith}
use Rattle.std.proofs.lemmas.Bool.{cond-true, cond-false, eq-eqb, ne_eqb, cases_eq, and_parts}
use Rattle.octree.specs.Regions.{sum8, all8}

-- what holds at each of eight places
pub eight : (P : ℕ → Type 0) → P 0 → P 1 → P 2 → P 3 → P 4 → P 5 → P 6 → P 7 → (k : ℕ) → k < 8 → P k
eight P p0 p1 p2 p3 p4 p5 p6 p7 zero h = p0
eight P p0 p1 p2 p3 p4 p5 p6 p7 (suc zero) h = p1
eight P p0 p1 p2 p3 p4 p5 p6 p7 (suc (suc zero)) h = p2
eight P p0 p1 p2 p3 p4 p5 p6 p7 (suc (suc (suc zero))) h = p3
eight P p0 p1 p2 p3 p4 p5 p6 p7 (suc (suc (suc (suc zero)))) h = p4
eight P p0 p1 p2 p3 p4 p5 p6 p7 (suc (suc (suc (suc (suc zero))))) h = p5
eight P p0 p1 p2 p3 p4 p5 p6 p7 (suc (suc (suc (suc (suc (suc zero)))))) h = p6
eight P p0 p1 p2 p3 p4 p5 p6 p7 (suc (suc (suc (suc (suc (suc (suc zero))))))) h = p7
eight P p0 p1 p2 p3 p4 p5 p6 p7 (suc (suc (suc (suc (suc (suc (suc (suc k)))))))) h = absurd (omega arith)

-- ---- sums

pub sum8_part : (f : ℕ → ℕ) (k : ℕ) → k < 8 → f k ≤ sum8 f
sum8_part f = eight (λ k. f k ≤ sum8 f) (omega arith) (omega arith) (omega arith) (omega arith) (omega arith) (omega arith) (omega arith) (omega arith)

pub sum8_ext : (f g : ℕ → ℕ) → ((k : ℕ) → k < 8 → f k ≡ g k) → sum8 f ≡ sum8 g
sum8_ext f g h = omega (arith, h 0 (omega arith), h 1 (omega arith), h 2 (omega arith), h 3 (omega arith), h 4 (omega arith), h 5 (omega arith), h 6 (omega arith), h 7 (omega arith))

-- each part at most m
pub sum8_most : (f : ℕ → ℕ) (m : ℕ) → ((k : ℕ) → f k ≤ m) → sum8 f ≤ m + m + m + m + m + m + m + m
sum8_most f m h = omega (arith, h 0, h 1, h 2, h 3, h 4, h 5, h 6, h 7)

-- one part changes
pub sum8_one : (f g : ℕ → ℕ) (a : ℕ) → a < 8 → ((k : ℕ) → k < 8 → (k ≡ a → ⊥) → g k ≡ f k) → sum8 g + f a ≡ sum8 f + g a
sum8_one f g a la h =
    let q : sum8 (λ k. cond (eqb k a) (f k) (g k)) ≡ sum8 f = sum8_ext _ f (λ k lk. ⊎_elim
    (λ e. cond-true (eqb k a) (f k) (g k) (eq-eqb k a e))
    (λ e. cond-false (eqb k a) (f k) (g k) (ne_eqb k a e) ∙ h k lk e)
    (cases_eq k a)) in
    eight (λ j. sum8 (λ k. cond (eqb k j) (f k) (g k)) ≡ sum8 f → sum8 g + f j ≡ sum8 f + g j)
    (λ e. omega arith) (λ e. omega arith) (λ e. omega arith) (λ e. omega arith) (λ e. omega arith) (λ e. omega arith) (λ e. omega arith) (λ e. omega arith) a la q

-- two parts change
pub sum8_two : (f g : ℕ → ℕ) (a b : ℕ) → a < 8 → b < 8 → (a ≡ b → ⊥) → ((k : ℕ) → k < 8 → (k ≡ a → ⊥) → (k ≡ b → ⊥) → g k ≡ f k) → sum8 g + f a + f b ≡ sum8 f + g a + g b
sum8_two f g a b la lb ne h =
    let m : ℕ → ℕ = λ k. cond (eqb k a) (g k) (f k) in
    let ma : m a ≡ g a = cond-true (eqb a a) (g a) (f a) (eq-eqb a a refl) in
    let mb : m b ≡ f b = cond-false (eqb b a) (g b) (f b) (ne_eqb b a (λ e. ne (sym e))) in
    let p = sum8_one f m a la (λ k lk n. cond-false (eqb k a) (g k) (f k) (ne_eqb k a n)) in
    let q = sum8_one m g b lb (λ k lk n. ⊎_elim
    (λ e. sym (cond-true (eqb k a) (g k) (f k) (eq-eqb k a e)))
    (λ e. h k lk e n ∙ sym (cond-false (eqb k a) (g k) (f k) (ne_eqb k a e)))
    (cases_eq k a)) in
    omega (arith, p, q, ma, mb)

pub sum8_pair : (f : ℕ → ℕ) (a b : ℕ) → a < 8 → b < 8 → (a ≡ b → ⊥) → f a + f b ≤ sum8 f
sum8_pair f a b la lb ne =
    let g : ℕ → ℕ = λ k. cond (eqb k a) 0 (cond (eqb k b) 0 (f k)) in
    let ga : g a ≡ 0 = cond-true (eqb a a) 0 _ (eq-eqb a a refl) in
    let gb : g b ≡ 0 = cond-false (eqb b a) 0 _ (ne_eqb b a (λ e. ne (sym e))) ∙ cond-true (eqb b b) 0 (f b) (eq-eqb b b refl) in
    let q = sum8_two f g a b la lb ne (λ k lk na nb. cond-false (eqb k a) 0 _ (ne_eqb k a na) ∙ cond-false (eqb k b) 0 (f k) (ne_eqb k b nb)) in
    omega (arith, ga, gb, q)

-- ---- tests

pub all8_ext : (p q : ℕ → Bool) → ((k : ℕ) → k < 8 → p k ≡ q k) → all8 p ≡ all8 q
all8_ext p q h =
    let e0 : p 0 ≡ q 0 = h 0 (omega arith) in
    let e1 : p 1 ≡ q 1 = h 1 (omega arith) in
    let e2 : p 2 ≡ q 2 = h 2 (omega arith) in
    let e3 : p 3 ≡ q 3 = h 3 (omega arith) in
    let e4 : p 4 ≡ q 4 = h 4 (omega arith) in
    let e5 : p 5 ≡ q 5 = h 5 (omega arith) in
    let e6 : p 6 ≡ q 6 = h 6 (omega arith) in
    let e7 : p 7 ≡ q 7 = h 7 (omega arith) in
    cc

pub all8_each : (p : ℕ → Bool) → all8 p ≡ true → (k : ℕ) → k < 8 → p k ≡ true
all8_each p e =
    let q0 = and_parts (p 0) _ e in
    let q1 = and_parts (p 1) _ q0.1 in
    let q2 = and_parts (p 2) _ q1.1 in
    let q3 = and_parts (p 3) _ q2.1 in
    let q4 = and_parts (p 4) _ q3.1 in
    let q5 = and_parts (p 5) _ q4.1 in
    let q6 = and_parts (p 6) _ q5.1 in
    eight (λ k. p k ≡ true) q0.0 q1.0 q2.0 q3.0 q4.0 q5.0 q6.0 q6.1
