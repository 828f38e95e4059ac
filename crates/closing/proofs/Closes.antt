-- What the loose sides say of the triangles, once all are toggled.
use Rattle.std.proofs.Common.{◌≡◌, ℕ, ◌*◌, ◌≤◌, true, false, ◌&&◌, ◌||◌, eqb, is_ok, Ok, Err, Result, Some, None, subst, List, [], ◌∷◌, length, Decides, Ordering, Less, Equal, Greater, sym, refl, ap, ◌∙◌, arith}
use mathlib.Core.Bool.{false≢true}
use Rattle.std.specs.List.{slice_get}
use Rattle.std.specs.Ordering.{eq_by_cmp, is_lt, ordering_reverse}
use Rattle.std.proofs.lemmas.Cmp.{eq_by_cmp_equiv}
use Rattle.std.proofs.lemmas.Bool.{and_right, eqb-true}
use Rattle.algebra.proofs.Tests.{and_split}
use Rattle.geometry.specs.declared.mesh.Point.{Point}
use Rattle.geometry.specs.declared.mesh.Side.{Side}
use Rattle.geometry.specs.declared.mesh.Triangle.{Triangle}
use Rattle.geometry.specs.Closed as sides
use Rattle.toggles.specs.Toggled.{has}
use Rattle.toggles.proofs.Rising.{sorted_none}
use Rattle.closing.specs.declared.check.Leak.{Leak}
use Rattle.closing.specs.declared.check.Leak.TheVariants.{Odd, ShortShelf}
use Rattle.closing.specs.Order.{point_cmp, side_cmp, point_order, side_order, before}
use Rattle.closing.specs.Holds.{Holds}
use Rattle.closing.specs.Means.{Means}
use Rattle.closing.proofs.Points.{level_point, not_before_itself}
use Rattle.closing.proofs.Loose.{joins_back}

-- no sides are loose before the first triangle
pub holds_none : (ks : List Side) → ks ≡ [] → Holds ks []
holds_none ks e = record {
  rising = sorted_none ks e side_cmp;
  exact = λ x. ap (λ ls. has (eq_by_cmp side_cmp) ls x) e ∙ sym (and_right (before x.low x.high) false refl);
}

-- ---- where no side is loose

odd_back : (a b : Point) (ts : List Triangle) → sides.odd_sides (sides.joins a b) ts ≡ sides.odd_sides (sides.joins b a) ts
odd_back a b ts = λ i. sides.odd_sides (λ c d. joins_back a b c d i) ts

even_by : (ts : List Triangle) → Holds [] ts → (a b : Point) (k : Ordering) → point_cmp a b ≡ k → (a ≡ b → ⊥)
    → sides.odd_sides (sides.joins a b) ts ≡ false
even_by ts h a b Less o ne =
    sym (h.exact (record { low = a; high = b }) ∙ ap (λ k. is_lt k && sides.odd_sides (sides.joins a b) ts) o)
even_by ts h a b Equal o ne = absurd (ne (level_point a b o))
even_by ts h a b Greater o ne =
    odd_back a b ts
    ∙ sym (h.exact (record { low = b; high = a }) ∙ ap (λ k. is_lt k && sides.odd_sides (sides.joins b a) ts) (point_order.antisymm b a ∙ ap ordering_reverse o))

pub closed_from_none : (ts : List Triangle) → Holds [] ts → sides.Closed ts
closed_from_none ts h a b = even_by ts h a b (point_cmp a b) refl

-- ---- where a side is loose

pub odd_from_loose : (s : Side) (ks : List Side) (ts : List Triangle) → Holds (s ∷ ks) ts
    → (before s.low s.high ≡ true) × (sides.odd_sides (sides.joins s.low s.high) ts ≡ true)
odd_from_loose s ks ts h =
    let there : has (eq_by_cmp side_cmp) (s ∷ ks) s ≡ true = ap (λ z. z || has (eq_by_cmp side_cmp) ks s) ((eq_by_cmp_equiv side_order).refl s) in
    and_split (before s.low s.high) (sides.odd_sides (sides.joins s.low s.high) ts) (sym (h.exact s) ∙ there)

pub open_from_odd : (s : Side) (ts : List Triangle) → before s.low s.high ≡ true
    → sides.odd_sides (sides.joins s.low s.high) ts ≡ true → sides.Closed ts → ⊥
open_from_odd s ts up odd c = false≢true (sym (c s.low s.high (not_before_itself s.low s.high up)) ∙ odd)

-- ---- the answer

-- for who asks whether the list of loose sides is empty
pub empty_closes : (ks : List Side) (ts : List Triangle) → Holds ks ts → Decides (eqb (length ks) 0) (sides.Closed ts)
empty_closes [] ts h = (λ e. closed_from_none ts h, λ c. refl)
empty_closes (s ∷ ks) ts h =
    let o = odd_from_loose s ks ts h in
    (λ e. absurd (let z = eqb-true (length (s ∷ ks)) 0 e in omega arith), λ c. absurd (open_from_odd s ts o.0 o.1 c))

-- for who asks for the first of them
pub none_means : (ks : List Side) (ts : List Triangle) (n : ℕ) → 3 * length ts ≤ n → Holds ks ts → slice_get ks 0 ≡ None → Means ts n (Ok tt)
none_means [] ts n l h e = (l, closed_from_none ts h)
none_means (s ∷ ks) ts n l h e = cc

pub odd_means : (s : Side) (ks : List Side) (ts : List Triangle) (n : ℕ) → 3 * length ts ≤ n → Holds ks ts → slice_get ks 0 ≡ Some s → Means ts n (Err (Odd s))
odd_means s [] ts n l h e = cc
odd_means s (k ∷ ks) ts n l h e =
    let same : k ≡ s = cc in
    let o = odd_from_loose k ks ts h in
    subst (λ x. Means ts n (Err (Odd x))) same (l, o.0, o.1)

-- with room for all sides, the answer is `Ok` exactly where they close
pub closed_answer : (ts : List Triangle) (n : ℕ) (r : Result (Unit {0}) Leak) → Means ts n r → 3 * length ts ≤ n → sides.Closed ts → is_ok r ≡ true
closed_answer ts n (Ok done) m l c = refl
closed_answer ts n (Err (Odd s)) m l c = absurd (open_from_odd s ts m.1 m.2 c)
closed_answer ts n (Err ShortShelf) m l c = absurd (omega arith)
