-- A list of loose sides after one more side, and after one more triangle.
use Rattle.std.proofs.Common.{◌≡◌, Bool, true, false, cond, not, ◌&&◌, List, [], ◌∷◌, ◌++◌, is_ok, is_some, Some, None, Ok, Err, OnOk, Result, Ordering, Less, Equal, Greater, unwrap_or, sym, refl, ap, ◌∙◌, subst}
use mathlib.Core.Bool.{false≢true}
use Rattle.std.specs.Ordering.{eq_by_cmp, is_lt, ordering_reverse}
use Rattle.std.proofs.lemmas.Cmp.{eq_by_cmp_equiv}
use Rattle.algebra.specs.Parity.{◌⊻◌}
use Rattle.algebra.proofs.Parity.{xor_assoc, xor_left}
use Rattle.algebra.proofs.Tests.{both, and_split, same_test}
use Rattle.geometry.specs.declared.mesh.Point.{Point}
use Rattle.geometry.specs.declared.mesh.Side.{Side}
use Rattle.geometry.specs.declared.mesh.Triangle.{Triangle}
use Rattle.geometry.specs.Closed.{eq_p, joins, odd_sides}
use Rattle.toggles.specs.Toggled.{Toggled}
use Rattle.closing.specs.Order.{point_cmp, side_cmp, point_order, side_order, before, side_by, side_between}
use Rattle.closing.specs.Holds.{Lists, toggled_at, Holds}
use Rattle.closing.proofs.Points.{same_point, eq_p_same, level_point, tied_side, not_before_itself, before_one_way}

-- ---- tests

either : (a b : Bool) {P : Type 0} → (a ≡ true → P) → (b ≡ true → P) → cond a true b ≡ true → P
either true b f g e = f refl
either false b f g e = g e

either_way : (a b : Bool) → cond a true b ≡ cond b true a
either_way true true = refl
either_way true false = refl
either_way false true = refl
either_way false false = refl

never : (t : Bool) → (t ≡ true → ⊥) → t ≡ false
never true h = absurd (h refl)
never false h = refl

-- l is whether the lesser end comes first, t whether it is the side that is toggled, and j whether that side joins the two ends
toggled_there : (l t j f : Bool) → (t ≡ true → l ≡ true) → (l ≡ true → j ≡ t) → cond t (not (l && f)) (l && f) ≡ (l && (j ⊻ f))
toggled_there true true j f up is = sym (ap (λ z. z ⊻ f) (is refl))
toggled_there true false j f up is = sym (ap (λ z. z ⊻ f) (is refl))
toggled_there false true j f up is = absurd (false≢true (up refl))
toggled_there false false j f up is = refl

not_toggled : (l j f : Bool) → (l ≡ true → j ≡ false) → (l && f) ≡ (l && (j ⊻ f))
not_toggled true j f is = sym (ap (λ z. z ⊻ f) (is refl))
not_toggled false j f is = refl

-- ---- what joins two points

joined : (a b c d : Point) {P : Type 0} → (a ≡ c → b ≡ d → P) → (a ≡ d → b ≡ c → P) → joins a b c d ≡ true → P
joined a b c d f g =
    either (eq_p a c && eq_p b d) (eq_p a d && eq_p b c)
    (λ e. let m = and_split (eq_p a c) (eq_p b d) e in f (same_point a c m.0) (same_point b d m.1))
    (λ e. let m = and_split (eq_p a d) (eq_p b c) e in g (same_point a d m.0) (same_point b c m.1))

joins_ends : (a b : Point) → joins a b a b ≡ true
joins_ends a b = ap (λ z. cond z true (eq_p a b && eq_p b a)) (both (eq_p_same a a refl) (eq_p_same b b refl))

joins_turned : (a b c d : Point) → joins a b c d ≡ joins a b d c
joins_turned a b c d = either_way (eq_p a c && eq_p b d) (eq_p a d && eq_p b c)

and_swap : (a b : Bool) → (a && b) ≡ (b && a)
and_swap true true = refl
and_swap true false = refl
and_swap false true = refl
and_swap false false = refl

pub joins_back : (a b c d : Point) → joins a b c d ≡ joins b a c d
joins_back a b c d = joins_turned a b c d ∙ (λ i. cond (and_swap (eq_p a d) (eq_p b c) i) true (and_swap (eq_p a c) (eq_p b d) i))

-- of two sides whose lesser end comes first, one joins the ends of the other exactly where they are the same
joins_tied : (x s : Side) → before x.low x.high ≡ true → before s.low s.high ≡ true
    → joins x.low x.high s.low s.high ≡ eq_by_cmp side_cmp x s
joins_tied x s up on = same_test (joins x.low x.high s.low s.high) (eq_by_cmp side_cmp x s) to back
  where
    level : x.low ≡ s.low → x.high ≡ s.high → eq_by_cmp side_cmp x s ≡ true
    level l h = (λ i. eq_by_cmp side_cmp (record { low = l i; high = h i }) s) ∙ (eq_by_cmp_equiv side_order).refl s

    crossed : x.low ≡ s.high → x.high ≡ s.low → ⊥
    crossed l h = before_one_way s.low s.high on ((λ i. before (sym l i) (sym h i)) ∙ up)

    to : joins x.low x.high s.low s.high ≡ true → eq_by_cmp side_cmp x s ≡ true
    to = joined x.low x.high s.low s.high level (λ l h. absurd (crossed l h))

    back : eq_by_cmp side_cmp x s ≡ true → joins x.low x.high s.low s.high ≡ true
    back t = ap (λ (y : Side). joins y.low y.high s.low s.high) (tied_side x s t) ∙ joins_ends s.low s.high

-- a side with equal ends joins those of no side whose lesser end comes first
joins_level : (x : Side) (p q : Point) → before x.low x.high ≡ true → p ≡ q → joins x.low x.high p q ≡ false
joins_level x p q up e =
    never (joins x.low x.high p q)
    (joined x.low x.high p q (λ l h. apart (l ∙ e ∙ sym h)) (λ l h. apart (l ∙ sym e ∙ sym h)))
  where
    apart : x.low ≡ x.high → ⊥
    apart = not_before_itself x.low x.high up

-- ---- one more side

module _ (ks ns : List Side) (f : Point → Point → Bool) (h : Lists ks f) where
  lists_more : (s : Side) → before s.low s.high ≡ true → Toggled side_order ks ns s → Lists ns (toggled_at s.low s.high f)
  lists_more s on t = record {
    rising = t.rising;
    exact = λ x.
        t.swaps x ∙ ap (λ z. cond (eq_by_cmp side_cmp x s) (not z) z) (h.exact x)
        ∙ toggled_there (before x.low x.high) (eq_by_cmp side_cmp x s) (joins x.low x.high s.low s.high) (f x.low x.high)
        (λ e. ap (λ (y : Side). before y.low y.high) (tied_side x s e) ∙ on) (λ up. joins_tied x s up on);
  }

  lists_level : (p q : Point) → p ≡ q → Lists ks (toggled_at p q f)
  lists_level p q e = record {
    rising = h.rising;
    exact = λ x.
        h.exact x
        ∙ not_toggled (before x.low x.high) (joins x.low x.high p q) (f x.low x.high) (λ up. joins_level x p q up e);
  }

  -- by what stands between p and q, in their order k
  some_by : (p q : Point) (s : Side) (k : Ordering) → point_cmp p q ≡ k → Some s ≡ side_by k p q
      → Toggled side_order ks ns s → Lists ns (toggled_at p q f)
  some_by p q s Less o e t =
      let u = subst (Toggled side_order ks ns) (ap (λ z. unwrap_or z s) e) t in
      lists_more (record { low = p; high = q }) (ap is_lt o) u
  some_by p q s Equal o e t = absurd (false≢true (sym (ap is_some e)))
  some_by p q s Greater o e t =
      let u = subst (Toggled side_order ks ns) (ap (λ z. unwrap_or z s) e) t in
      let turned = lists_more (record { low = q; high = p }) (ap is_lt (point_order.antisymm q p ∙ ap ordering_reverse o)) u in
      subst (Lists ns) (λ i a b. joins_turned a b q p i ⊻ f a b) turned

  none_by : (p q : Point) (k : Ordering) → point_cmp p q ≡ k → None ≡ side_by k p q → Lists ks (toggled_at p q f)
  none_by p q Less o e = absurd (false≢true (ap is_some e))
  none_by p q Equal o e = lists_level p q (level_point p q o)
  none_by p q Greater o e = absurd (false≢true (ap is_some e))

  -- after a call that toggled the side, if it answered `Ok`
  pub lists_some : {T E : Type 0} (p q : Point) (s : Side) (r : Result T E) → Some s ≡ side_between p q
      → (is_ok r ≡ true → Toggled side_order ks ns s) → OnOk r (Lists ns (toggled_at p q f))
  lists_some p q s (Ok v) e t = some_by p q s (point_cmp p q) refl e (t refl)
  lists_some p q s (Err d) e t = tt

  pub lists_none : (p q : Point) → None ≡ side_between p q → Lists ks (toggled_at p q f)
  lists_none p q = none_by p q (point_cmp p q) refl

-- ---- one more triangle

-- whether f holds of an odd number of the sides of t
abbrev around : (Point → Point → Bool) → Triangle → Bool
around f t = f t.v0 t.v1 ⊻ f t.v1 t.v2 ⊻ f t.v2 t.v0

odd_push : (f : Point → Point → Bool) (ts : List Triangle) (t : Triangle) → odd_sides f (ts ++ t ∷ []) ≡ (around f t ⊻ odd_sides f ts)
odd_push f [] t = refl
odd_push f (u ∷ ts) t = ap (λ z. around f u ⊻ z) (odd_push f ts t) ∙ xor_left (around f u) (around f t) (odd_sides f ts)

in_turn : (x y z o : Bool) → (x ⊻ y ⊻ z ⊻ o) ≡ (z ⊻ (y ⊻ (x ⊻ o)))
in_turn x y z o = simp (xor_assoc, xor_left)

-- f after the three sides of t in turn
abbrev toggled_around : Triangle → (Point → Point → Bool) → Point → Point → Bool
toggled_around t f = toggled_at t.v2 t.v0 (toggled_at t.v1 t.v2 (toggled_at t.v0 t.v1 f))

pub holds_more : (ns : List Side) (ts : List Triangle) (t : Triangle) → Lists ns (toggled_around t (λ a b. odd_sides (joins a b) ts))
    → Holds ns (ts ++ t ∷ [])
holds_more ns ts t = subst (Lists ns) (λ i a b. same a b i)
  where
    same : (a b : Point) → toggled_around t (λ c d. odd_sides (joins c d) ts) a b ≡ odd_sides (joins a b) (ts ++ t ∷ [])
    same a b =
        let f = joins a b in
        sym (odd_push f ts t ∙ in_turn (f t.v0 t.v1) (f t.v1 t.v2) (f t.v2 t.v0) (odd_sides f ts))
