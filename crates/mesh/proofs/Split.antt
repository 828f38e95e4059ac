-- A triangle r, s, t cut by a plane from which r lies on one side, and s and t on the other. The heights of the corners over the plane are
-- gr, gs and gt, of which those that are at most 0 count as below. The cut is a chord from a point of the side r s to one of the side r t,
-- and weights on its two ends are weights on the three corners.
use Rattle.std.proofs.Common.{◌≡◌, [], ◌∷◌, ℤ, pos, ◌+ℤ◌, ◌-ℤ◌, ◌*ℤ◌, ◌≤ℤ◌, ◌<ℤ◌, sym, refl, ap, ◌∙◌, subst}
use lib.IntN.{+ℤ_idl}
use Rattle.algebra.proofs.IntRing.{mul_zero}
use Rattle.algebra.proofs.Ring.{var, ◌⊕◌, ◌⊖◌, ◌⊗◌, ring}
use Rattle.algebra.proofs.Order.{nonneg_of_pos, gap, plus_nonneg, pos_plus, plus_pos, mul_nonneg}
use Rattle.geometry.specs.declared.mesh.Point.{Point}
use Rattle.geometry.specs.declared.mesh.Triangle.{Triangle}
use Rattle.mesh.specs.Means.{Weights, total, mean}
use Rattle.mesh.proofs.Exprs.{Zero, area_e}
use Rattle.mesh.proofs.Means.{levels, levels_turned}

-- the value of q where a side meets the plane, times the square of the side's rise
abbrev pub cut : ℤ → ℤ → ℤ → ℤ → ℤ
cut qa ga qb gb = (qa *ℤ gb -ℤ qb *ℤ ga) *ℤ (gb -ℤ ga)

pub cut_turn : (qa ga qb gb : ℤ) → cut qa ga qb gb ≡ cut qb gb qa ga
cut_turn qa ga qb gb =
    ring (qa ∷ ga ∷ qb ∷ gb ∷ [])
    ((var 0 ⊗ var 3 ⊖ var 2 ⊗ var 1) ⊗ (var 3 ⊖ var 1)) ((var 2 ⊗ var 1 ⊖ var 0 ⊗ var 3) ⊗ (var 1 ⊖ var 3)) refl

-- twice the area of a triangle seen along a third axis
abbrev pub area : ℤ → ℤ → ℤ → ℤ → ℤ → ℤ → ℤ
area pr gr ps gs pt gt = (ps -ℤ pr) *ℤ (gt -ℤ gs) -ℤ (gs -ℤ gr) *ℤ (pt -ℤ ps)

-- weights by which the ends of the two sides meet the plane: ms and mr on r and s, mt and mr on r and t
pub record Split (gr gs gt : ℤ) : Type 0 where
  pub mr : ℤ
  pub ms : ℤ
  pub mt : ℤ
  pub mr_some : pos 0 ≤ℤ mr
  pub ms_some : pos 0 ≤ℤ ms
  pub mt_some : pos 0 ≤ℤ mt
  pub w1_pos : pos 0 <ℤ (ms +ℤ mr)
  pub w2_pos : pos 0 <ℤ (mt +ℤ mr)
  pub on1 : ms *ℤ gr +ℤ mr *ℤ gs ≡ pos 0
  pub on2 : mt *ℤ gr +ℤ mr *ℤ gt ≡ pos 0
  pub cut1 : (qr qs : ℤ) → cut qr gr qs gs ≡ (ms *ℤ qr +ℤ mr *ℤ qs) *ℤ (ms +ℤ mr)
  pub cut2 : (qr qt : ℤ) → cut qr gr qt gt ≡ (mt *ℤ qr +ℤ mr *ℤ qt) *ℤ (mt +ℤ mr)
  -- weights on the corners that make 0 in height weigh the two sides against r
  pub balance : (a b c : ℤ) → a *ℤ gr +ℤ b *ℤ gs +ℤ c *ℤ gt ≡ pos 0 → b *ℤ ms +ℤ c *ℤ mt ≡ a *ℤ mr
  pub flat : (pr ps pt : ℤ) → area pr gr ps gs pt gt ≡ pos 0
      → (mt *ℤ pr +ℤ mr *ℤ pt) *ℤ (ms +ℤ mr) -ℤ (ms *ℤ pr +ℤ mr *ℤ ps) *ℤ (mt +ℤ mr) ≡ pos 0

-- ---- r below, s and t above

cut_up : (gr gs qr qs : ℤ) → cut qr gr qs gs ≡ (gs *ℤ qr +ℤ (pos 0 -ℤ gr) *ℤ qs) *ℤ (gs +ℤ (pos 0 -ℤ gr))
cut_up gr gs qr qs =
    let GR = var 0 in let GS = var 1 in let QR = var 2 in let QS = var 3 in
    ring (gr ∷ gs ∷ qr ∷ qs ∷ []) ((QR ⊗ GS ⊖ QS ⊗ GR) ⊗ (GS ⊖ GR)) ((GS ⊗ QR ⊕ (Zero ⊖ GR) ⊗ QS) ⊗ (GS ⊕ (Zero ⊖ GR))) refl

flat_up : (gr gs gt pr ps pt : ℤ)
    → (gt *ℤ pr +ℤ (pos 0 -ℤ gr) *ℤ pt) *ℤ (gs +ℤ (pos 0 -ℤ gr)) -ℤ (gs *ℤ pr +ℤ (pos 0 -ℤ gr) *ℤ ps) *ℤ (gt +ℤ (pos 0 -ℤ gr))
    ≡ gr *ℤ area pr gr ps gs pt gt
flat_up gr gs gt pr ps pt =
    let GR = var 0 in let GS = var 1 in let GT = var 2 in let PR = var 3 in let PS = var 4 in let PT = var 5 in
    ring (gr ∷ gs ∷ gt ∷ pr ∷ ps ∷ pt ∷ [])
    ((GT ⊗ PR ⊕ (Zero ⊖ GR) ⊗ PT) ⊗ (GS ⊕ (Zero ⊖ GR)) ⊖ (GS ⊗ PR ⊕ (Zero ⊖ GR) ⊗ PS) ⊗ (GT ⊕ (Zero ⊖ GR)))
    (GR ⊗ area_e PR GR PS GS PT GT) refl

pub split_up : (gr gs gt : ℤ) → gr ≤ℤ pos 0 → pos 0 <ℤ gs → pos 0 <ℤ gt → Split gr gs gt
split_up gr gs gt a b c =
    let n = gap gr (pos 0) a in
    record {
      mr = pos 0 -ℤ gr;
      ms = gs;
      mt = gt;
      mr_some = n;
      ms_some = nonneg_of_pos gs b;
      mt_some = nonneg_of_pos gt c;
      w1_pos = pos_plus gs _ b n;
      w2_pos = pos_plus gt _ c n;
      on1 = levels gr gs;
      on2 = levels gr gt;
      balance = λ a b c e.
          ring (gr ∷ gs ∷ gt ∷ a ∷ b ∷ c ∷ [])
          (var 4 ⊗ var 1 ⊕ var 5 ⊗ var 2) ((var 3 ⊗ var 0 ⊕ var 4 ⊗ var 1 ⊕ var 5 ⊗ var 2) ⊕ var 3 ⊗ (Zero ⊖ var 0)) refl
          ∙ ap (λ x. x +ℤ a *ℤ (pos 0 -ℤ gr)) e ∙ +ℤ_idl _;
      cut1 = cut_up gr gs;
      cut2 = cut_up gr gt;
      flat = λ pr ps pt e. flat_up gr gs gt pr ps pt ∙ mul_zero gr _ e;
    }

-- ---- r above, s and t below

cut_down : (gr gs qr qs : ℤ) → cut qr gr qs gs ≡ ((pos 0 -ℤ gs) *ℤ qr +ℤ gr *ℤ qs) *ℤ ((pos 0 -ℤ gs) +ℤ gr)
cut_down gr gs qr qs =
    let GR = var 0 in let GS = var 1 in let QR = var 2 in let QS = var 3 in
    ring (gr ∷ gs ∷ qr ∷ qs ∷ []) ((QR ⊗ GS ⊖ QS ⊗ GR) ⊗ (GS ⊖ GR)) (((Zero ⊖ GS) ⊗ QR ⊕ GR ⊗ QS) ⊗ ((Zero ⊖ GS) ⊕ GR)) refl

flat_down : (gr gs gt pr ps pt : ℤ)
    → ((pos 0 -ℤ gt) *ℤ pr +ℤ gr *ℤ pt) *ℤ ((pos 0 -ℤ gs) +ℤ gr) -ℤ ((pos 0 -ℤ gs) *ℤ pr +ℤ gr *ℤ ps) *ℤ ((pos 0 -ℤ gt) +ℤ gr)
    ≡ gr *ℤ area pr gr ps gs pt gt
flat_down gr gs gt pr ps pt =
    let GR = var 0 in let GS = var 1 in let GT = var 2 in let PR = var 3 in let PS = var 4 in let PT = var 5 in
    ring (gr ∷ gs ∷ gt ∷ pr ∷ ps ∷ pt ∷ [])
    (((Zero ⊖ GT) ⊗ PR ⊕ GR ⊗ PT) ⊗ ((Zero ⊖ GS) ⊕ GR) ⊖ ((Zero ⊖ GS) ⊗ PR ⊕ GR ⊗ PS) ⊗ ((Zero ⊖ GT) ⊕ GR))
    (GR ⊗ area_e PR GR PS GS PT GT) refl

pub split_down : (gr gs gt : ℤ) → pos 0 <ℤ gr → gs ≤ℤ pos 0 → gt ≤ℤ pos 0 → Split gr gs gt
split_down gr gs gt a b c =
    let n = gap gs (pos 0) b in let m = gap gt (pos 0) c in
    record {
      mr = gr;
      ms = pos 0 -ℤ gs;
      mt = pos 0 -ℤ gt;
      mr_some = nonneg_of_pos gr a;
      ms_some = n;
      mt_some = m;
      w1_pos = plus_pos _ gr n a;
      w2_pos = plus_pos _ gr m a;
      on1 = levels_turned gr gs;
      on2 = levels_turned gr gt;
      balance = λ a b c e.
          ring (gr ∷ gs ∷ gt ∷ a ∷ b ∷ c ∷ [])
          (var 4 ⊗ (Zero ⊖ var 1) ⊕ var 5 ⊗ (Zero ⊖ var 2)) (var 3 ⊗ var 0 ⊖ (var 3 ⊗ var 0 ⊕ var 4 ⊗ var 1 ⊕ var 5 ⊗ var 2)) refl
          ∙ ap (λ x. a *ℤ gr -ℤ x) e ∙ ring (a ∷ gr ∷ []) (var 0 ⊗ var 1 ⊖ Zero) (var 0 ⊗ var 1) refl;
      cut1 = cut_down gr gs;
      cut2 = cut_down gr gt;
      flat = λ pr ps pt e. flat_down gr gs gt pr ps pt ∙ mul_zero gr _ e;
    }

-- ---- the chord

-- the chord's two ends, in a value that is fr, fs and ft at the corners; their weights are ms + mr and mt + mr
abbrev pub end1 : {gr gs gt : ℤ} → Split gr gs gt → ℤ → ℤ → ℤ
end1 sp fr fs = sp.ms *ℤ fr +ℤ sp.mr *ℤ fs

abbrev pub end2 : {gr gs gt : ℤ} → Split gr gs gt → ℤ → ℤ → ℤ
end2 sp fr ft = sp.mt *ℤ fr +ℤ sp.mr *ℤ ft

-- the ends of a value that is k less at each corner
pub end1_less : {gr gs gt : ℤ} (sp : Split gr gs gt) (fr fs k : ℤ)
    → end1 sp (fr -ℤ k) (fs -ℤ k) ≡ end1 sp fr fs -ℤ k *ℤ (sp.ms +ℤ sp.mr)
end1_less sp fr fs k =
    ring (sp.ms ∷ sp.mr ∷ fr ∷ fs ∷ k ∷ [])
    (var 0 ⊗ (var 2 ⊖ var 4) ⊕ var 1 ⊗ (var 3 ⊖ var 4)) ((var 0 ⊗ var 2 ⊕ var 1 ⊗ var 3) ⊖ var 4 ⊗ (var 0 ⊕ var 1)) refl

pub end2_less : {gr gs gt : ℤ} (sp : Split gr gs gt) (fr ft k : ℤ)
    → end2 sp (fr -ℤ k) (ft -ℤ k) ≡ end2 sp fr ft -ℤ k *ℤ (sp.mt +ℤ sp.mr)
end2_less sp fr ft k =
    ring (sp.mt ∷ sp.mr ∷ fr ∷ ft ∷ k ∷ [])
    (var 0 ⊗ (var 2 ⊖ var 4) ⊕ var 1 ⊗ (var 3 ⊖ var 4)) ((var 0 ⊗ var 2 ⊕ var 1 ⊗ var 3) ⊖ var 4 ⊗ (var 0 ⊕ var 1)) refl

-- weights m1 and m2 on the chord's ends are weights on the corners
module _ {gr gs gt : ℤ} (sp : Split gr gs gt) (m1 m2 : ℤ) where
  total_is : (m1 *ℤ sp.ms +ℤ m2 *ℤ sp.mt) +ℤ m1 *ℤ sp.mr +ℤ m2 *ℤ sp.mr
      ≡ m1 *ℤ (sp.ms +ℤ sp.mr) +ℤ m2 *ℤ (sp.mt +ℤ sp.mr)
  total_is =
      ring (m1 ∷ m2 ∷ sp.ms ∷ sp.mt ∷ sp.mr ∷ [])
      ((var 0 ⊗ var 2 ⊕ var 1 ⊗ var 3) ⊕ var 0 ⊗ var 4 ⊕ var 1 ⊗ var 4) (var 0 ⊗ (var 2 ⊕ var 4) ⊕ var 1 ⊗ (var 3 ⊕ var 4)) refl

  module _ (h : pos 0 ≤ℤ m1) (k : pos 0 ≤ℤ m2) (n : pos 0 <ℤ (m1 *ℤ (sp.ms +ℤ sp.mr) +ℤ m2 *ℤ (sp.mt +ℤ sp.mr))) where
    pub weights_of : Weights
    weights_of = record {
      a = m1 *ℤ sp.ms +ℤ m2 *ℤ sp.mt;
      b = m1 *ℤ sp.mr;
      c = m2 *ℤ sp.mr;
      a_some = plus_nonneg _ _ (mul_nonneg m1 sp.ms h sp.ms_some) (mul_nonneg m2 sp.mt k sp.mt_some);
      b_some = mul_nonneg m1 sp.mr h sp.mr_some;
      c_some = mul_nonneg m2 sp.mr k sp.mr_some;
      not_none = subst (λ x. pos 0 <ℤ x) (sym total_is) n;
    }

    pub mean_of : (t : Triangle) (f : Point → ℤ)
        → mean f weights_of t ≡ m1 *ℤ end1 sp (f t.v0) (f t.v1) +ℤ m2 *ℤ end2 sp (f t.v0) (f t.v2)
    unfolding weights_of
    mean_of t f =
        ring (m1 ∷ m2 ∷ sp.ms ∷ sp.mt ∷ sp.mr ∷ f t.v0 ∷ f t.v1 ∷ f t.v2 ∷ [])
        ((var 0 ⊗ var 2 ⊕ var 1 ⊗ var 3) ⊗ var 5 ⊕ (var 0 ⊗ var 4) ⊗ var 6 ⊕ (var 1 ⊗ var 4) ⊗ var 7)
        (var 0 ⊗ (var 2 ⊗ var 5 ⊕ var 4 ⊗ var 6) ⊕ var 1 ⊗ (var 3 ⊗ var 5 ⊕ var 4 ⊗ var 7)) refl

    -- a value that is 0 at both ends is 0 at the mean
    pub mean_on : (t : Triangle) (f : Point → ℤ)
        → end1 sp (f t.v0) (f t.v1) ≡ pos 0 → end2 sp (f t.v0) (f t.v2) ≡ pos 0 → mean f weights_of t ≡ pos 0
    mean_on t f e d =
        mean_of t f ∙ ap (λ x. m1 *ℤ x +ℤ m2 *ℤ end2 sp (f t.v0) (f t.v2)) e ∙ ap (λ x. m1 *ℤ pos 0 +ℤ m2 *ℤ x) d
        ∙ ring (m1 ∷ m2 ∷ []) (var 0 ⊗ Zero ⊕ var 1 ⊗ Zero) Zero refl

    pub total_of : total weights_of ≡ m1 *ℤ (sp.ms +ℤ sp.mr) +ℤ m2 *ℤ (sp.mt +ℤ sp.mr)
    unfolding weights_of
    total_of = total_is
