-- All cells of a skin lie in the triangle's extent.
use Rattle.std.proofs.Common.{◌≡◌, ℕ, true, false, ◌&&◌, ℤ, pos, ◌≤ℤ◌, sym, refl, ◌∙◌, ⊎_elim, arith}
use Rattle.std.proofs.lemmas.Int.{ints}
use Rattle.std.proofs.lemmas.Bool.{and_right, cases_Bool}
use Rattle.algebra.proofs.Tests.{and_split}
use Rattle.geometry.specs.declared.mesh.Point.{Point}
use Rattle.geometry.specs.declared.mesh.Triangle.{Triangle}
use Rattle.geometry.specs.declared.facet.extent.Extent.{Extent}
use Rattle.geometry.specs.Cells.{cell_at, reaches, thick}
use Rattle.geometry.specs.Extents.{Extends, in_span}
use Rattle.geometry.specs.Read.{half}
use Rattle.mesh.proofs.Thin.{thin_thick}
use Rattle.block.specs.Drawing.{in_box}
use Rattle.block.proofs.Numbers.{in_box_true}
use Rattle.skins.specs.declared.Skin.{Skin}
use Rattle.skins.specs.declared.Skin.TheVariants.{Thick, Thin}
use Rattle.skins.specs.Skins.{made_at}

-- a thick cell is met on each axis
thick_reaches : (h : ℤ) (k : Point) (t : Triangle) → thick h k t ≡ true
    → (reaches (λ p. p.x) h k.x t ≡ true) × (reaches (λ p. p.y) h k.y t ≡ true) × (reaches (λ p. p.z) h k.z t ≡ true)
unfolding thick
thick_reaches h k t e =
    let r = and_split _ _ (and_split _ _ (and_split _ _ (and_split _ _ (and_split _ _ e).0).0).0).0 in
    let xy = and_split _ _ r.0 in
    (xy.0, xy.1, r.1)

made_thick : (s : Skin) (t : Triangle) (x y z : ℕ) → made_at s t x y z ≡ true → thick half (cell_at x y z) t ≡ true
made_thick Thick t x y z e = e
made_thick Thin t x y z e = thin_thick half eight (cell_at x y z) t e
  where
    eight : pos 0 ≤ℤ half
    eight = omega (arith, ints)

pub within_extent : (n : ℕ) (t : Triangle) (e : Extent) → Extends n t e → (s : Skin) (u v w : ℕ) → in_box n u v w ≡ true
    → (in_span e.x u && (in_span e.y v && (in_span e.z w && made_at s t u v w))) ≡ made_at s t u v w
within_extent n t e h s u v w i = ⊎_elim inside outside (cases_Bool (made_at s t u v w))
  where
    inside : made_at s t u v w ≡ true → (in_span e.x u && (in_span e.y v && (in_span e.z w && made_at s t u v w))) ≡ made_at s t u v w
    inside m =
        let b = in_box_true n u v w i in
        let r = thick_reaches half (cell_at u v w) t (made_thick s t u v w m) in
        let a : in_span e.x u ≡ true = h.x.met u b.0 ∙ r.0 in
        let c : in_span e.y v ≡ true = h.y.met v b.1 ∙ r.1 in
        let d : in_span e.z w ≡ true = h.z.met w b.2 ∙ r.2 in
        rw (a, c, d) refl

    outside : made_at s t u v w ≡ false → (in_span e.x u && (in_span e.y v && (in_span e.z w && made_at s t u v w))) ≡ made_at s t u v w
    outside m = and_right (in_span e.x u) _ (and_right (in_span e.y v) _ (and_right (in_span e.z w) _ m)) ∙ sym m
