use Rattle.std.proofs.Common.{◌≡◌, ℕ, ◌+◌, ◌||◌, List, [], ◌∷◌, ◌++◌, map, take, sym, ap, ◌∙◌}
use Rattle.std.proofs.Math.Bool.{or-false, or_assoc}
use Rattle.std.proofs.lemmas.List.{map_more}
use Rattle.geometry.specs.declared.mesh.Triangle.{Triangle}
use Rattle.geometry.specs.Read.{triangle_of}
use Rattle.skins.specs.declared.Skin.{Skin}
use Rattle.skins.specs.Skins.{made_at, some_make}
use Rattle.skins.proofs.Marks.{marked_on}
use Rattle.skins.proofs.mark_skin.Goals as goal

-- one triangle more, at the end of the list
or_more : (s : Skin) (t : Triangle) (ts : List Triangle) (x y z : ℕ) → (some_make s ts x y z || made_at s t x y z) ≡ some_make s (ts ++ t ∷ []) x y z
or_more s t [] x y z = sym (or-false (made_at s t x y z))
or_more s t (u ∷ ts) x y z =
    or_assoc (made_at s u x y z) (some_make s ts x y z) (made_at s t x y z) ∙ ap (λ b. made_at s u x y z || b) (or_more s t ts x y z)

pub loop-facet-preserved : goal.loop-facet-preserved
loop-facet-preserved c =
    let fs = c.args.facets.now in
    let i = c.loop-facet.facet-index in
    let f = c.facet-item.result in
    let ts = map triangle_of (take i fs) in
    let more : map triangle_of (take (i + 1) fs) ≡ ts ++ triangle_of f ∷ [] =
    map_more triangle_of fs i f c.loop-facet-test.true ∙ ap (λ g. ts ++ triangle_of g ∷ []) (sym c.facet-item.is) in
    marked_on
    (λ x y z. or_more c.args.skin (triangle_of f) ts x y z ∙ ap (λ us. some_make c.args.skin us x y z) (sym more))
    c.loop-facet.invariant c.mark_coat.ensures
