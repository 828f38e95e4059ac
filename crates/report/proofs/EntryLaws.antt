-- The entries of a part, one after another.
use Rattle.std.proofs.Common.{◌≡◌, ℕ, ◌+◌, ◌-◌, ◌<◌, true, if◌then◌else◌, List, [], ◌∷◌, ◌++◌, map, length, get_or, take, Some, None, Err, Option, Result, sym, ap, ◌∙◌, subst, arith}
use Rattle.std.specs.List.{slice_get, All}
use Rattle.std.specs.Option.{ok_or}
use Rattle.std.proofs.lemmas.List.Elements.{All-push}
use Rattle.std.proofs.lemmas.List.{map-append, take_more}
use Rattle.std.proofs.lemmas.Option.{slice_get-get_or}
use Rattle.geometry.specs.declared.mesh.Triangle.{Triangle}
use Rattle.geometry.specs.declared.facet.Facet.{Facet}
use Rattle.geometry.specs.Range.{triangle_in_range}
use Rattle.geometry.specs.Read.{triangle_of}
use Rattle.geometry.proofs.Checked.{some_is, none_is}
use Rattle.report.specs.Parts.{Named, First, FirstHole, FirstWild}

module _ (es : List (Option Triangle)) (i : ℕ) (h : i < length es) where
  -- one entry more
  pub named_more : (kept : List Facet) (t : Triangle) (f : Facet) → Named (take i es) (map triangle_of kept) → Some t ≡ get_or es i None
      → Some (triangle_of f) ≡ (if triangle_in_range t then Some t else None) → Named (take (i + 1) es) (map triangle_of (kept ++ (f ∷ [])))
  named_more kept t f n e m =
      let s = some_is (triangle_in_range t) (triangle_of f) t m in (
        take_more es i None h
            ∙ ap (λ xs. xs ++ (get_or es i None ∷ [])) n.0
            ∙ ap (λ x. map Some (map triangle_of kept) ++ (x ∷ [])) (sym e ∙ ap Some (sym s.1))
            ∙ sym (map-append Some (map triangle_of kept) (triangle_of f ∷ [])) ∙ ap (map Some) (sym (map-append triangle_of kept (f ∷ []))),
        subst (λ (ts : List Triangle). All (λ t. triangle_in_range t ≡ true) ts) (sym (map-append triangle_of kept (f ∷ [])))
            (All-push (λ t. triangle_in_range t ≡ true) (map triangle_of kept) (triangle_of f) n.1 (ap triangle_in_range s.1 ∙ s.0)),
      )

  -- this entry is the first at fault
  first_is : (e : Option Triangle) (ts : List Triangle) → Named (take i es) ts → e ≡ get_or es i None → First es e (i + 1)
  first_is e ts n s = record {
    triangles = ts;
    from_one = omega arith;
    there = ap (slice_get es) (back i) ∙ slice_get-get_or es i None h ∙ ap Some (sym s);
    before = subst (λ (k : ℕ). Named (take k es) ts) (sym (back i)) n;
  }
    where
      back : (i : ℕ) → i + 1 - 1 ≡ i
      back i = omega arith

  pub hole_is : (ts : List Triangle) → Named (take i es) ts → None ≡ get_or es i None → FirstHole es (i + 1)
  hole_is ts n e = first_is None ts n e

  pub wild_is : (ts : List Triangle) (t : Triangle) → Named (take i es) ts → Some t ≡ get_or es i None
      → None ≡ (if triangle_in_range t then Some t else None) → FirstWild es (i + 1)
  wild_is ts t n e m = (t, first_is (Some t) ts n e, none_is (triangle_in_range t) t m)

-- the flaw that is told in place of a missing value
pub flaw_is : {A E : Type 0} (o : Option A) (flaw e : E) → ◌≡◌ {A = Result A E} (Err flaw) (ok_or o e) → o ≡ None → flaw ≡ e
flaw_is None flaw e h n = cc
flaw_is (Some x) flaw e h n = cc
