-- The next part, step by step: the side, the part line, then the points and faces.
use Rattle.std.proofs.Common.{◌≡◌, ℕ, List, [], length, Some, None, Ok, Err, Option, Result, sym, refl, ap, ◌∙◌, subst}
use Rattle.geometry.specs.declared.mesh.Point.{Point}
use Rattle.geometry.specs.declared.mesh.Face.{Face}
use Rattle.refusals.specs.declared.Refusal.{Refusal}
use Rattle.refusals.specs.declared.box_side.BoxSide.{BoxSide}
use Rattle.pattern.specs.declared.reader.Reader.{Reader}
use Rattle.pattern.specs.declared.reader.Counts.{Counts}
use Rattle.pattern.specs.Pattern.{Stand, End, no_part, over, fault, Outcome, ends, settled, part_from, next_part, answer, Stays, written}
use Rattle.pattern.specs.Read.{Sided, stand_of}

module _ (p f : ℕ) where
  -- the side is read
  pub after_side : (d : Stand) (before after : Reader) (s : BoxSide) → Sided (settled d) before after (Ok s)
      → next_part p f d ≡ part_from p f (stand_of after) (stand_of after).left
  after_side d before after s h = by_case (settled d) h
    where
      by_case : (x : Result Stand Refusal) → Sided x before after (Ok s)
          → elim x [ Ok e ↦ part_from p f e e.left | Err r ↦ ends (fault r) ] ≡ part_from p f (stand_of after) (stand_of after).left
      by_case (Ok e) h = ap (λ e. part_from p f e e.left) (sym h.1)
      by_case (Err r) h = absurd h

  pub no_side : (d : Stand) (before after : Reader) (q : Refusal) → Sided (settled d) before after (Err q)
      → (next_part p f d ≡ ends (fault q)) × (after ≡ before)
  no_side d before after q h = by_case (settled d) h
    where
      by_case : (x : Result Stand Refusal) → Sided x before after (Err q)
          → (elim x [ Ok e ↦ part_from p f e e.left | Err r ↦ ends (fault r) ] ≡ ends (fault q)) × (after ≡ before)
      by_case (Ok e) h = absurd h
      by_case (Err r) h = (ap (λ r. ends (fault r)) (sym h.0), h.1)

  pub none_left : (d : Stand) → d.left ≡ [] → part_from p f d d.left ≡ ends (no_part d)
  none_left d e = ap (part_from p f d) e

-- what a call that reads a part promises
pub record Answered (o : Outcome) (r : Result (Option Counts) Refusal) (before after : Reader) (points points' : List Point) (faces faces' : List Face) : Type 0 where
  pub answers : r ≡ answer o
  pub reader : Stays stand_of o.end before after
  pub points_are : points' ≡ written o.points points
  pub faces_are : faces' ≡ written o.faces faces

module _ (o : Outcome) (r : Result (Option Counts) Refusal) (before : Reader) (points : List Point) (faces : List Face) where
  pub refused : (q : Refusal) → r ≡ Err q → o ≡ ends (fault q) → Answered o r before before points points faces faces
  refused q e h = subst (λ (o : Outcome). Answered o r before before points points faces faces) (sym h)
      (record { answers = e; reader = refl; points_are = refl; faces_are = refl })

  pub at_end : (d : Stand) (after : Reader) → r ≡ Ok None → o ≡ ends (no_part d) → stand_of after ≡ d → Answered o r before after points points faces faces
  at_end d after e h s = subst (λ (o : Outcome). Answered o r before after points points faces faces) (sym h)
      (record { answers = e; reader = s; points_are = refl; faces_are = refl })

  module _ (points' : List Point) (faces' : List Face) (b : Outcome) (same : o ≡ b) (ps : points' ≡ written b.points points) (fs : faces' ≡ written b.faces faces) where
    pub cut_off : (q : Refusal) → r ≡ Err q → b.end ≡ fault q → Answered o r before before points points' faces faces'
    cut_off q e h = subst (λ (o : Outcome). Answered o r before before points points' faces faces') (sym same) (record {
      answers = e ∙ sym (ap (λ x. answer (record { points = b.points; faces = b.faces; end = x })) h);
      reader = subst (λ (x : End). Stays stand_of x before before) (sym h) refl;
      points_are = ps;
      faces_are = fs;
    })

    pub whole : (after : Reader) → r ≡ Ok (Some (record { points = length b.points; faces = length b.faces })) → b.end ≡ over (stand_of after)
        → Answered o r before after points points' faces faces'
    whole after e h = subst (λ (o : Outcome). Answered o r before after points points' faces faces') (sym same) (record {
      answers = e ∙ sym (ap (λ x. answer (record { points = b.points; faces = b.faces; end = x })) h);
      reader = subst (λ (x : End). Stays stand_of x before after) (sym h) refl;
      points_are = ps;
      faces_are = fs;
    })
