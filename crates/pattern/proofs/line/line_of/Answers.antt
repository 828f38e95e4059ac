use Rattle.std.proofs.Common.{◌≡◌, ℕ, List, None, Some, Option, MatchOption, refl}
use Rattle.pattern.specs.declared.line.Line.{Line}
use Rattle.pattern.specs.declared.line.Line.TheVariants.{Point, Face, Stray}
use Rattle.pattern.specs.declared.word.Triple.{Triple}
use Rattle.pattern.specs.Read.{Three, Told}
use Rattle.pattern.proofs.line.line_of.Goals as goal

-- where there are three words, each is told
told : (say : Triple → Line) → ((t : Triple) → Told (say t) ≡ Told (Point t)) → (ws : List (List ℕ)) (l : Line) (o : Option Triple) → Three ws o
    → MatchOption o (l ≡ Stray) (λ t. l ≡ say t) → Told l
told say same ws l None h e = rw e tt
told say same ws l (Some t) h e = rw (e, same t) h.1

pub returns-in-Some-Point-clause-told : goal.returns-in-Some-Point-clause-told
returns-in-Some-Point-clause-told c = told Point (λ t. refl) _ _ c.three.result c.three.ensures c.map_or-in-Some-Point.ensures

pub returns-in-Some-Face-clause-told : goal.returns-in-Some-Face-clause-told
returns-in-Some-Face-clause-told c = told Face (λ t. refl) _ _ c.three-in-Some-Face.result c.three-in-Some-Face.ensures c.map_or-in-Some-Face.ensures
