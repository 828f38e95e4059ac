-- What a checked call answers, part by part.
use Rattle.std.proofs.Common.{◌≡◌, Bool, true, false, cond, ◌&&◌, Some, None, sym, refl}
use Rattle.std.proofs.lemmas.Option.{cond_some, none-some}

-- something was answered, so the check was passed; nothing was answered, so it was not
pub some_is : {A : Type 0} (b : Bool) (x p : A) → Some x ≡ cond b (Some p) None → (b ≡ true) × (x ≡ p)
some_is b x p e = let r = cond_some b p x (sym e) in (r.0, sym r.1)

pub none_is : {A : Type 0} (b : Bool) (p : A) → None ≡ cond b (Some p) None → b ≡ false
none_is true p e = absurd (none-some p e)
none_is false p e = refl

-- three parts were made, so all three checks were passed
pub three_made : {A B : Type 0} (f g h : Bool) (a b c x y z : A) (make : A → A → A → B)
    → Some x ≡ cond f (Some a) None → Some y ≡ cond g (Some b) None → Some z ≡ cond h (Some c) None
    → Some (make x y z) ≡ cond (f && g && h) (Some (make a b c)) None
three_made {A} {B} f g h a b c x y z make p q r =
    let u = some_is f x a p in let v = some_is g y b q in let w = some_is h z c r in
    whole f g h u.0 v.0 w.0 u.1 v.1 w.1
  where
    whole : (f g h : Bool) → f ≡ true → g ≡ true → h ≡ true → x ≡ a → y ≡ b → z ≡ c → Some (make x y z) ≡ cond (f && g && h) (Some (make a b c)) None
    whole true true true i j k l m n = cc
    whole false g h i j k l m n = cc
    whole f false h i j k l m n = cc
    whole f g false i j k l m n = cc
