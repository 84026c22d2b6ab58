use Rattle.std.proofs.Common.{◌≡◌, Bool, true, false, cond, List, [], ◌∷◌, ◌++◌, Option, None, Some, Result, Ok, Err, refl, sym, ◌∙◌}
use Rattle.std.specs.Option.{option_or}
use Rattle.std.specs.Prelude.{ok_or}
use Rattle.scl_values.specs.Each.{Each}
use Rattle.scl_args.specs.Options.{first_verdict, judged, unless, ◌>>=◌}
use Rattle.scl_values.specs.Seen.{Seen}

-- ---- what an outcome Ok says, step by step

pub bind-ok : {A B V : Type 0} (r : Result A V) (f : A → Result B V) (b : B) → (r >>= f) ≡ Ok b → (a : A) × (r ≡ Ok a) × (f a ≡ Ok b)
bind-ok (Ok x) f b e = (x, refl, e)
bind-ok (Err v) f b e = absurd (cc)

pub ok_or-ok : {A V : Type 0} (o : Option A) (v : V) (a : A) → ok_or o v ≡ Ok a → o ≡ Some a
ok_or-ok None v a e = absurd (cc)
ok_or-ok (Some x) v a e = cc

pub unless-ok : {A V : Type 0} (v : Option V) (r : Result A V) (a : A) → unless v r ≡ Ok a → r ≡ Ok a
unless-ok None r a e = e
unless-ok (Some v) r a e = absurd (cc)

pub unless-none : {A V : Type 0} (v : Option V) (r : Result A V) (a : A) → unless v r ≡ Ok a → v ≡ None
unless-none None r a e = refl
unless-none (Some v) r a e = absurd (cc)

pub option_or-none : {A : Type 0} (x y : Option A) → option_or x y ≡ None → (x ≡ None) × (y ≡ None)
option_or-none None y e = (refl, e)
option_or-none (Some a) y e = absurd (cc)

if-ok : {A V : Type 0} (dangles : Bool) (v : V) (x a : A) → cond dangles (Err v) (Ok x) ≡ Ok a → x ≡ a
if-ok true v x a e = absurd (cc)
if-ok false v x a e = cc

-- if no option is refused, the options are the result
pub judged-ok : {K V : Type 0} (verdict : List (Seen K) → Seen K → Option V) (dangling : V) (os : List (Seen K)) (dangles : Bool) (xs : List (Seen K)) → judged verdict dangling os dangles ≡ Ok xs → os ≡ xs
judged-ok verdict dangling os dangles xs e = if-ok dangles dangling os xs (unless-ok (first_verdict verdict _ os) _ xs e)

-- and there is no verdict of any of them, if a verdict does not depend on the options before
module _ {K V : Type 0} (verdict : List (Seen K) → Seen K → Option V) (alone : (before : List (Seen K)) (o : Seen K) → verdict before o ≡ verdict [] o) where
  none-refused : (before os : List (Seen K)) → first_verdict verdict before os ≡ None → Each (λ o. verdict [] o ≡ None) os
  none-refused before [] e = tt
  none-refused before (o ∷ os) e =
      let both = option_or-none (verdict before o) (first_verdict verdict (before ++ o ∷ []) os) e in
      (sym (alone before o) ∙ both.0, none-refused (before ++ o ∷ []) os both.1)

  pub judged-none : (dangling : V) (os : List (Seen K)) (dangles : Bool) (xs : List (Seen K)) → judged verdict dangling os dangles ≡ Ok xs → Each (λ o. verdict [] o ≡ None) os
  judged-none dangling os dangles xs e = none-refused [] os (unless-none (first_verdict verdict [] os) _ xs e)
