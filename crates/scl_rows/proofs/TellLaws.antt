-- What rows say: refusals, lists and words of joined rows, and how rows and an outcome are related.
use Rattle.std.proofs.Common.{◌≡◌, List, [], ◌∷◌, ◌++◌, filter, Option, None, Some, Result, Err, refl, sym, ap, subst, ◌∙◌}
use Rattle.std.proofs.lemmas.Grind.{flat_map-append}
use Rattle.std.proofs.lemmas.List.Elements.{filter-append}
use Rattle.std.specs.List.{flat_map}
use Rattle.std.specs.Option.{option_or}
use Rattle.std.specs.Prelude.{IfOk, IfSome}
use Rattle.scl_args.specs.Options.{unless, ◌>>=◌}
use Rattle.scl_text.specs.Records.{Parsed, Verdict}
use Rattle.scl_rows.specs.Rows.{Told, Tells, HasLists, first_refusal, words_given, words_to}
use Rattle.scl_rows.specs.contracts.destination.DestinationPartialEq.TheImpl.{ghosts}
use Rattle.scl_rows.specs.declared.destination.Destination.{Destination}

-- ---- optional values, and steps that stop

or-assoc : {A : Type 0} (a b c : Option A) → option_or (option_or a b) c ≡ option_or a (option_or b c)
or-assoc None b c = refl
or-assoc (Some x) b c = refl

pub or-none : {A : Type 0} (a : Option A) → option_or a None ≡ a
or-none None = refl
or-none (Some x) = refl

pub unless-or : {A V : Type 0} (v w : Option V) (r : Result A V) → unless (option_or v w) r ≡ unless v (unless w r)
unless-or None w r = refl
unless-or (Some x) w r = refl

pub unless-bind : {A B V : Type 0} (v : Option V) (r : Result A V) (f : A → Result B V) → (unless v r >>= f) ≡ unless v (r >>= f)
unless-bind None r f = refl
unless-bind (Some y) r f = refl

-- ---- rows after others

pub first_refusal-append : (xs ys : List Told) → first_refusal (xs ++ ys) ≡ option_or (first_refusal xs) (first_refusal ys)
first_refusal-append [] ys = refl
first_refusal-append (x ∷ xs) ys = ap (option_or x.refusal) (first_refusal-append xs ys) ∙ sym (or-assoc x.refusal (first_refusal xs) (first_refusal ys))

pub words_to-append : (there : Destination) (xs ys : List Told) → words_to there (xs ++ ys) ≡ words_to there xs ++ words_to there ys
words_to-append there xs ys =
    ap (flat_map (λ row. row.printed)) (filter-append (λ row. ghosts.eq row.destination there) xs ys)
    ∙ flat_map-append (λ row. row.printed) (filter (λ row. ghosts.eq row.destination there) xs) (filter (λ row. ghosts.eq row.destination there) ys)

pub words_given-append : (xs ys : List Told) → words_given (xs ++ ys) ≡ words_given xs ++ words_given ys
words_given-append xs ys = flat_map-append (λ row. row.given) xs ys

-- ---- rows and an outcome

refused-by : (v : Option Verdict) (outcome tested : Result Parsed Verdict) → outcome ≡ unless v tested → IfSome v (λ verdict. outcome ≡ Err verdict)
refused-by None outcome tested e = tt
refused-by (Some x) outcome tested e = e

lists-by : (v : Option Verdict) (outcome tested : Result Parsed Verdict) (P : Parsed → Type 0) → outcome ≡ unless v tested → (v ≡ None → IfOk tested P) → IfOk outcome P
lists-by None outcome tested P e h = subst (λ r. IfOk r P) (sym e) (h refl)
lists-by (Some x) outcome tested P e h = subst (λ r. IfOk r P) (sym e) tt

pub tells : (rows : List Told) (outcome tested : Result Parsed Verdict) → outcome ≡ unless (first_refusal rows) tested → (first_refusal rows ≡ None → IfOk tested (HasLists rows)) → Tells rows outcome
tells rows outcome tested e h = record {
  refused = refused-by (first_refusal rows) outcome tested e;
  lists = lists-by (first_refusal rows) outcome tested (HasLists rows) e h;
}
