-- The first # of a word; an environment without the variables; one in which the value of a variable is not a text.
use Rattle.std.proofs.Common.{◌≡◌, ℕ, zero, suc, ◌<◌, Bool, true, false, ◌||◌, List, [], ◌∷◌, ◌++◌, Option, None, Some, Result, Ok, Err, IfOk, length, take, drop, slice_index, slice_set, arith, refl, ap, sym, ◌∙◌}
use Rattle.std.proofs.lemmas.List.{append-nil}
use Rattle.std.specs.Prelude.{is_some}
use Rattle.std.proofs.lemmas.Grind.{common_steps}
use Rattle.scl_args.specs.Options.{◌>>=◌}
use Rattle.scl_text.specs.declared.refusal.Refusal.TheVariants as refusals
use Rattle.scl_text.specs.declared.stop.Stop.{Stop}
use Rattle.scl_text.specs.declared.stop.Stop.TheVariants as stops
use Rattle.scl_text.specs.Records.{Parsed, Verdict, outcome_of}
use Rattle.scl_text.specs.Stops.{Gives, answer_to}
use Rattle.scl_msvc.specs.Environment.{with_equals, front_variable, back_variable, value_of, gives_words, surrounded, surroundings}

pub equals_put : (bytes : List ℕ) (i : ℕ) → i < length bytes → slice_index bytes i ≡ 35 → slice_set bytes i 61 ≡ take i bytes ++ with_equals (drop i bytes)
equals_put [] i within e = grind (arith, common_steps)
equals_put (b ∷ bs) zero within e = grind (arith, common_steps)
equals_put (b ∷ bs) (suc i) within e = grind (arith, common_steps, equals_put bs i)

none-some : {A : Type 0} (x : Option A) → is_some x ≡ false → x ≡ None
none-some None e = refl
none-some (Some a) e = absurd (cc)

or-none : (a b : Bool) → (a || b) ≡ false → (a ≡ false) × (b ≡ false)
or-none true b e = absurd (cc)
or-none false b e = (refl, e)

pub surrounded_by_none : (pairs : List (List ℕ × List ℕ)) (words : List (List ℕ)) → gives_words pairs ≡ false → surrounded pairs words ≡ Ok words
surrounded_by_none pairs words e =
    let none = or-none (is_some (value_of front_variable pairs)) (is_some (value_of back_variable pairs)) e in
    rw (none-some _ none.0, none-some _ none.1) (ap (λ w. Ok w) (append-nil words))

between : {V : Type 0} (front back : Result (List (List ℕ)) V) (words : List (List ℕ))
    → (front >>= (λ f. back >>= (λ b. Ok (f ++ words ++ b)))) ≡ ((front >>= (λ f. back >>= (λ b. let both : List (List ℕ) × List (List ℕ) = (f, b) in Ok both))) >>= (λ both. Ok (both.0 ++ words ++ both.1)))
between (Ok f) (Ok b) words = refl
between (Ok f) (Err v) words = refl
between (Err v) back words = refl

pub surrounded_by_both : (pairs : List (List ℕ × List ℕ)) (words front back : List (List ℕ)) → surroundings pairs ≡ Ok (front, back) → surrounded pairs words ≡ Ok (front ++ words ++ back)
surrounded_by_both pairs words front back e = between _ _ words ∙ ap (λ s. s >>= (λ both. Ok (both.0 ++ words ++ both.1))) e

pub surrounded_stops : (pairs : List (List ℕ × List ℕ)) (words : List (List ℕ)) (v : Verdict) → surroundings pairs ≡ Err v → surrounded pairs words ≡ Err v
surrounded_stops pairs words v e = between _ _ words ∙ ap (λ s. s >>= (λ both. Ok (both.0 ++ words ++ both.1))) e

-- if a step before the reading stops, the answer is its refusal
pub refusal_given : {T A : Type 0} (see : T → A) (stop : Stop) (said : Result A Verdict) (rest : A → Result Parsed Verdict)
    → Gives see (Err stop) said → IfOk (answer_to (Err stop)) (λ answer. outcome_of answer ≡ (said >>= rest))
refusal_given see (stops.Refused (refusals.CannotCache reason text)) said rest gives = sym (ap (λ s. s >>= rest) gives)
refusal_given see (stops.Refused refusals.NotCompilation) said rest gives = sym (ap (λ s. s >>= rest) gives)
refusal_given see stops.Memory said rest gives = gives
