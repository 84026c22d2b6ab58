-- The last of words and of indices; the refusal of a line is the first of its reading.
use Rattle.std.proofs.Common.{◌≡◌, ℕ, suc, Bool, true, false, cond, ◌-◌, Ok, map, filter, drop, List, [], ◌∷◌, ◌++◌, length, Option, Some, None, Vec, refl, sym, ap, ◌∙◌}
use Rattle.std.proofs.lemmas.Iterator.Adapters.{option_map_id}
use Rattle.std.proofs.lemmas.List.{length-map, map-id}
use Rattle.std.specs.List.{slice_get}
use Rattle.std.specs.Prelude.{Result, Err, unwrap_or, if◌then◌else◌}
use Rattle.std.specs.Option.{option_map, option_or}
use Rattle.std.specs.declared.alloc.Global.{Global}
use Rattle.scl_args.proofs.OptionLaws.{last-get}
use Rattle.scl_args.specs.Empties.{refusing_empty}
use Rattle.scl_args.specs.Options.{first_verdict, last, texts, unless}
use Rattle.scl_values.specs.Cuts.{cut, is_dangling}
use Rattle.scl_values.specs.Row.{Row}
use Rattle.scl_values.specs.Seen.{Seen, shown, text_of}
use Rattle.scl_values.specs.Words.{words_of}
use Rattle.scl_text.specs.JudgedWords.{judged_cut}
use Rattle.scl_files.specs.Sources.{first_at}
use Rattle.scl_text.specs.Lines.{ats_passing, dangled_by, first_some, line_by, line_options, no_line, refusals_after}
use Rattle.scl_text.specs.Reasons.{argument_parse, empty_value}
use Rattle.scl_text.specs.Records.{Verdict}

pub last_is : {A : Type 0} (xs : List A) → slice_get xs (length xs - 1) ≡ last xs
last_is xs = sym (option_map_id (slice_get xs (length xs - 1))) ∙ last-get (λ x. x) xs ∙ ap last (map-id xs)

pub last-word : (words : List (Vec ℕ Global)) (word : Vec ℕ Global) → Some word ≡ slice_get words (length words - 1) → word.items ≡ unwrap_or (last (words_of words)) []
last-word words word is = ap (λ o. unwrap_or (option_map (λ w. w.items) o) []) is ∙ ap (λ o. unwrap_or o []) (last-get (λ w. w.items) words)

-- the first refusal of a line is the first verdict on its options
pub first-refusal : {K : Type 0} (verdict : List (Seen K) → Seen K → Option Verdict) (before os : List (Seen K)) → first_some (refusals_after verdict before os) ≡ first_verdict verdict before os
first-refusal verdict before [] = refl
first-refusal verdict before (o ∷ os) = ap (λ rest. option_or (verdict before o) rest) (first-refusal verdict (before ++ o ∷ []) os)

module _ {K : Type 0} (own : List ℕ → Option (Row K)) (words : List (List ℕ)) (ats : List (Option ℕ)) (os : List (Seen K)) where
  -- the end is judged after the options
  end-behind : (said : Option Verdict) (dangles : Bool)
      → unless (option_or said (option_map (λ d. argument_parse) (dangled_by own dangles words ats))) (Ok os) ≡ unless said (if dangles then Err argument_parse else Ok os)
  end-behind (Some v) dangles = refl
  end-behind None true = refl
  end-behind None false = refl

-- the options of a line that is not refused are those of its words, judged
pub line-options : {K : Type 0} (verdict : List (Seen K) → Seen K → Option Verdict) (own : List ℕ → Option (Row K)) (dashes : Bool) (words : List (List ℕ)) (ats : List (Option ℕ))
    → line_options (line_by verdict own dashes words ats) ≡ judged_cut verdict own dashes words
unfolding line_by
line-options {K = K} verdict own dashes words ats =
    let c = cut own dashes words in
    let os = map shown c.options in
    let judge = refusing_empty own empty_value verdict in
    ap (λ said. unless (option_or said (option_map (λ d. argument_parse) (dangled_by own (is_dangling c.end) words ats))) (Ok os)) (first-refusal judge [] os)
    ∙ end-behind own words ats os (first_verdict judge [] os) (is_dangling c.end)

-- no words are no options
pub line_none : {K : Type 0} (verdict : List (Seen K) → Seen K → Option Verdict) (own : List ℕ → Option (Row K)) (dashes : Bool) (ats : List (Option ℕ))
    → line_by verdict own dashes [] ats ≡ no_line
unfolding line_by
line_none verdict own dashes ats = refl

-- ---- words for an inner command line

passed : {K : Type 0} (p : Seen K → Bool) (b : Bool) (o : Seen K) (os : List (Seen K)) (at : Option ℕ) (ats : List (Option ℕ)) → length (ats_passing p os ats) ≡ length (texts p os)
    → length ((if b then at ∷ [] else []) ++ ats_passing p os ats) ≡ length (map text_of (cond b (o ∷ filter p os) (filter p os)))
passed p true o os at ats e = ap suc e
passed p false o os at ats e = e

-- there are as many indices as words
pub passing_count : {K : Type 0} (p : Seen K → Bool) (os : List (Seen K)) (ats : List (Option ℕ)) → length (ats_passing p os ats) ≡ length (texts p os)
passing_count p [] ats = refl
passing_count p (o ∷ os) ats = passed p (p o) o os (first_at ats) (drop 1 ats) (passing_count p os (drop 1 ats))

pub words_count : (words : List (Vec ℕ Global)) → length (words_of words) ≡ length words
words_count words = length-map words (λ word. word.items)
