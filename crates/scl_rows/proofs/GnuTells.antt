-- What the rows of a command line of Gcc or Clang say of its outcome, and the words that they were cut from.
use Rattle.std.proofs.Common.{◌≡◌, ℕ, Bool, true, false, cond, List, [], ◌∷◌, ◌++◌, Option, None, Some, Result, Ok, Err, refl, sym, ap, subst, ◌∙◌}
use Rattle.std.proofs.lemmas.List.{append-nil}
use Rattle.std.specs.List.{flat_map}
use Rattle.std.specs.Option.{option_or}
use Rattle.std.specs.Prelude.{IfOk, is_some}
use Rattle.std.specs.Str.{bytes_eq}
use Rattle.scl_args.proofs.OutcomeLaws.{option_or-none}
use Rattle.scl_args.specs.Options.{last_flag, last_text, list, side_of_flag, unless, ◌>>=◌}
use Rattle.scl_files.specs.Expanded.{ExpandedWords, expanded_by}
use Rattle.scl_files.specs.Views.{Viewed}
use Rattle.scl_files.specs.declared.expand.ExpansionKind.TheVariants as expansions
use Rattle.scl_gnu_reading.proofs.ObjectLaws.{object-found}
use Rattle.scl_gnu_reading.specs.ClangRows.{clang_tables}
use Rattle.scl_gnu_reading.specs.FixedTests.{Found, found}
use Rattle.scl_gnu_reading.specs.Inners.{goes_inside_to, inner_place_of, inner_verdict, inner_words_at}
use Rattle.scl_gnu_reading.specs.Kinds.{any, of}
use Rattle.scl_gnu_reading.specs.Places.{goes_to, place_of, words_at}
use Rattle.scl_gnu_reading.specs.Readings.{recorded}
use Rattle.scl_gnu_reading.specs.Reads.{GnuRead, handed_ats, handed_words, read_by}
use Rattle.scl_gnu_reading.specs.Recordings.{added_common, added_dependency, all_words_at, is_clang, needs_target, record_of}
use Rattle.scl_gnu_reading.specs.Verdicts.{verdict}
use Rattle.scl_gnu_reading.specs.contracts.gcc.place.PlacePartialEq.TheImpl as place_equality
use Rattle.scl_gnu_reading.specs.declared.gcc.data.Kind.{Kind}
use Rattle.scl_gnu_reading.specs.declared.gcc.data.Kind.TheVariants as kind
use Rattle.scl_gnu_reading.specs.declared.gcc.place.Place.{Place}
use Rattle.scl_gnu_reading.specs.declared.gcc.place.Place.TheVariants as places
use Rattle.scl_text.specs.Commands.{object_of}
use Rattle.scl_text.specs.Lines.{line_refusal}
use Rattle.scl_text.specs.Records.{Parsed, Verdict}
use Rattle.scl_text.specs.declared.language.Language.{Language}
use Rattle.scl_text.specs.declared.records.CCompilerKind.{CCompilerKind}
use Rattle.scl_values.specs.Cuts.{mark}
use Rattle.scl_values.specs.Row.{Row}
use Rattle.scl_values.specs.Seen.{Seen, Raw, Unknown, Known}
use Rattle.scl_values.specs.Tables.{owner_in}
use Rattle.scl_rows.specs.GnuRows.{destination_at, gnu_rows, inner_goes, inner_ways, outer_goes, outer_ways, raw_goes, rows_added, rows_for, rows_recorded, rows_split, rows_target, unlisted, unlisted_kind}
use Rattle.scl_rows.specs.Lines.{line_rows}
use Rattle.scl_rows.specs.Rows.{Told, Tells, HasLists, first_refusal, handed, is_list, words_given, words_to}
use Rattle.scl_rows.specs.contracts.destination.DestinationPartialEq.TheImpl.{ghosts}
use Rattle.scl_rows.specs.declared.destination.Destination.{Destination}
use Rattle.scl_rows.specs.declared.destination.Destination.TheVariants as destinations
use Rattle.scl_rows.specs.declared.origin.Origin.TheVariants as origins
use Rattle.scl_rows.proofs.LineLaws.{given-words, line-given, line-listed, line-refused, list-same, listed, other-list, read-whole}
use Rattle.scl_rows.proofs.TellLaws.{first_refusal-append, or-none, tells, unless-bind, unless-or, words_given-append, words_to-append}

-- ---- destinations and places

pub raw-unlisted : (word : List ℕ) → is_list (raw_goes word) ≡ false
raw-unlisted word = elim (bytes_eq word mark) as (λ b. is_list (cond b destinations.Mark destinations.Input) ≡ false) [ true ↦ refl | false ↦ refl ]

kind-unlisted : (k : Kind) → is_list (unlisted_kind k) ≡ false
kind-unlisted kind.DiagnosticsColor = refl
kind-unlisted kind.DiagnosticsColorFlag = refl
kind-unlisted kind.DepTarget = refl
kind-unlisted kind.DoCompilation = refl
kind-unlisted kind.Language = refl
kind-unlisted kind.Output = refl
kind-unlisted kind.SerializeDiagnostics = refl
kind-unlisted kind.XClang = refl
kind-unlisted _ = refl

no-list : (o : Seen Kind) → is_list (unlisted o) ≡ false
no-list (Raw w) = raw-unlisted w
no-list (Unknown w) = refl
no-list (Known f k v how) = kind-unlisted k

-- the list of a place
abbrev there_is : Place → Destination
there_is place = destination_at place destinations.Ignored

same-place : (place a : Place) (other : Destination) → is_list (there_is place) ≡ true → is_list other ≡ false → ghosts.eq (destination_at a other) (there_is place) ≡ place_equality.ghosts.eq a place
same-place places.Common places.Nowhere other l n = other-list other destinations.Common refl n
same-place places.Common _ other l n = refl
same-place places.Unhashed places.Nowhere other l n = other-list other destinations.Unhashed refl n
same-place places.Unhashed _ other l n = refl
same-place places.Arch places.Nowhere other l n = other-list other destinations.Architecture refl n
same-place places.Arch _ other l n = refl
same-place places.Preprocessor places.Nowhere other l n = other-list other destinations.Preprocessor refl n
same-place places.Preprocessor _ other l n = refl
same-place places.Dependency places.Nowhere other l n = other-list other destinations.Dependency refl n
same-place places.Dependency _ other l n = refl
same-place places.Nowhere a other l n = absurd (cc)
same-place places.Refused a other l n = absurd (cc)

outer-listed : (place : Place) → is_list (there_is place) ≡ true → (os : List (Seen Kind)) → listed outer_ways (there_is place) os ≡ words_at place os
outer-listed place l os =
    given-words (list side_of_flag (λ o. ghosts.eq (outer_goes o) (there_is place)) os)
    ∙ list-same (λ o. ghosts.eq (outer_goes o) (there_is place)) (goes_to place) (λ o. same-place place (place_of o) (unlisted o) l (no-list o)) side_of_flag os

inner-listed : (place : Place) → is_list (there_is place) ≡ true → (os : List (Seen Kind)) → listed inner_ways (there_is place) os ≡ inner_words_at place os
inner-listed place l os =
    ap (flat_map (handed origins.Xclang))
    (list-same (λ o. ghosts.eq (inner_goes o) (there_is place)) (goes_inside_to place) (λ o. same-place place (inner_place_of o) destinations.Ignored l refl) side_of_flag os)

-- ---- the rows that the rules add

none-target : (is_needed has_path : Bool) (flag target : Option (List ℕ)) (object : List ℕ) → first_refusal (rows_target is_needed has_path flag target object) ≡ None
none-target true true flag target object = refl
none-target true false flag target object = refl
none-target false has_path flag target object = refl

none-split : (is_split : Bool) (object : List ℕ) → first_refusal (rows_split is_split object) ≡ None
none-split true object = refl
none-split false object = refl

none-both : (is_needed has_path : Bool) (flag target : Option (List ℕ)) (object : List ℕ) (is_split : Bool) → first_refusal (rows_target is_needed has_path flag target object ++ rows_split is_split object) ≡ None
none-both is_needed has_path flag target object is_split =
    first_refusal-append (rows_target is_needed has_path flag target object) (rows_split is_split object)
    ∙ ap (λ v. option_or v (first_refusal (rows_split is_split object))) (none-target is_needed has_path flag target object)
    ∙ none-split is_split object

none-added : (os : List (Seen Kind)) (language : Language) (object : List ℕ) → first_refusal (rows_added os language object) ≡ None
none-added os language object =
    none-both (needs_target language os) (is_some (last_text (of (kind.DepArgumentPath ∷ [])) os)) (last_flag (of (kind.DepTarget ∷ [])) os) (last_text (of (kind.DepTarget ∷ [])) os) object
    (any (kind.SplitDwarf ∷ []) os)

none-for : (os : List (Seen Kind)) (language : Language) (object : Option (List ℕ)) → first_refusal (rows_for os language object) ≡ None
none-for os language None = refl
none-for os language (Some object) = none-added os language object

none-recorded : (os : List (Seen Kind)) (said : Result Parsed Verdict) → first_refusal (rows_recorded os said) ≡ None
none-recorded os (Ok p) = none-for os p.language (object_of p)
none-recorded os (Err v) = refl

target-given : (is_needed has_path : Bool) (flag target : Option (List ℕ)) (object : List ℕ) → words_given (rows_target is_needed has_path flag target object) ≡ []
target-given true true flag target object = refl
target-given true false flag target object = refl
target-given false has_path flag target object = refl

split-given : (is_split : Bool) (object : List ℕ) → words_given (rows_split is_split object) ≡ []
split-given true object = refl
split-given false object = refl

both-given : (is_needed has_path : Bool) (flag target : Option (List ℕ)) (object : List ℕ) (is_split : Bool) → words_given (rows_target is_needed has_path flag target object ++ rows_split is_split object) ≡ []
both-given is_needed has_path flag target object is_split =
    words_given-append (rows_target is_needed has_path flag target object) (rows_split is_split object)
    ∙ ap (λ ws. ws ++ words_given (rows_split is_split object)) (target-given is_needed has_path flag target object)
    ∙ split-given is_split object

for-given : (os : List (Seen Kind)) (language : Language) (object : Option (List ℕ)) → words_given (rows_for os language object) ≡ []
for-given os language None = refl
for-given os language (Some object) =
    both-given (needs_target language os) (is_some (last_text (of (kind.DepArgumentPath ∷ [])) os)) (last_flag (of (kind.DepTarget ∷ [])) os) (last_text (of (kind.DepTarget ∷ [])) os) object
    (any (kind.SplitDwarf ∷ []) os)

-- added rows were cut from no words
recorded-given : (os : List (Seen Kind)) (said : Result Parsed Verdict) → words_given (rows_recorded os said) ≡ []
recorded-given os (Ok p) = for-given os p.language (object_of p)
recorded-given os (Err v) = refl

to-dependency : (is_needed has_path : Bool) (flag target : Option (List ℕ)) (object : List ℕ) → words_to destinations.Dependency (rows_target is_needed has_path flag target object) ≡ added_dependency is_needed has_path flag target object
to-dependency true true flag target object = refl
to-dependency true false flag target object = refl
to-dependency false has_path flag target object = refl

to-others : (place : Place) → place_equality.ghosts.eq place places.Dependency ≡ false → (is_needed has_path : Bool) (flag target : Option (List ℕ)) (object : List ℕ) → words_to (there_is place) (rows_target is_needed has_path flag target object) ≡ []
to-others places.Dependency d n h flag target object = absurd (cc)
to-others _ d true true flag target object = refl
to-others _ d true false flag target object = refl
to-others _ d false h flag target object = refl

split-to : (is_split : Bool) (object : List ℕ) → words_to destinations.Common (rows_split is_split object) ≡ added_common is_split object
split-to true object = refl
split-to false object = refl

split-others : (place : Place) → place_equality.ghosts.eq place places.Common ≡ false → (is_split : Bool) (object : List ℕ) → words_to (there_is place) (rows_split is_split object) ≡ []
split-others places.Common c is_split object = absurd (cc)
split-others _ c true object = refl
split-others _ c false object = refl

-- the words that the rules add to the list of the place
module _ (is_needed has_path : Bool) (flag target : Option (List ℕ)) (object : List ℕ) (is_split : Bool) where
  abbrev added_by : Place → List (List ℕ)
  added_by places.Dependency = added_dependency is_needed has_path flag target object
  added_by places.Common = added_common is_split object
  added_by _ = []

  abbrev for_target : List Told
  for_target = rows_target is_needed has_path flag target object

  abbrev for_split : List Told
  for_split = rows_split is_split object

  to-neither : (place : Place) → place_equality.ghosts.eq place places.Dependency ≡ false → place_equality.ghosts.eq place places.Common ≡ false → words_to (there_is place) (for_target ++ for_split) ≡ []
  to-neither place d c =
      words_to-append (there_is place) for_target for_split
      ∙ ap (λ ws. ws ++ words_to (there_is place) for_split) (to-others place d is_needed has_path flag target object)
      ∙ split-others place c is_split object

  told-by : (place : Place) → is_list (there_is place) ≡ true → words_to (there_is place) (for_target ++ for_split) ≡ added_by place
  told-by places.Dependency l =
      words_to-append destinations.Dependency for_target for_split
      ∙ ap (λ ws. ws ++ words_to destinations.Dependency for_split) (to-dependency is_needed has_path flag target object)
      ∙ ap (λ ws. added_dependency is_needed has_path flag target object ++ ws) (split-others places.Dependency refl is_split object)
      ∙ append-nil (added_dependency is_needed has_path flag target object)
  told-by places.Common l =
      words_to-append destinations.Common for_target for_split
      ∙ ap (λ ws. ws ++ words_to destinations.Common for_split) (to-others places.Common refl is_needed has_path flag target object)
      ∙ split-to is_split object
  told-by places.Unhashed l = to-neither places.Unhashed refl refl
  told-by places.Arch l = to-neither places.Arch refl refl
  told-by places.Preprocessor l = to-neither places.Preprocessor refl refl
  told-by places.Nowhere l = absurd (cc)
  told-by places.Refused l = absurd (cc)

abbrev added_at : Place → List (Seen Kind) → Language → List ℕ → List (List ℕ)
added_at place os language object =
    added_by (needs_target language os) (is_some (last_text (of (kind.DepArgumentPath ∷ [])) os)) (last_flag (of (kind.DepTarget ∷ [])) os) (last_text (of (kind.DepTarget ∷ [])) os) object
    (any (kind.SplitDwarf ∷ []) os) place

added-told : (place : Place) → is_list (there_is place) ≡ true → (os : List (Seen Kind)) (language : Language) (object : List ℕ) → words_to (there_is place) (rows_added os language object) ≡ added_at place os language object
added-told place l os language object =
    told-by (needs_target language os) (is_some (last_text (of (kind.DepArgumentPath ∷ [])) os)) (last_flag (of (kind.DepTarget ∷ [])) os) (last_text (of (kind.DepTarget ∷ [])) os) object
    (any (kind.SplitDwarf ∷ []) os) place l

-- ---- a command line

module _ (compiler : CCompilerKind) (plusplus : Bool) (tables : List (List (Row Kind))) (directory : List ℕ) (view : Viewed) (e : ExpandedWords) where
  abbrev r : GnuRead
  r = read_by compiler plusplus tables directory view e

  abbrev os : List (Seen Kind)
  os = r.outer.line.options

  abbrev inner : List (Seen Kind)
  inner = r.inner.line.options

  abbrev inner_words : ExpandedWords
  inner_words = expanded_by expansions.Gnu directory view.files (handed_words r.outer.line) (handed_ats r.outer.line)

  abbrev outer_rows : List Told
  outer_rows = line_rows outer_ways r.outer

  abbrev inner_rows : List Told
  inner_rows = line_rows inner_ways r.inner

  abbrev rows : List Told
  rows = outer_rows ++ inner_rows

  abbrev test_and_record : Result Parsed Verdict
  test_and_record = recorded compiler plusplus directory view os inner

  outer-refused : first_refusal outer_rows ≡ line_refusal r.outer.line
  outer-refused = line-refused outer_ways r.outer (read-whole (verdict view.is_multiarch) (owner_in tables) (is_clang compiler) e)

  inner-refused : first_refusal inner_rows ≡ line_refusal r.inner.line
  inner-refused = line-refused inner_ways r.inner (read-whole inner_verdict (owner_in clang_tables) false inner_words)

  -- the first refusal of the rows is that of the first line that is refused
  both-refused : first_refusal rows ≡ option_or (line_refusal r.outer.line) (line_refusal r.inner.line)
  both-refused =
      first_refusal-append outer_rows inner_rows
      ∙ ap (λ v. option_or v (first_refusal inner_rows)) outer-refused
      ∙ ap (option_or (line_refusal r.outer.line)) inner-refused

  outcome-told : r.outcome ≡ unless (first_refusal rows) test_and_record
  outcome-told =
      unless-bind (line_refusal r.outer.line) (Ok os) (λ os. unless (line_refusal r.inner.line) (Ok inner) >>= recorded compiler plusplus directory view os)
      ∙ ap (unless (line_refusal r.outer.line)) (unless-bind (line_refusal r.inner.line) (Ok inner) (recorded compiler plusplus directory view os))
      ∙ sym (unless-or (line_refusal r.outer.line) (line_refusal r.inner.line) test_and_record)
      ∙ ap (λ v. unless v test_and_record) (sym both-refused)

  -- a line without refused rows
  module _ (none : first_refusal rows ≡ None) where
    none-in : (line_refusal r.outer.line ≡ None) × (line_refusal r.inner.line ≡ None)
    none-in = option_or-none (line_refusal r.outer.line) (line_refusal r.inner.line) (sym both-refused ∙ none)

    options-told : (place : Place) → is_list (there_is place) ≡ true → words_to (there_is place) rows ≡ all_words_at place os inner
    options-told place l =
        words_to-append (there_is place) outer_rows inner_rows
        ∙ ap (λ ws. ws ++ words_to (there_is place) inner_rows)
        (line-listed outer_ways r.outer (read-whole (verdict view.is_multiarch) (owner_in tables) (is_clang compiler) e) (there_is place) l none-in.0 ∙ outer-listed place l os)
        ∙ ap (λ ws. words_at place os ++ ws) (line-listed inner_ways r.inner (read-whole inner_verdict (owner_in clang_tables) false inner_words) (there_is place) l none-in.1 ∙ inner-listed place l inner)

    all-told : (place : Place) → is_list (there_is place) ≡ true → (f : Found) → words_to (there_is place) (rows ++ rows_added os f.language f.object) ≡ all_words_at place os inner ++ added_at place os f.language f.object
    all-told place l f =
        words_to-append (there_is place) rows (rows_added os f.language f.object)
        ∙ ap (λ ws. ws ++ words_to (there_is place) (rows_added os f.language f.object)) (options-told place l)
        ∙ ap (λ ws. all_words_at place os inner ++ ws) (added-told place l os f.language f.object)

    lists-of : (f : Found) → HasLists (rows ++ rows_added os f.language f.object) (record_of compiler directory view os inner f)
    lists-of f destinations.Dependency = all-told places.Dependency refl f
    lists-of f destinations.Preprocessor = all-told places.Preprocessor refl f ∙ append-nil (all_words_at places.Preprocessor os inner)
    lists-of f destinations.Common = all-told places.Common refl f
    lists-of f destinations.Architecture = all-told places.Arch refl f ∙ append-nil (all_words_at places.Arch os inner)
    lists-of f destinations.Unhashed = all-told places.Unhashed refl f ∙ append-nil (all_words_at places.Unhashed os inner)
    lists-of f _ = tt

    lists-tested : (tested : Result Found Verdict) →
        let said = tested >>= (λ f. Ok (record_of compiler directory view os inner f)) in
        IfOk said (HasLists (rows ++ rows_recorded os said))
    lists-tested (Ok f) =
        let p = record_of compiler directory view os inner f in
        subst (λ added. HasLists (rows ++ added) p) (ap (rows_for os f.language) (sym (object-found compiler directory view os inner f))) (lists-of f)
    lists-tested (Err v) = tt

    lists-told : IfOk test_and_record (HasLists (gnu_rows r))
    lists-told =
        subst (λ said. IfOk test_and_record (HasLists (rows ++ rows_recorded os said))) (ap (λ v. unless v test_and_record) (sym none) ∙ sym outcome-told) (lists-tested (found plusplus os))

  same-refusal : first_refusal (gnu_rows r) ≡ first_refusal rows
  same-refusal =
      first_refusal-append rows (rows_recorded os r.outcome)
      ∙ ap (option_or (first_refusal rows)) (none-recorded os r.outcome)
      ∙ or-none (first_refusal rows)

  pub gnu-tells : Tells (gnu_rows r) r.outcome
  gnu-tells =
      tells (gnu_rows r) r.outcome test_and_record
      (outcome-told ∙ ap (λ v. unless v test_and_record) (sym same-refusal))
      (λ none. lists-told (sym same-refusal ∙ none))

  pub gnu-given : words_given (gnu_rows r) ≡ r.outer.words ++ r.inner.words
  gnu-given =
      words_given-append rows (rows_recorded os r.outcome)
      ∙ ap (λ ws. words_given rows ++ ws) (recorded-given os r.outcome)
      ∙ append-nil (words_given rows)
      ∙ words_given-append outer_rows inner_rows
      ∙ ap (λ ws. ws ++ words_given inner_rows) (line-given outer_ways (verdict view.is_multiarch) tables (is_clang compiler) e)
      ∙ ap (λ ws. r.outer.words ++ ws) (line-given inner_ways inner_verdict clang_tables false inner_words)
