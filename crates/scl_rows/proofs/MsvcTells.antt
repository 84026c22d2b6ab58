-- What the rows of a command line of cl or clang-cl say of its outcome, and the words that they were cut from.
use Rattle.std.proofs.Common.{◌≡◌, ℕ, Bool, true, false, List, [], ◌++◌, append_assoc, None, Result, Ok, Err, refl, sym, ap, ◌∙◌}
use Rattle.std.specs.List.{flat_map}
use Rattle.std.specs.Option.{option_or}
use Rattle.std.specs.Prelude.{IfOk}
use Rattle.scl_args.proofs.OutcomeLaws.{option_or-none}
use Rattle.scl_args.specs.Options.{list, side_of_flag, unless, ◌>>=◌}
use Rattle.scl_files.specs.Expanded.{ExpandedWords, expanded_by}
use Rattle.scl_files.specs.Views.{Viewed}
use Rattle.scl_files.specs.declared.expand.ExpansionKind.TheVariants as expansions
use Rattle.scl_gnu_reading.specs.ClangRows.{clang_tables}
use Rattle.scl_gnu_reading.specs.declared.gcc.data.Kind as gnu
use Rattle.scl_msvc_reading.specs.FixedTests.{Found, found}
use Rattle.scl_msvc_reading.specs.Inners.{BothInner, goes_inside_to, inner_list, inner_place_of, inner_verdict}
use Rattle.scl_msvc_reading.specs.Places as outer
use Rattle.scl_msvc_reading.specs.Places.{goes_to, place_of, words_at}
use Rattle.scl_msvc_reading.specs.Readings.{recorded}
use Rattle.scl_msvc_reading.specs.Reads.{MsvcRead, handed_ats, handed_words, only_clang, only_xclang, read_by}
use Rattle.scl_msvc_reading.specs.Recordings.{all_words_at, record_of}
use Rattle.scl_msvc_reading.specs.Rows.{msvc_tables}
use Rattle.scl_msvc_reading.specs.Verdicts.{verdict}
use Rattle.scl_msvc_reading.specs.contracts.msvc.place.PlacePartialEq.TheImpl as place_equality
use Rattle.scl_msvc_reading.specs.declared.msvc.data.Kind.{Kind}
use Rattle.scl_msvc_reading.specs.declared.msvc.data.Kind.TheVariants as kind
use Rattle.scl_msvc_reading.specs.declared.msvc.place.Place.{Place}
use Rattle.scl_msvc_reading.specs.declared.msvc.place.Place.TheVariants as places
use Rattle.scl_text.specs.Lines.{line_refusal}
use Rattle.scl_text.specs.Records.{Parsed, Verdict}
use Rattle.scl_values.specs.Seen.{Seen, Raw, Unknown, Known}
use Rattle.scl_values.specs.Tables.{owner_in}
use Rattle.scl_rows.specs.Lines.{line_rows}
use Rattle.scl_rows.specs.MsvcRows.{destination_at, inner_goes, inner_ways, msvc_rows, outer_goes, outer_ways, unlisted, unlisted_kind}
use Rattle.scl_rows.specs.Rows.{Told, Tells, HasLists, first_refusal, handed, is_list, words_given, words_to}
use Rattle.scl_rows.specs.contracts.destination.DestinationPartialEq.TheImpl.{ghosts}
use Rattle.scl_rows.specs.declared.destination.Destination.{Destination}
use Rattle.scl_rows.specs.declared.destination.Destination.TheVariants as destinations
use Rattle.scl_rows.specs.declared.origin.Origin.{Origin}
use Rattle.scl_rows.specs.declared.origin.Origin.TheVariants as origins
use Rattle.scl_rows.proofs.GnuTells.{raw-unlisted}
use Rattle.scl_rows.proofs.LineLaws.{given-words, line-given, line-listed, line-refused, list-same, listed, none-listed, other-list, read-whole}
use Rattle.scl_rows.proofs.TellLaws.{first_refusal-append, tells, unless-bind, unless-or, words_given-append, words_to-append}

-- ---- destinations and places

kind-unlisted : (k : Kind) → is_list (unlisted_kind k) ≡ false
kind-unlisted kind.SuppressCompilation = refl
kind-unlisted kind.DoCompilation = refl
kind-unlisted kind.Output = refl
kind-unlisted kind.CInput = refl
kind-unlisted kind.CxxInput = refl
kind-unlisted kind.DepFile = refl
kind-unlisted kind.XClang = refl
kind-unlisted kind.Clang = refl
kind-unlisted _ = refl

no-list : (o : Seen Kind) → is_list (unlisted o) ≡ false
no-list (Raw w) = raw-unlisted w
no-list (Unknown w) = refl
no-list (Known f k v how) = kind-unlisted k

-- the list of a place
abbrev there_is : Place → Destination
there_is place = destination_at place destinations.Ignored

same-place : (place a : Place) (other : Destination) → is_list (there_is place) ≡ true → is_list other ≡ false → ghosts.eq (destination_at a other) (there_is place) ≡ place_equality.ghosts.eq a place
same-place places.Common places.Nowhere other l n = other-list other destinations.Common refl n
same-place places.Common _ other l n = refl
same-place places.Unhashed places.Nowhere other l n = other-list other destinations.Unhashed refl n
same-place places.Unhashed _ other l n = refl
same-place places.Preprocessor places.Nowhere other l n = other-list other destinations.Preprocessor refl n
same-place places.Preprocessor _ other l n = refl
same-place places.Dependency places.Nowhere other l n = other-list other destinations.Dependency refl n
same-place places.Dependency _ other l n = refl
same-place places.Nowhere a other l n = absurd (cc)
same-place places.Refused a other l n = absurd (cc)

outer-listed : (place : Place) → is_list (there_is place) ≡ true → (os : List (Seen Kind)) → listed outer_ways (there_is place) os ≡ words_at place os
outer-listed place l os =
    given-words (list outer.side_of_flag (λ o. ghosts.eq (outer_goes o) (there_is place)) os)
    ∙ list-same (λ o. ghosts.eq (outer_goes o) (there_is place)) (goes_to place) (λ o. same-place place (place_of o) (unlisted o) l (no-list o)) outer.side_of_flag os

inner-listed : (origin : Origin) (place : Place) → is_list (there_is place) ≡ true → (os : List (Seen gnu.Kind)) → listed (inner_ways origin) (there_is place) os ≡ flat_map (handed origin) (inner_list place os)
inner-listed origin place l os =
    ap (flat_map (handed origin))
    (list-same (λ o. ghosts.eq (inner_goes o) (there_is place)) (goes_inside_to place) (λ o. same-place place (inner_place_of o) destinations.Ignored l refl) side_of_flag os)

-- no option names an architecture
no-arch : (a : Place) (other : Destination) → is_list other ≡ false → ghosts.eq (destination_at a other) destinations.Architecture ≡ false
no-arch places.Nowhere other n = other-list other destinations.Architecture refl n
no-arch _ other n = refl

-- ---- a command line

module _ (is_clang : Bool) (directory : List ℕ) (view : Viewed) (environment : List (List ℕ)) (e : ExpandedWords) where
  abbrev r : MsvcRead
  r = read_by is_clang directory view environment e

  abbrev os : List (Seen Kind)
  os = r.outer.line.options

  abbrev inner : BothInner
  inner = record { xclang = r.xclang.line.options; clang = r.clang.line.options }

  -- the words in the options of these kinds
  abbrev words_behind : List Kind → ExpandedWords
  words_behind kinds = expanded_by expansions.Gnu directory view.files (handed_words kinds r.outer.line) (handed_ats kinds r.outer.line)

  abbrev outer_rows : List Told
  outer_rows = line_rows outer_ways r.outer

  abbrev xclang_rows : List Told
  xclang_rows = line_rows (inner_ways origins.Xclang) r.xclang

  abbrev clang_rows : List Told
  clang_rows = line_rows (inner_ways origins.ClangColon) r.clang

  abbrev test_and_record : Result Parsed Verdict
  test_and_record = recorded is_clang directory view os inner

  outer-refused : first_refusal outer_rows ≡ line_refusal r.outer.line
  outer-refused = line-refused outer_ways r.outer (read-whole (verdict is_clang) (owner_in msvc_tables) is_clang e)

  xclang-refused : first_refusal xclang_rows ≡ line_refusal r.xclang.line
  xclang-refused = line-refused (inner_ways origins.Xclang) r.xclang (read-whole inner_verdict (owner_in clang_tables) false (words_behind only_xclang))

  clang-refused : first_refusal clang_rows ≡ line_refusal r.clang.line
  clang-refused = line-refused (inner_ways origins.ClangColon) r.clang (read-whole inner_verdict (owner_in clang_tables) false (words_behind only_clang))

  -- the first refusal of the rows is that of the first line that is refused
  all-refused : first_refusal (msvc_rows r) ≡ option_or (option_or (line_refusal r.outer.line) (line_refusal r.xclang.line)) (line_refusal r.clang.line)
  all-refused =
      first_refusal-append (outer_rows ++ xclang_rows) clang_rows
      ∙ ap (λ v. option_or v (first_refusal clang_rows)) (
      first_refusal-append outer_rows xclang_rows
      ∙ ap (λ v. option_or v (first_refusal xclang_rows)) outer-refused
      ∙ ap (option_or (line_refusal r.outer.line)) xclang-refused)
      ∙ ap (option_or (option_or (line_refusal r.outer.line) (line_refusal r.xclang.line))) clang-refused

  outcome-told : r.outcome ≡ unless (first_refusal (msvc_rows r)) test_and_record
  outcome-told =
      let record_both : List (Seen Kind) → List (Seen gnu.Kind) → List (Seen gnu.Kind) → Result Parsed Verdict = λ os xs cs. recorded is_clang directory view os (record { xclang = xs; clang = cs }) in
      unless-bind (line_refusal r.outer.line) (Ok os)
      (λ os. unless (line_refusal r.xclang.line) (Ok r.xclang.line.options) >>= (λ xs. unless (line_refusal r.clang.line) (Ok r.clang.line.options) >>= record_both os xs))
      ∙ ap (unless (line_refusal r.outer.line)) (
      unless-bind (line_refusal r.xclang.line) (Ok r.xclang.line.options) (λ xs. unless (line_refusal r.clang.line) (Ok r.clang.line.options) >>= record_both os xs)
      ∙ ap (unless (line_refusal r.xclang.line)) (unless-bind (line_refusal r.clang.line) (Ok r.clang.line.options) (record_both os r.xclang.line.options)))
      ∙ sym (unless-or (line_refusal r.outer.line) (line_refusal r.xclang.line) (unless (line_refusal r.clang.line) test_and_record))
      ∙ sym (unless-or (option_or (line_refusal r.outer.line) (line_refusal r.xclang.line)) (line_refusal r.clang.line) test_and_record)
      ∙ ap (λ v. unless v test_and_record) (sym all-refused)

  -- a line without refused rows
  module _ (none : first_refusal (msvc_rows r) ≡ None) where
    none-but_clang : (option_or (line_refusal r.outer.line) (line_refusal r.xclang.line) ≡ None) × (line_refusal r.clang.line ≡ None)
    none-but_clang = option_or-none (option_or (line_refusal r.outer.line) (line_refusal r.xclang.line)) (line_refusal r.clang.line) (sym all-refused ∙ none)

    none-in : (line_refusal r.outer.line ≡ None) × (line_refusal r.xclang.line ≡ None)
    none-in = option_or-none (line_refusal r.outer.line) (line_refusal r.xclang.line) none-but_clang.0

    parts-told : (there : Destination) → is_list there ≡ true → words_to there (msvc_rows r)
        ≡ (listed outer_ways there os ++ listed (inner_ways origins.Xclang) there inner.xclang) ++ listed (inner_ways origins.ClangColon) there inner.clang
    parts-told there l =
        words_to-append there (outer_rows ++ xclang_rows) clang_rows
        ∙ ap (λ ws. ws ++ words_to there clang_rows) (
        words_to-append there outer_rows xclang_rows
        ∙ ap (λ ws. ws ++ words_to there xclang_rows) (line-listed outer_ways r.outer (read-whole (verdict is_clang) (owner_in msvc_tables) is_clang e) there l none-in.0)
        ∙ ap (λ ws. listed outer_ways there os ++ ws)
        (line-listed (inner_ways origins.Xclang) r.xclang (read-whole inner_verdict (owner_in clang_tables) false (words_behind only_xclang)) there l none-in.1))
        ∙ ap (λ ws. (listed outer_ways there os ++ listed (inner_ways origins.Xclang) there inner.xclang) ++ ws)
        (line-listed (inner_ways origins.ClangColon) r.clang (read-whole inner_verdict (owner_in clang_tables) false (words_behind only_clang)) there l none-but_clang.1)

    all-told : (place : Place) → is_list (there_is place) ≡ true → words_to (there_is place) (msvc_rows r) ≡ all_words_at place os inner
    all-told place l =
        parts-told (there_is place) l
        ∙ append_assoc (listed outer_ways (there_is place) os) (listed (inner_ways origins.Xclang) (there_is place) inner.xclang) (listed (inner_ways origins.ClangColon) (there_is place) inner.clang)
        ∙ ap (λ ws. ws ++ (listed (inner_ways origins.Xclang) (there_is place) inner.xclang ++ listed (inner_ways origins.ClangColon) (there_is place) inner.clang)) (outer-listed place l os)
        ∙ ap (λ ws. words_at place os ++ (ws ++ listed (inner_ways origins.ClangColon) (there_is place) inner.clang)) (inner-listed origins.Xclang place l inner.xclang)
        ∙ ap (λ ws. words_at place os ++ (flat_map (handed origins.Xclang) (inner_list place inner.xclang) ++ ws)) (inner-listed origins.ClangColon place l inner.clang)

    no-architecture : words_to destinations.Architecture (msvc_rows r) ≡ []
    no-architecture =
        parts-told destinations.Architecture refl
        ∙ rw (
          none-listed outer_ways destinations.Architecture (λ o. no-arch (place_of o) (unlisted o) (no-list o)) os,
          none-listed (inner_ways origins.Xclang) destinations.Architecture (λ o. no-arch (inner_place_of o) destinations.Ignored refl) inner.xclang,
          none-listed (inner_ways origins.ClangColon) destinations.Architecture (λ o. no-arch (inner_place_of o) destinations.Ignored refl) inner.clang,
        ) refl

    lists-of : (f : Found) → HasLists (msvc_rows r) (record_of directory view os inner f)
    lists-of f destinations.Dependency = all-told places.Dependency refl
    lists-of f destinations.Preprocessor = all-told places.Preprocessor refl
    lists-of f destinations.Common = all-told places.Common refl
    lists-of f destinations.Architecture = no-architecture
    lists-of f destinations.Unhashed = all-told places.Unhashed refl
    lists-of f _ = tt

    lists-tested : (tested : Result Found Verdict) → IfOk (tested >>= (λ f. Ok (record_of directory view os inner f))) (HasLists (msvc_rows r))
    lists-tested (Ok f) = lists-of f
    lists-tested (Err v) = tt

  pub msvc-tells : Tells (msvc_rows r) r.outcome
  msvc-tells = tells (msvc_rows r) r.outcome test_and_record outcome-told (λ none. lists-tested none (found is_clang os))

  pub msvc-given : words_given (msvc_rows r) ≡ r.outer.words ++ r.xclang.words ++ r.clang.words
  msvc-given =
      words_given-append (outer_rows ++ xclang_rows) clang_rows
      ∙ ap (λ ws. ws ++ words_given clang_rows) (
      words_given-append outer_rows xclang_rows
      ∙ ap (λ ws. ws ++ words_given xclang_rows) (line-given outer_ways (verdict is_clang) msvc_tables is_clang e)
      ∙ ap (λ ws. r.outer.words ++ ws) (line-given (inner_ways origins.Xclang) inner_verdict clang_tables false (words_behind only_xclang)))
      ∙ ap (λ ws. (r.outer.words ++ r.xclang.words) ++ ws) (line-given (inner_ways origins.ClangColon) inner_verdict clang_tables false (words_behind only_clang))
