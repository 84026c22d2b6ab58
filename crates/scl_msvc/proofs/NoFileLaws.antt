-- The command of a record of Msvc names no response file if it was given none.
use Rattle.std.proofs.Common.{◌≡◌, ℕ, Bool, true, false, List, [], ◌∷◌, ◌++◌, map, Some, Ok, refl, sym, ap, subst, ◌∙◌, if◌then◌else◌}
use Rattle.std.specs.Prelude.{codes, unwrap_or}
use Rattle.scl_values.specs.Cuts.{cut}
use Rattle.scl_values.specs.Each.{Each}
use Rattle.scl_args.specs.Options.{dash_words, texts}
use Rattle.scl_args.specs.Options as listed
use Rattle.scl_values.specs.Seen.{Seen, shown, flag_of}
use Rattle.scl_values.specs.Tables.{owner_in, all_rows}
use Rattle.scl_args.specs.NoFiles.{NamesNoFile, GivesNoFile, NamesNoFileOfItsOwn, has_plain_flags}
use Rattle.scl_args.specs.Promises.{said_by}
use Rattle.scl_args.proofs.NoFileLaws.{each-append, HasPlainFlag, flag-none, plain-found, listed-none, one-none, apart-none, joined-none, last-none}
use Rattle.scl_files.specs.declared.expand.ExpansionKind.TheVariants as expansions
use Rattle.scl_text.specs.declared.language.Language.{Language}
use Rattle.scl_text.specs.declared.language.Language.TheVariants as languages
use Rattle.scl_text.specs.Commands.{object_of}
use Rattle.scl_files.specs.Expand.{expand}
use Rattle.scl_text.specs.Records.{Parsed}
use Rattle.scl_files.specs.Views.{Viewed}
use Rattle.scl_gnu_reading.specs.ClangRows.{clang_tables}
use Rattle.scl_msvc_reading.specs.declared.msvc.data.Kind.{Kind}
use Rattle.scl_msvc_reading.specs.declared.msvc.data.Kind.TheVariants as kind
use Rattle.scl_msvc_reading.specs.declared.msvc.place.Place.{Place}
use Rattle.scl_msvc_reading.specs.declared.msvc.place.Place.TheVariants as places
use Rattle.scl_msvc_reading.specs.Again.{is_list, carried, carried_inner}
use Rattle.scl_msvc.specs.Building.{command_words, input_word, input_words, language_flag, list_words}
use Rattle.scl_msvc_reading.specs.FixedTests.{Found}
use Rattle.scl_msvc_reading.specs.Inners.{BothInner, inner_list, inner_place, inner_words_at, goes_inside_to}
use Rattle.scl_msvc_reading.specs.Kinds.{of, is_input}
use Rattle.scl_msvc_reading.specs.Places.{place, goes_to, side_of_flag}
use Rattle.scl_msvc.specs.Promises.{msvc_line}
use Rattle.scl_msvc.specs.ReadAgain.{outer_options_of, inner_options_of}
use Rattle.scl_msvc_reading.specs.Readings.{reading}
use Rattle.scl_msvc_reading.specs.Recordings.{all_words_at, record_of}
use Rattle.scl_msvc_reading.specs.Rows.{msvc_rows, msvc_tables}
use Rattle.scl_msvc_reading.proofs.CheckLaws.{carried_plain, carried_inner_plain}
use Rattle.scl_msvc.proofs.KeptLaws.{is_kind, same-list}
use Rattle.scl_msvc.proofs.ReadingLaws.{HasFound, is-read, object-found}

abbrev NameNone : List (List ℕ) → Type 0
NameNone words = Each NamesNoFile words

append : (xs ys : List (List ℕ)) → NameNone xs → NameNone ys → NameNone (xs ++ ys)
append xs ys = each-append NamesNoFile xs ys

-- ---- flags

compiles : has_plain_flags (is_kind kind.DoCompilation) (all_rows msvc_tables) ≡ true
unfolding msvc_rows
compiles = refl

-- ---- words that a compiler adds

dash-none : (marked : Bool) → NameNone (dash_words marked)
dash-none true = (refl, tt)
dash-none false = tt

flagged-none : (l : Language) (input : List ℕ) → NamesNoFile input → NamesNoFile (unwrap_or (language_flag l) [] ++ input)
flagged-none languages.C input n = refl
flagged-none languages.Cxx input n = refl
flagged-none languages.Assembler input n = n
flagged-none languages.AssemblerToPreprocess input n = n
flagged-none languages.CHeader input n = n
flagged-none languages.GenericHeader input n = n
flagged-none languages.CxxHeader input n = n
flagged-none languages.CxxModule input n = n
flagged-none languages.ObjectiveC input n = n
flagged-none languages.ObjectiveCHeader input n = n
flagged-none languages.ObjectiveCxx input n = n
flagged-none languages.ObjectiveCxxHeader input n = n
flagged-none languages.Cuda input n = n
flagged-none languages.Rust input n = n
flagged-none languages.Hip input n = n

input-none : (p : Parsed) → NamesNoFile p.input → NamesNoFile (input_word p)
input-none p n = elim (p.msvc_explicit_language) as (λ b. NamesNoFile (if b then unwrap_or (language_flag p.language) [] ++ p.input else p.input)) [
  | true ↦ flagged-none p.language p.input n
  | false ↦ n
]

-- ---- the command of a record

-- the words of an inner list
inside-none : (there : Place) → is_list there ≡ true → (words : List (List ℕ)) →
    let os = map shown (cut (owner_in clang_tables) false words).options in
    Each GivesNoFile os → NameNone (inner_list there os)
inside-none there lists words none =
    listed-none (goes_inside_to there) listed.side_of_flag _ none
    (plain-found clang_tables false carried_inner carried_inner_plain (goes_inside_to there) (λ f k v h e. same-list (inner_place k) there lists e) words)

module _ (is_clang : Bool) (ws : List (List ℕ)) where
  abbrev os : List (Seen Kind)
  os = map shown (cut (owner_in msvc_tables) is_clang ws).options

  module _ (none : Each GivesNoFile os) (inner : BothInner) (inside : (there : Place) → is_list there ≡ true → NameNone (inner_words_at there inner)) where
    at-none : (there : Place) → is_list there ≡ true → NameNone (all_words_at there os inner)
    at-none there lists =
        let p = goes_to there in
        append _ _ (listed-none p side_of_flag os none (plain-found msvc_tables is_clang carried carried_plain p (λ f k v h e. same-list (place k) there lists e) ws)) (inside there lists)

    module _ (directory : List ℕ) (view : Viewed) (f : Found) (has : HasFound os f) where
      abbrev record_is : Parsed
      record_is = record_of directory view os inner f

      lists-none : NameNone (list_words record_is)
      lists-none =
          append _ _ (append _ _ (append _ _ (at-none places.Preprocessor refl) (at-none places.Dependency refl)) (at-none places.Unhashed refl)) (at-none places.Common refl)

      compile-none : NamesNoFile f.compile_flag
      compile-none =
          let p = of (kind.DoCompilation ∷ []) in
          subst (λ o. NamesNoFile (unwrap_or o [])) has.flag_is
          (last-none HasPlainFlag flag_of flag-none p os [] (plain-found msvc_tables is_clang (is_kind kind.DoCompilation) compiles p (λ f x v h e. e) ws) refl)

      pub record-none : NameNone (command_words record_is f.object)
      record-none =
          let front = f.compile_flag ∷ (codes "-Fo" ++ f.object) ∷ [] in
          let front_none : NameNone front = (compile-none, (refl, tt)) in
          let dashes = dash_words record_is.double_dash_input in
          append (front ++ list_words record_is) (input_words record_is) (append front (list_words record_is) front_none lists-none)
          (append dashes (input_word record_is ∷ []) (dash-none record_is.double_dash_input) (input-none record_is (one-none is_input os f.input none has.input_is), tt))

-- ---- the command of a reading

pub command-none : (is_clang : Bool) (directory : List ℕ) (view : Viewed) (words : List (List ℕ)) (p : Parsed) (object : List ℕ) → reading is_clang directory view words ≡ Ok p → object_of p ≡ Some object
    → NamesNoFileOfItsOwn (said_by (msvc_line is_clang directory view words)) object (command_words p object)
command-none is_clang directory view words p object e has_object none inner_none unnamed =
    let r = is-read is_clang directory view words p e in
    let os = map shown (outer_options_of is_clang directory view words) in
    let inner : BothInner = record { xclang = map shown (inner_options_of kind.XClang directory view os); clang = map shown (inner_options_of kind.Clang directory view os) } in
    let found = object-found directory view os inner r.tested in
    let both : Some r.tested.object ≡ Some object = sym found ∙ (ap object_of r.is ∙ has_object) in
    let same : r.tested.object ≡ object = cc in
    let words_of = λ (k : Kind). expand expansions.Gnu directory view.files (texts (of (k ∷ [])) os) in
    subst (λ x. NameNone (command_words p x)) same
    (subst (λ q. NameNone (command_words q r.tested.object)) r.is
    (record-none is_clang (expand expansions.Msvc directory view.files words) none inner
    (λ there lists. append _ _ (apart-none (codes "-Xclang") refl _ (inside-none there lists (words_of kind.XClang) inner_none.0)) (joined-none (codes "-clang:") refl _))
    directory view r.tested r.has))
