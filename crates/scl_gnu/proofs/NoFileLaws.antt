-- The command of a record of Gcc or Clang names no response file if it was given none.
use Rattle.std.proofs.Common.{◌≡◌, ℕ, Bool, true, false, List, [], ◌∷◌, ◌++◌, map, Option, Some, Ok, refl, sym, ap, subst, ◌∙◌}
use Rattle.std.specs.Prelude.{codes, is_some, unwrap_or}
use Rattle.scl_values.specs.Cuts.{Cut, cut}
use Rattle.scl_values.specs.Each.{Each}
use Rattle.scl_args.specs.Options.{last_flag, last_text, dash_words, side_of_flag, texts}
use Rattle.scl_values.specs.Row.{Row}
use Rattle.scl_values.specs.Seen.{Seen, shown, flag_of, text_of}
use Rattle.scl_values.specs.Tables.{owner_in, all_rows}
use Rattle.scl_args.specs.NoFiles.{NamesNoFile, GivesNoFile, NamesNoFileOfItsOwn, has_plain_flags}
use Rattle.scl_args.specs.Promises.{HandedOn, inner_of, said_by}
use Rattle.scl_args.proofs.NoFileLaws.{each-append, HasPlainFlag, flag-none, plain-found, passed, listed-none, one-none, apart-none, last-none}
use Rattle.scl_files.specs.declared.expand.ExpansionKind.TheVariants as expansions
use Rattle.scl_text.specs.declared.language.Language.{Language}
use Rattle.scl_text.specs.declared.language.Language.TheVariants as languages
use Rattle.scl_text.specs.declared.records.CCompilerKind.{CCompilerKind}
use Rattle.scl_text.specs.declared.records.CCompilerKind.TheVariants as compilers
use Rattle.scl_text.specs.declared.records.ColorMode.{ColorMode}
use Rattle.scl_text.specs.declared.records.ColorMode.TheVariants as colors
use Rattle.scl_text.specs.Commands.{object_of}
use Rattle.scl_text.specs.JudgedWords.{options_of}
use Rattle.scl_files.specs.Expand.{expand}
use Rattle.scl_text.specs.Languages.{gcc_text, clang_text}
use Rattle.scl_text.specs.Records.{Parsed}
use Rattle.scl_files.specs.Views.{Viewed}
use Rattle.scl_text.proofs.NoFileLaws.{with_extension-no}
use Rattle.scl_gnu_reading.specs.declared.gcc.data.Kind.{Kind}
use Rattle.scl_gnu_reading.specs.declared.gcc.data.Kind.TheVariants as kind
use Rattle.scl_gnu_reading.specs.declared.gcc.place.Place.{Place}
use Rattle.scl_gnu_reading.specs.declared.gcc.place.Place.TheVariants as places
use Rattle.scl_gnu_reading.specs.Again.{is_list, carried, carried_inner}
use Rattle.scl_gnu.specs.Building.{language_words, color_words, front_words, list_words, back_words, command_words}
use Rattle.scl_gnu_reading.specs.ClangRows.{clang_rows, clang_tables}
use Rattle.scl_gnu_reading.specs.FixedTests.{Found}
use Rattle.scl_gnu_reading.specs.GccRows.{gcc_rows}
use Rattle.scl_gnu_reading.specs.Inners.{inner_place, inner_words_at, goes_inside_to}
use Rattle.scl_gnu_reading.specs.Kinds.{of, any, is_input}
use Rattle.scl_gnu_reading.specs.Places.{place, goes_to}
use Rattle.scl_gnu.specs.ReadAgain.{inner_options_of, line_of, gcc_line, behind_xclang, clang_line}
use Rattle.scl_gnu_reading.specs.Readings.{reading}
use Rattle.scl_gnu_reading.specs.Recordings.{is_clang, needs_target, added_common, added_depfile, added_dependency, all_words_at, dependency_words, record_of}
use Rattle.scl_gnu_reading.proofs.CheckLaws.{carried_plain, carried_inner_plain}
use Rattle.scl_gnu.proofs.InnerLaws.{no_inner}
use Rattle.scl_gnu.specs.OwnTables.{is_kind}
use Rattle.scl_gnu.proofs.KeptLaws.{same-list}
use Rattle.scl_gnu.proofs.ReadingLaws.{HasFound, is-read}
use Rattle.scl_gnu_reading.proofs.ObjectLaws.{object-found}

abbrev NameNone : List (List ℕ) → Type 0
NameNone words = Each NamesNoFile words

append : (xs ys : List (List ℕ)) → NameNone xs → NameNone ys → NameNone (xs ++ ys)
append xs ys = each-append NamesNoFile xs ys

-- ---- words that a compiler adds

color-none : (color : ColorMode) → NameNone (color_words color)
color-none colors.Off = tt
color-none colors.On = (refl, tt)
color-none colors.Auto = (refl, tt)

dash-none : (marked : Bool) → NameNone (dash_words marked)
dash-none true = (refl, tt)
dash-none false = tt

define-none : (is_split : Bool) (object : List ℕ) → NameNone (added_common is_split object)
define-none true object = (refl, tt)
define-none false object = tt

depfile-none : (has_path : Bool) (object : List ℕ) → NamesNoFile object → NameNone (added_depfile has_path object)
depfile-none true object n = tt
depfile-none false object n = (refl, (with_extension-no object (codes "d") n refl, tt))

target-none : (needed has_path : Bool) (flag target : Option (List ℕ)) (object : List ℕ) → NamesNoFile (unwrap_or flag (codes "-MT")) → NamesNoFile (unwrap_or target object) → NamesNoFile object
    → NameNone (added_dependency needed has_path flag target object)
target-none true has_path flag target object f t n = (f, (t, depfile-none has_path object n))
target-none false has_path flag target object f t n = tt

-- what is needed of the flags of a compiler's tables
pub record PlainFlags (tables : List (List (Row Kind))) : Type 0 where
  pub carries : has_plain_flags carried (all_rows tables) ≡ true
  pub compiles : has_plain_flags (is_kind kind.DoCompilation) (all_rows tables) ≡ true
  pub targets : has_plain_flags (is_kind kind.DepTarget) (all_rows tables) ≡ true

-- ---- the command of a record

module _ (compiler : CCompilerKind) (tables : List (List (Row Kind))) (flags : PlainFlags tables) (ws : List (List ℕ)) where
  abbrev os : List (Seen Kind)
  os = map shown (cut (owner_in tables) (is_clang compiler) ws).options

  module _ (none : Each GivesNoFile os) (inner : List (Seen Kind)) (inside : (there : Place) → is_list there ≡ true → NameNone (inner_words_at there inner)) where
    at-none : (there : Place) → is_list there ≡ true → NameNone (all_words_at there os inner)
    at-none there lists =
        let p = goes_to there in
        append _ _ (listed-none p side_of_flag os none
        (plain-found tables (is_clang compiler) carried flags.carries p (λ f k v h e. same-list (place k) there lists e) ws)) (inside there lists)

    -- the last flag of a kind with plain flags, or another flag
    last-flag : (k : Kind) (other : List ℕ) → has_plain_flags (is_kind k) (all_rows tables) ≡ true → NamesNoFile other → NamesNoFile (unwrap_or (last_flag (of (k ∷ [])) os) other)
    last-flag k other plain n = last-none HasPlainFlag flag_of flag-none (of (k ∷ [])) os other (plain-found tables (is_clang compiler) (is_kind k) plain (of (k ∷ [])) (λ f x v h e. e) ws) n

    last-value : (k : Kind) (other : List ℕ) → NamesNoFile other → NamesNoFile (unwrap_or (last_text (of (k ∷ [])) os) other)
    last-value k other n = last-none GivesNoFile text_of (λ o h. h) (of (k ∷ [])) os other (passed (of (k ∷ [])) GivesNoFile os none) n

    module _ (directory : List ℕ) (view : Viewed) (f : Found) (has : HasFound os f) (no : NamesNoFile f.object) (text : Option (List ℕ)) (language : NameNone (language_words text)) where
      abbrev record_is : Parsed
      record_is = record_of compiler directory view os inner f

      dependency-none : NameNone (dependency_words os inner f)
      dependency-none = append _ _ (at-none places.Dependency refl)
          (target-none (needs_target f.language os) (is_some (last_text (of (kind.DepArgumentPath ∷ [])) os)) (last_flag (of (kind.DepTarget ∷ [])) os) (last_text (of (kind.DepTarget ∷ [])) os) f.object
          (last-flag kind.DepTarget (codes "-MT") flags.targets refl) (last-value kind.DepTarget f.object no) no)

      lists-none : NameNone (list_words record_is)
      lists-none =
          append _ _ (append _ _ (append _ _ (append _ _ (at-none places.Preprocessor refl) dependency-none) (at-none places.Unhashed refl))
          (append _ _ (at-none places.Common refl) (define-none (any (kind.SplitDwarf ∷ []) os) f.object))) (at-none places.Arch refl)

      front-none : NameNone (front_words text f.object record_is)
      front-none =
          let compiles : NamesNoFile f.compile_flag = subst (λ o. NamesNoFile (unwrap_or o [])) has.flag_is (last-flag kind.DoCompilation [] flags.compiles refl) in
          append _ _ language (compiles, (refl, (no, tt)))

      back-none : NameNone (back_words record_is)
      back-none = append _ _ (color-none record_is.color_mode) (append _ _ (dash-none record_is.double_dash_input) (one-none is_input os f.input none has.input_is, tt))

      pub record-none : NameNone (command_words text record_is f.object)
      record-none = append _ _ (append _ _ front-none lists-none) back-none

-- ---- the command of a reading

module _ (compiler : CCompilerKind) (tables : List (List (Row Kind))) (flags : PlainFlags tables)
    (text : Language → Option (List ℕ)) (languages_none : (l : Language) → NameNone (language_words (text l))) (handed_on : List (Cut Kind) → List (HandedOn Kind Kind))
    (inside : (directory : List ℕ) (view : Viewed) (words : List (List ℕ)) →
    let inner = inner_options_of directory view (map shown (options_of expansions.Gnu tables (is_clang compiler) directory view words)) in
    Each (λ i. Each GivesNoFile i.options) (map inner_of (handed_on inner)) → (there : Place) → is_list there ≡ true → NameNone (inner_words_at there (map shown inner))) where
  -- if words have a record with an object, its command names no response file of its own
  commands-none : (plusplus : Bool) (directory : List ℕ) (view : Viewed) (words : List (List ℕ)) (p : Parsed) (object : List ℕ) →
      reading compiler plusplus tables directory view words ≡ Ok p → object_of p ≡ Some object →
      NamesNoFileOfItsOwn (said_by (line_of tables (is_clang compiler) handed_on directory view words)) object (command_words (text p.language) p object)
  commands-none plusplus directory view words p object e has_object none inner_none unnamed =
      let r = is-read compiler plusplus tables directory view words p e in
      let os = map shown (options_of expansions.Gnu tables (is_clang compiler) directory view words) in
      let inner = map shown (inner_options_of directory view os) in
      let found = object-found compiler directory view os inner r.tested in
      let both : Some r.tested.object ≡ Some object = sym found ∙ (ap object_of r.is ∙ has_object) in
      let same : r.tested.object ≡ object = cc in
      subst (λ x. NameNone (command_words (text p.language) p x)) same
      (subst (λ q. NameNone (command_words (text q.language) q r.tested.object)) r.is
      (record-none compiler tables flags (expand expansions.Gnu directory view.files words) none inner (inside directory view words inner_none)
      directory view r.tested r.has (subst NamesNoFile (sym same) unnamed) (text r.tested.language) (languages_none r.tested.language)))

-- ---- Gcc

gcc-flags : PlainFlags (gcc_rows ∷ [])
unfolding gcc_rows
gcc-flags = record { carries = refl; compiles = refl; targets = refl }

gcc-languages : (l : Language) → NameNone (language_words (gcc_text l))
gcc-languages languages.GenericHeader = tt
gcc-languages languages.Rust = tt
gcc-languages _ = (refl, (refl, tt))

pub gcc_none : (plusplus : Bool) (directory : List ℕ) (view : Viewed) (words : List (List ℕ)) (p : Parsed) (object : List ℕ) →
    reading compilers.Gcc plusplus (gcc_rows ∷ []) directory view words ≡ Ok p → object_of p ≡ Some object →
    NamesNoFileOfItsOwn (said_by (gcc_line directory view words)) object (command_words (gcc_text p.language) p object)
gcc_none = commands-none compilers.Gcc (gcc_rows ∷ []) gcc-flags gcc_text gcc-languages (λ inner. [])
    (λ directory view words n there lists. subst (λ inner. NameNone (inner_words_at there inner)) (sym (no_inner directory view words)) tt)

-- ---- Clang

clang-flags : PlainFlags clang_tables
unfolding gcc_rows clang_rows
clang-flags = record { carries = carried_plain; compiles = refl; targets = refl }

clang-languages : (l : Language) → NameNone (language_words (clang_text l))
clang-languages languages.GenericHeader = tt
clang-languages languages.Rust = tt
clang-languages _ = (refl, (refl, tt))

pub clang_none : (plusplus : Bool) (directory : List ℕ) (view : Viewed) (words : List (List ℕ)) (p : Parsed) (object : List ℕ) →
    reading compilers.Clang plusplus clang_tables directory view words ≡ Ok p → object_of p ≡ Some object →
    NamesNoFileOfItsOwn (said_by (clang_line directory view words)) object (command_words (clang_text p.language) p object)
clang_none = commands-none compilers.Clang clang_tables clang-flags clang_text clang-languages (λ inner. behind_xclang inner ∷ [])
    (λ directory view words n there lists.
    let os = map shown (options_of expansions.Gnu clang_tables true directory view words) in
    let handed = expand expansions.Gnu directory view.files (texts (of (kind.XClang ∷ [])) os) in
    apart-none (codes "-Xclang") refl _ (listed-none (goes_inside_to there) side_of_flag _ n.0
    (plain-found clang_tables false carried_inner carried_inner_plain (goes_inside_to there) (λ f k v h e. same-list (inner_place k) there lists e) handed)))
