-- The record of a compilation.
use Rattle.std.specs.Prelude.{ℕ, Bool, true, false, ◌||◌, List, [], ◌∷◌, ◌++◌, Option, Some, map, codes}
use Rattle.std.specs.Bool.{then_some}
use Rattle.scl_args.specs.Options.{is_behind_dashes, last_text}
use Rattle.scl_values.specs.Seen.{Seen}
use Rattle.scl_text.specs.contracts.language.LanguagePartialEq.TheImpl.{ghosts}
use Rattle.scl_text.specs.declared.language.Language.TheVariants as languages
use Rattle.scl_text.specs.Outputs.{output_at}
use Rattle.scl_files.specs.Paths.{with_extension}
use Rattle.scl_text.specs.Records.{Artifact, Parsed, bare_record}
use Rattle.scl_files.specs.Views.{Viewed}
use Rattle.scl_gnu_reading.specs.declared.gcc.data.Kind.TheVariants as inner_kind
use Rattle.scl_gnu_reading.specs.Hashes.{Hashed, hashed_as}
use Rattle.scl_gnu_reading.specs.Kinds as gnu
use Rattle.scl_gnu_reading.specs.Recordings.{hash_path}
use Rattle.scl_msvc_reading.specs.declared.msvc.data.Kind.{Kind}
use Rattle.scl_msvc_reading.specs.declared.msvc.data.Kind.TheVariants as kind
use Rattle.scl_msvc_reading.specs.declared.msvc.place.Place.{Place}
use Rattle.scl_msvc_reading.specs.declared.msvc.place.Place.TheVariants as places
use Rattle.scl_msvc_reading.specs.FixedTests.{Found}
use Rattle.scl_msvc_reading.specs.Inners.{BothInner, inner_words_at}
use Rattle.scl_msvc_reading.specs.Kinds.{of, is_input, hash_role, any, language_inputs}
use Rattle.scl_msvc_reading.specs.Places.{words_at}

-- ---- outputs

-- a file that is made from type libraries, as C++ may request
abbrev pub library_file : Found → List ℕ → Option (List ℕ)
library_file f extension = then_some (ghosts.eq f.language languages.Cxx) (with_extension f.object extension)

-- the outputs in the order of their names; `tlh` and `tli` may be missing
abbrev pub outputs : List (Seen Kind) → Found → List Artifact
outputs os f =
    output_at (codes "module") false (last_text (of (kind.ClangModuleOutput ∷ [])) os) ++ output_at (codes "obj") false (Some f.object) ++ output_at (codes "pdb") false f.program_database
    ++ output_at (codes "tlh") true (library_file f (codes "tlh")) ++ output_at (codes "tli") true (library_file f (codes "tli"))

-- ---- the record

-- the words of a place: those of the outer options, then those of the inner ones
abbrev pub all_words_at : Place → List (Seen Kind) → BothInner → List (List ℕ)
all_words_at there os inner = words_at there os ++ inner_words_at there inner

-- the files on whose contents the result depends, as first the outer options name them, then the inner ones
abbrev pub all_hashed : List (Seen Kind) → BothInner → List Hashed
all_hashed os inner = hashed_as hash_role os ++ gnu.hashed inner.xclang ++ gnu.hashed inner.clang

-- whether the compiled program writes a profile when it runs
abbrev pub writes_profile : BothInner → Bool
writes_profile inner = gnu.any (inner_kind.ProfileGenerate ∷ []) inner.xclang || gnu.any (inner_kind.ProfileGenerate ∷ []) inner.clang

-- the record; inner options give words, hashed files, and that a profile is written
abbrev pub record_of : List ℕ → Viewed → List (Seen Kind) → BothInner → Found → Parsed
record_of directory view os inner f = record (bare_record f.input f.language f.compile_flag) {
  double_dash_input = is_behind_dashes is_input os;
  depfile = last_text (of (kind.DepFile ∷ [])) os;
  outputs = outputs os f;
  dependency_args = all_words_at places.Dependency os inner;
  preprocessor_args = all_words_at places.Preprocessor os inner;
  common_args = all_words_at places.Common os inner;
  unhashed_args = all_words_at places.Unhashed os inner;
  extra_hash_files = map (hash_path directory view) (all_hashed os inner);
  msvc_show_includes = any (kind.ShowIncludes ∷ []) os;
  msvc_explicit_language = any language_inputs os;
  profile_generate = writes_profile inner;
}
