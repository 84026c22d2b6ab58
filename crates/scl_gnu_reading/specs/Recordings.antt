-- The record of a compilation.
use Rattle.std.specs.Prelude.{ℕ, ◌+◌, ◌==◌, Bool, true, false, not, ◌&&◌, List, [], ◌∷◌, ◌++◌, Option, None, Some, map, codes, nat_eq, drop, position, unwrap_or, is_some, if◌then◌else◌}
use Rattle.std.specs.List.{starts_with}
use Rattle.std.specs.Option.{option_map}
use Rattle.std.specs.Bool.{then_some}
use Rattle.scl_args.specs.Options.{last_flag, last_text, is_behind_dashes}
use Rattle.scl_values.specs.Seen.{Seen}
use Rattle.scl_text.specs.contracts.records.CCompilerKindPartialEq.TheImpl.{ghosts}
use Rattle.scl_text.specs.declared.records.CCompilerKind.{CCompilerKind}
use Rattle.scl_text.specs.declared.records.CCompilerKind.TheVariants as compilers
use Rattle.scl_text.specs.declared.records.ColorMode.TheVariants as colors
use Rattle.scl_text.specs.declared.language.Language.{Language}
use Rattle.scl_text.specs.Languages.{needs_c_preprocessing}
use Rattle.scl_text.specs.Outputs.{output_at}
use Rattle.scl_files.specs.Paths.{join, with_extension}
use Rattle.scl_text.specs.Records.{Artifact, Parsed, bare_record}
use Rattle.scl_files.specs.Views.{Viewed, is_directory}
use Rattle.scl_gnu_reading.specs.declared.gcc.hash_files.HashRole.{HashRole}
use Rattle.scl_gnu_reading.specs.declared.gcc.hash_files.HashRole.TheVariants as roles
use Rattle.scl_gnu_reading.specs.FixedTests.{Found}
use Rattle.scl_gnu_reading.specs.Hashes.{Hashed}
use Rattle.scl_gnu_reading.specs.declared.gcc.data.Kind.{Kind}
use Rattle.scl_gnu_reading.specs.declared.gcc.data.Kind.TheVariants as kind
use Rattle.scl_gnu_reading.specs.declared.gcc.place.Place.{Place}
use Rattle.scl_gnu_reading.specs.declared.gcc.place.Place.TheVariants as places
use Rattle.scl_gnu_reading.specs.Kinds.{of, hashed, any, is_input, color_mode, external_assembler, hiding_flag}
use Rattle.scl_gnu_reading.specs.Inners.{inner_words_at}
use Rattle.scl_gnu_reading.specs.Places.{words_at}

-- ---- outputs

-- the outputs of a compilation, in the order of their names; only `dwo` may be missing
abbrev pub outputs : List (Seen Kind) → Found → List Artifact
outputs os f =
    output_at (codes "d") false (if needs_c_preprocessing f.language then last_text (of (kind.DepArgumentPath ∷ [])) os else None)
    ++ output_at (codes "dia") false (last_text (of (kind.SerializeDiagnostics ∷ [])) os)
    ++ output_at (codes "dwo") true (then_some (any (kind.SplitDwarf ∷ []) os) (with_extension f.object (codes "dwo")))
    ++ output_at (codes "gcno") false (then_some (any (kind.Coverage ∷ kind.TestCoverage ∷ []) os) (with_extension f.object (codes "gcno")))
    ++ output_at (codes "module") false f.module_path
    ++ output_at (codes "obj") false (Some f.object)

-- ---- added options

-- the words that are added to the common ones
abbrev pub added_common : Bool → List ℕ → List (List ℕ)
added_common true object = (codes "-D_gsplit_dwarf_path=" ++ with_extension object (codes "dwo")) ∷ []
added_common false object = []

-- the path of the dependency file, unless the line has one
abbrev pub added_depfile : Bool → List ℕ → List (List ℕ)
added_depfile true object = []
added_depfile false object = codes "-MF" ∷ with_extension object (codes "d") ∷ []

-- the words that are added to those about dependencies, if a target is needed
abbrev pub added_dependency : (is_needed has_path : Bool) (flag target : Option (List ℕ)) → List ℕ → List (List ℕ)
added_dependency true has_path flag target object = (unwrap_or flag (codes "-MT") ∷ unwrap_or target object ∷ []) ++ added_depfile has_path object
added_dependency false has_path flag target object = []

-- ---- files on whose contents the result depends

abbrev pub is_equals : ℕ → Bool
is_equals byte = byte == 61

-- what follows the first =, else all of it
abbrev pub module_file_path : List ℕ → List ℕ
module_file_path text = unwrap_or (option_map (λ at. drop (at + 1) text) (position is_equals text)) text

abbrev pub profile_in : Bool → List ℕ → List ℕ
profile_in true path = join path (codes "default.profdata")
profile_in false path = path

-- the path from the directory; if there is a directory at that path, the file `default.profdata` in it
abbrev pub profile_use_path : List ℕ → List ℕ → Viewed → List ℕ
profile_use_path text directory view = profile_in (is_directory (join directory text) view) (join directory text)

abbrev pub hash_path_as : HashRole → List ℕ → List ℕ → Viewed → List ℕ
hash_path_as roles.File text directory view = join directory text
hash_path_as roles.Module text directory view = join directory (module_file_path text)
hash_path_as roles.Profile text directory view = profile_use_path text directory view

abbrev pub hash_path : List ℕ → Viewed → Hashed → List ℕ
hash_path directory view h = hash_path_as h.role h.text directory view

-- ---- the record

abbrev pub is_clang : CCompilerKind → Bool
is_clang compiler = ghosts.eq compiler compilers.Clang

-- without a standard, and with one that has GNU's extensions
abbrev pub has_extensions : Option (List ℕ) → Bool
has_extensions None = true
has_extensions (Some text) = starts_with nat_eq text (codes "gnu")

-- whether rewritten includes would change the messages of a pedantic Gcc
abbrev pub suppresses_rewritten_includes : CCompilerKind → List (Seen Kind) → Bool
suppresses_rewritten_includes compiler os = (ghosts.eq compiler compilers.Gcc && any (kind.PedanticFlag ∷ []) os) && has_extensions (last_text (of (kind.Standard ∷ [])) os)

-- whether the words about dependencies need a target
abbrev pub needs_target : Language → List (Seen Kind) → Bool
needs_target language os = needs_c_preprocessing language && any (kind.NeedDepTarget ∷ []) os

-- the words of a place: those of the outer options, then those of the inner ones
abbrev pub all_words_at : Place → List (Seen Kind) → List (Seen Kind) → List (List ℕ)
all_words_at there os inner = words_at there os ++ inner_words_at there inner

-- the words about dependencies, and those that are added if a target is needed
abbrev pub dependency_words : List (Seen Kind) → List (Seen Kind) → Found → List (List ℕ)
dependency_words os inner f =
    all_words_at places.Dependency os inner
    ++ added_dependency (needs_target f.language os) (is_some (last_text (of (kind.DepArgumentPath ∷ [])) os))
    (last_flag (of (kind.DepTarget ∷ [])) os) (last_text (of (kind.DepTarget ∷ [])) os) f.object

-- the record; inner options give only words and hashed files
abbrev pub record_of : CCompilerKind → List ℕ → Viewed → List (Seen Kind) → List (Seen Kind) → Found → Parsed
record_of compiler directory view os inner f = record (bare_record f.input f.language f.compile_flag) {
  double_dash_input = is_behind_dashes is_input os;
  outputs = outputs os f;
  dependency_args = dependency_words os inner f;
  preprocessor_args = all_words_at places.Preprocessor os inner;
  common_args = all_words_at places.Common os inner ++ added_common (any (kind.SplitDwarf ∷ []) os) f.object;
  arch_args = all_words_at places.Arch os inner;
  unhashed_args = all_words_at places.Unhashed os inner;
  extra_hash_files = map (hash_path directory view) (hashed os ++ hashed inner);
  uses_external_assembler = unwrap_or (external_assembler os) (not (is_clang compiler));
  profile_generate = any (kind.Coverage ∷ kind.TestCoverage ∷ kind.ProfileGenerate ∷ []) os;
  color_mode = unwrap_or (color_mode os) colors.Auto;
  suppress_rewrite_includes_only = suppresses_rewritten_includes compiler os;
  too_hard_for_preprocessor_cache_mode = hiding_flag os;
}
