-- Records, as contracts see them.
use Rattle.std.specs.Prelude.{ℕ, Bool, false, not, List, [], ◌∷◌, Option, None, map, filter, Result, Ok, Err, string_bytes, String, Vec}
use Rattle.std.specs.Option.{option_map}
use Rattle.std.specs.Str.{bytes_eq}
use Rattle.std.specs.BTreeMap.{BTreeMap}
use Rattle.std.specs.declared.alloc.Global.{Global}
use Rattle.scl_text.specs.declared.language.Language.{Language}
use Rattle.scl_text.specs.declared.records.ColorMode.{ColorMode}
use Rattle.scl_text.specs.declared.records.ColorMode.TheVariants as colors
use Rattle.scl_text.specs.declared.records.ArtifactDescriptor.{ArtifactDescriptor}
use Rattle.scl_text.specs.declared.records.ParsedArguments.{ParsedArguments}
use Rattle.scl_text.specs.declared.records.CompilerArguments.{CompilerArguments}
use Rattle.scl_text.specs.declared.records.CompilerArguments.TheVariants as answers
use Rattle.scl_values.specs.Words.{words_of}

-- an output: its name, its path, and whether it may be missing
pub record Artifact : Type 0 where
  pub name : List ℕ
  pub path : List ℕ
  pub optional : Bool

abbrev pub artifact : List ℕ → List ℕ → Bool → Artifact
artifact name path optional = record { name = name; path = path; optional = optional }

-- the record of a command line; the outputs are in the order of their names
pub record Parsed : Type 0 where
  pub input : List ℕ
  pub double_dash_input : Bool
  pub language : Language
  pub compilation_flag : List ℕ
  pub depfile : Option (List ℕ)
  pub outputs : List Artifact
  pub dependency_args : List (List ℕ)
  pub preprocessor_args : List (List ℕ)
  pub common_args : List (List ℕ)
  pub arch_args : List (List ℕ)
  pub unhashed_args : List (List ℕ)
  pub extra_dist_files : List (List ℕ)
  pub extra_hash_files : List (List ℕ)
  pub uses_external_assembler : Bool
  pub msvc_show_includes : Bool
  pub msvc_explicit_language : Bool
  pub profile_generate : Bool
  pub color_mode : ColorMode
  pub suppress_rewrite_includes_only : Bool
  pub too_hard_for_preprocessor_cache_mode : Option (List ℕ)

-- a record with an input, its language and the compile flag; all other fields are empty, false or `Auto`
abbrev pub bare_record : List ℕ → Language → List ℕ → Parsed
bare_record input language compilation_flag = record {
  input = input;
  double_dash_input = false;
  language = language;
  compilation_flag = compilation_flag;
  depfile = None;
  outputs = [];
  dependency_args = [];
  preprocessor_args = [];
  common_args = [];
  arch_args = [];
  unhashed_args = [];
  extra_dist_files = [];
  extra_hash_files = [];
  uses_external_assembler = false;
  msvc_show_includes = false;
  msvc_explicit_language = false;
  profile_generate = false;
  color_mode = colors.Auto;
  suppress_rewrite_includes_only = false;
  too_hard_for_preprocessor_cache_mode = None;
}

-- why a command line is refused: its result can't be cached, for this reason, perhaps with a text beside it; or it is no
-- compilation
pub data Verdict : Type 0 where
  CannotCache : (reason : List ℕ) (beside : Option (List ℕ)) → Verdict
  NotCompilation : Verdict

-- the result can't be cached, for this reason, without a text beside it
abbrev pub because : List ℕ → Verdict
because reason = CannotCache reason None

-- the bytes of an optional path
abbrev pub path_of : Option (Vec ℕ Global) → Option (List ℕ)
path_of path = option_map (λ bytes. bytes.items) path

abbrev pub artifact_of : (String Global × ArtifactDescriptor) → Artifact
artifact_of entry = artifact (string_bytes entry.0) entry.1.path.items entry.1.optional

-- the outputs in a map, in the order of their names
abbrev pub artifacts : BTreeMap (String Global) ArtifactDescriptor → List Artifact
artifacts outputs = map artifact_of outputs.entries

-- the code's record, as contracts see it
abbrev pub parsed_of : ParsedArguments → Parsed
parsed_of p = record {
  input = p.input.items;
  double_dash_input = p.double_dash_input;
  language = p.language;
  compilation_flag = p.compilation_flag.items;
  depfile = path_of p.depfile;
  outputs = artifacts p.outputs;
  dependency_args = words_of p.dependency_args.items;
  preprocessor_args = words_of p.preprocessor_args.items;
  common_args = words_of p.common_args.items;
  arch_args = words_of p.arch_args.items;
  unhashed_args = words_of p.unhashed_args.items;
  extra_dist_files = words_of p.extra_dist_files.items;
  extra_hash_files = words_of p.extra_hash_files.items;
  uses_external_assembler = p.uses_external_assembler;
  msvc_show_includes = p.msvc_show_includes;
  msvc_explicit_language = p.msvc_explicit_language;
  profile_generate = p.profile_generate;
  color_mode = p.color_mode;
  suppress_rewrite_includes_only = p.suppress_rewrite_includes_only;
  too_hard_for_preprocessor_cache_mode = path_of p.too_hard_for_preprocessor_cache_mode;
}

-- the outcome that an answer has
abbrev pub outcome_of : CompilerArguments ParsedArguments → Result Parsed Verdict
outcome_of (answers.Ok p) = Ok (parsed_of p)
outcome_of (answers.CannotCache reason text) = Err (CannotCache reason.now (option_map string_bytes text))
outcome_of answers.NotCompilation = Err NotCompilation

-- the second words of pairs of words; a last word without a partner is left out
abbrev pub second_words : List (List ℕ) → List (List ℕ)
second_words [] = []
second_words (flag ∷ []) = []
second_words (flag ∷ (value ∷ words)) = value ∷ second_words words

-- the words that are not equal to this one
abbrev pub without_word : List ℕ → List (List ℕ) → List (List ℕ)
without_word word words = filter (λ other. not (bytes_eq other word)) words

-- the distinct words, each at its first occurrence
abbrev pub distinct_words : List (List ℕ) → List (List ℕ)
distinct_words [] = []
distinct_words (word ∷ words) = word ∷ without_word word (distinct_words words)

-- the architectures of pairs of a flag and an architecture
abbrev pub archs : List (List ℕ) → List (List ℕ)
archs arch_args = distinct_words (second_words arch_args)
