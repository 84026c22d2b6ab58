-- The words of the runs of the preprocessor.
use Rattle.std.specs.Prelude.{◌≡◌, ℕ, ◌<◌, Bool, true, false, not, ◌&&◌, ◌||◌, nat_le, if◌then◌else◌, List, [], ◌∷◌, ◌++◌, length, map, Option, codes}
use Rattle.scl_text.specs.contracts.language.LanguagePartialEq.TheImpl.{ghosts}
use Rattle.scl_text.specs.declared.language.Language.{Language}
use Rattle.scl_text.specs.declared.language.Language.TheVariants as languages
use Rattle.scl_text.specs.declared.records.CCompilerKind.{CCompilerKind}
use Rattle.scl_text.specs.declared.records.CCompilerKind.TheVariants as kinds
use Rattle.scl_text.specs.Languages.{gcc_text, clang_text}
use Rattle.scl_text.specs.Records.{Parsed, archs}
use Rattle.scl_gnu.specs.Building.{language_words, lists_in_order, input_words}
use Rattle.scl_gnu.specs.OutputFiles.{without_output_files}
use Rattle.scl_gnu.specs.Versions.{is_minversion}

-- ---- the settings of a run

-- the flags that leave out ignorable output, unless the run must keep line markers
abbrev pub ignoring : Bool → Parsed → List (List ℕ) → List (List ℕ)
ignoring may_dist p ignorable = if may_dist || p.profile_generate then [] else ignorable

-- the flag that leaves macros in place
abbrev pub rewriting_flag : CCompilerKind → List (List ℕ)
rewriting_flag kinds.Clang = codes "-frewrite-includes" ∷ []
rewriting_flag kinds.Gcc = codes "-fdirectives-only" ∷ []
rewriting_flag kinds.Diab = []
rewriting_flag kinds.Msvc = []
rewriting_flag kinds.TaskingVX = []

abbrev pub rewriting : CCompilerKind → Bool → Parsed → List (List ℕ)
rewriting kind rewrites p = if rewrites && not p.suppress_rewrite_includes_only then rewriting_flag kind else []

abbrev pub settings : CCompilerKind → Bool → List (List ℕ) → Bool → Parsed → List (List ℕ)
settings kind rewrites ignorable may_dist p = ignoring may_dist p ignorable ++ rewriting kind rewrites p

-- ---- the runs

-- the language, the flags of the run, the lists, the input
abbrev pub words_with : Option (List ℕ) → (set lists : List (List ℕ)) → Parsed → List (List ℕ)
words_with text set lists p = language_words text ++ codes "-E" ∷ set ++ lists ++ input_words p

-- one run: its lists are those of the command, without the words that do not change the result
abbrev pub run_words : Option (List ℕ) → List (List ℕ) → Parsed → List (List ℕ)
run_words text set p = words_with text set (lists_in_order p.preprocessor_args p.dependency_args [] p.common_args p.arch_args) p

-- a record with these words for architectures
abbrev pub with_archs : List (List ℕ) → Parsed → Parsed
with_archs words p = record p { arch_args = words }

abbrev pub arch_words : List ℕ → List (List ℕ)
arch_words arch = codes "-arch" ∷ arch ∷ []

-- a record in whose lists no words make the preprocessor write a file
abbrev pub without_files : Parsed → Parsed
without_files p = record p {
  dependency_args = [];
  preprocessor_args = without_output_files p.preprocessor_args;
  common_args = without_output_files p.common_args;
}

abbrev pub is_none : List (List ℕ) → Bool
is_none [] = true
is_none (word ∷ words) = false

-- a run for one architecture, which writes files or not
abbrev pub arch_run : Option (List ℕ) → List (List ℕ) → Parsed → List ℕ → Bool → List (List ℕ)
arch_run text set p arch is_last = run_words text set (with_archs (arch_words arch) (if is_last then p else without_files p))

-- a run for each architecture; only the last one writes files
abbrev pub arch_runs : Option (List ℕ) → List (List ℕ) → Parsed → List (List ℕ) → List (List (List ℕ))
arch_runs text set p [] = []
arch_runs text set p (arch ∷ rest) = arch_run text set p arch (is_none rest) ∷ arch_runs text set p rest

-- one run; or, of several architectures, one for each, which is never distributed
abbrev pub preprocess_passes : Option (List ℕ) → CCompilerKind → Bool → List (List ℕ) → Bool → Parsed → List (List (List ℕ))
preprocess_passes text kind rewrites ignorable may_dist p =
    if nat_le 2 (length (archs p.arch_args))
    then arch_runs text (settings kind rewrites ignorable false p) p (archs p.arch_args)
    else run_words text (settings kind rewrites ignorable may_dist p) p ∷ []

-- ---- each compiler, with its flags that leave out ignorable output

abbrev pub linemarker_flags : Bool → List (List ℕ)
linemarker_flags cache_mode = if cache_mode then [] else codes "-P" ∷ []

-- Clang from version 14 on leaves out white space too, except in assembler for the preprocessor
abbrev pub space_flags : Bool → Option (List ℕ) → Language → List (List ℕ)
space_flags is_apple version language =
    if is_minversion is_apple version 14 && not (ghosts.eq language languages.AssemblerToPreprocess) then codes "-fminimize-whitespace" ∷ [] else []

abbrev pub clang_flags : Bool → Option (List ℕ) → Language → Bool → List (List ℕ)
clang_flags is_apple version language cache_mode = linemarker_flags cache_mode ++ space_flags is_apple version language

abbrev pub gcc_runs : (may_dist rewrites cache_mode : Bool) → Parsed → List (List (List ℕ))
gcc_runs may_dist rewrites cache_mode p = preprocess_passes (gcc_text p.language) kinds.Gcc rewrites (linemarker_flags cache_mode) may_dist p

abbrev pub clang_runs : Bool → Option (List ℕ) → (may_dist rewrites cache_mode : Bool) → Parsed → List (List (List ℕ))
clang_runs is_apple version may_dist rewrites cache_mode p =
    preprocess_passes (clang_text p.language) kinds.Clang rewrites (clang_flags is_apple version p.language cache_mode) may_dist p

-- ---- laws

-- a record with at most one architecture has one run
abbrev pub OneArchitectureHasOneRun : Type 0
OneArchitectureHasOneRun =
    (text : Option (List ℕ)) (kind : CCompilerKind) (rewrites : Bool) (ignorable : List (List ℕ)) (may_dist : Bool) (p : Parsed)
    → length (archs p.arch_args) < 2
    → preprocess_passes text kind rewrites ignorable may_dist p ≡ run_words text (settings kind rewrites ignorable may_dist p) p ∷ []

-- the runs of several architectures differ in the words of their architecture, and in what only the last one has
abbrev pub EachArchitectureHasItsRun : Type 0
EachArchitectureHasItsRun =
    (text : Option (List ℕ)) (kind : CCompilerKind) (rewrites : Bool) (ignorable : List (List ℕ)) (may_dist : Bool) (p : Parsed) (others : List (List ℕ)) (last : List ℕ)
    → 0 < length others
    → archs p.arch_args ≡ others ++ last ∷ []
    → preprocess_passes text kind rewrites ignorable may_dist p
    ≡ map (λ arch. run_words text (settings kind rewrites ignorable false p) (with_archs (arch_words arch) (without_files p))) others
    ++ run_words text (settings kind rewrites ignorable false p) (with_archs (arch_words last) p) ∷ []
