-- The runs whose texts go into a key, and the plan of the driver: runs and commands of the record, less what they must not do.
use Rattle.std.specs.Prelude.{ℕ, Bool, true, false, nat_eq, ◌||◌, List, [], ◌∷◌, ◌++◌, map, codes, None, is_some, if◌then◌else◌}
use Rattle.std.specs.List.{flat_map, list_any, starts_with}
use Rattle.std.specs.Option.{option_to_list}
use Rattle.std.specs.Str.{bytes_eq}
use Rattle.scl_gnu.specs.OutputFiles.{without_output_files}
use Rattle.scl_text.specs.Records.{Parsed, without_word}
use Rattle.scl_text.specs.declared.language.Language.{Language}
use Rattle.scl_text.specs.declared.language.Language.TheVariants as languages
use Rattle.scl_reader.specs.declared.compiler.Compiler.{Compiler}
use Rattle.scl_reader.specs.Answers.{command_by, runs_by}
use Rattle.scl_key.specs.Families.{has_plan, is_gnu}
use Rattle.scl_key.specs.Made.{handed_file, joined_file}
use Rattle.scl_key.specs.Parts.{Part, plan, run, run_else}

-- a header or a module: what is compiled keeps its macros for others
abbrev pub is_header : Language → Bool
is_header languages.C = false
is_header languages.Cxx = false
is_header languages.ObjectiveC = false
is_header languages.ObjectiveCxx = false
is_header languages.Assembler = false
is_header languages.AssemblerToPreprocess = false
is_header languages.CHeader = true
is_header languages.GenericHeader = true
is_header languages.CxxHeader = true
is_header languages.CxxModule = true
is_header languages.ObjectiveCHeader = true
is_header languages.ObjectiveCxxHeader = true
is_header languages.Cuda = false
is_header languages.Rust = false
is_header languages.Hip = false

abbrev pub is_assembler : Language → Bool
is_assembler languages.C = false
is_assembler languages.Cxx = false
is_assembler languages.ObjectiveC = false
is_assembler languages.ObjectiveCxx = false
is_assembler languages.Assembler = true
is_assembler languages.AssemblerToPreprocess = true
is_assembler languages.CHeader = false
is_assembler languages.GenericHeader = false
is_assembler languages.CxxHeader = false
is_assembler languages.CxxModule = false
is_assembler languages.ObjectiveCHeader = false
is_assembler languages.ObjectiveCxxHeader = false
is_assembler languages.Cuda = false
is_assembler languages.Rust = false
is_assembler languages.Hip = false

-- ---- the plan

-- the record less what says nothing of what the driver does: an assembler gets the words of the preprocessor itself
abbrev pub plan_record : Parsed → Parsed
plan_record p = record p {
  preprocessor_args = if is_assembler p.language then p.preprocessor_args else [];
  dependency_args = [];
  unhashed_args = [];
}

abbrev pub plans : Compiler → Parsed → List Part
plans compiler p = if has_plan compiler then map plan (option_to_list (command_by compiler (plan_record p))) else []

-- ---- the file of dependencies

-- The word in whose place a cache puts the name of a file of its own: no word of a process can be it.
abbrev pub own_file : List ℕ
own_file = 0 ∷ []

-- the words about dependencies, that file in the place of each that they name
abbrev pub noted : (is_behind : Bool) → List (List ℕ) → List (List ℕ)
noted is_behind [] = []
noted true (word ∷ words) = own_file ∷ noted false words
noted false (word ∷ words) = word ∷ noted (bytes_eq word (codes "-MF")) words

-- none where they name no file
abbrev pub noted_words : List (List ℕ) → List (List ℕ)
noted_words words = if list_any (λ word. bytes_eq word (codes "-MF")) words then noted false words else []

-- a word that passes a file of dependencies to the preprocessor, as words about dependencies
abbrev pub noted_handed : List ℕ → List (List ℕ)
noted_handed word =
    if is_some (handed_file word)
    then (if starts_with nat_eq word (codes "-Wp,-MD,") then codes "-MD" else codes "-MMD") ∷ codes "-MF" ∷ own_file ∷ []
    else []

-- The last file counts: so the cache's own comes after those that are joined to their flag among the common words, if there are any.
abbrev pub noted_common : List (List ℕ) → List (List ℕ)
noted_common words = if list_any (λ word. is_some (joined_file word)) words then codes "-MF" ∷ own_file ∷ [] else []

-- ---- the runs

-- the words by which they print macros, where these come into the outcome
abbrev pub macro_words : (macros : Bool) → Parsed → List (List ℕ)
macro_words macros p = if is_header p.language || macros then codes "-dD" ∷ [] else []

-- the record of the runs of Gcc and Clang: they write no file but that of dependencies, and print macros where these count
abbrev pub noting_record : (macros : List (List ℕ)) → Parsed → Parsed
noting_record macros p = record p {
  dependency_args = noted_words p.dependency_args ++ flat_map noted_handed p.preprocessor_args ++ flat_map noted_handed p.common_args;
  preprocessor_args = macros ++ without_output_files p.preprocessor_args;
  common_args = without_output_files p.common_args ++ noted_common p.common_args;
}

-- by which a precompiled header is named in place of its text
abbrev pub hides_header : List ℕ
hides_header = codes "-fpch-preprocess"

-- the same without that word
abbrev pub shown_record : Parsed → Parsed
shown_record p = record p { common_args = without_word hides_header p.common_args }

-- the record of the runs of other compilers: they write no file
abbrev pub silent_record : Parsed → Parsed
silent_record p = record p { dependency_args = []; depfile = None }

-- all runs keep their line markers
abbrev pub marked_runs : Compiler → Parsed → List (List (List ℕ))
marked_runs compiler p = runs_by compiler true false true p

abbrev pub key_runs : (macros : Bool) → Compiler → Parsed → List (List (List ℕ))
key_runs macros compiler p = if is_gnu compiler then marked_runs compiler (shown_record (noting_record (macro_words macros p) p)) else marked_runs compiler (silent_record p)

-- where a header of which no text is left is named in its place
abbrev pub runs_else : Compiler → Parsed → List (List (List ℕ))
runs_else compiler p =
    if is_gnu compiler then (if list_any (λ word. bytes_eq word hides_header) p.common_args then marked_runs compiler (noting_record [] p) else []) else []

abbrev pub run_parts : (macros : Bool) → Compiler → Parsed → List Part
run_parts macros compiler p = map run (key_runs macros compiler p) ++ map run_else (runs_else compiler p)
