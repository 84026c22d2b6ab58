-- The words of the only run of the preprocessor.
use Rattle.std.specs.Prelude.{ℕ, Bool, ◌&&◌, ◌||◌, if◌then◌else◌, List, [], ◌∷◌, ◌++◌, Option, None, Some, codes}
use Rattle.scl_text.specs.Records.{Parsed}
use Rattle.scl_msvc.specs.Building.{lists_in_order, input_words}

-- the first word keeps line markers for a distant compiler, and if the compiled program writes a profile
abbrev pub first_word : Bool → Parsed → List ℕ
first_word may_dist p = if may_dist || p.profile_generate then codes "-E" else codes "-EP"

-- clang prints the names of included files to its error output, if a dependency file is wanted and the line does not print
-- them anyway
abbrev pub shown_includes : Option (List ℕ) → Bool → List (List ℕ)
shown_includes None shows = []
shown_includes (Some depfile) shows = if shows then [] else codes "-showIncludes" ∷ []

-- cl writes its own file of dependencies
abbrev pub written_includes : Option (List ℕ) → List (List ℕ)
written_includes None = []
written_includes (Some depfile) = codes "/sourceDependencies" ∷ depfile ∷ []

abbrev pub include_words : Bool → Parsed → List (List ℕ)
include_words is_clang p = if is_clang then shown_includes p.depfile p.msvc_show_includes else written_includes p.depfile ++ codes "/WX-" ∷ []

-- the lists of the record, without the words that do not change the result
abbrev pub run_lists : Parsed → List (List ℕ)
run_lists p = lists_in_order p.preprocessor_args p.dependency_args [] p.common_args

abbrev pub rewriting : Bool → Bool → List (List ℕ)
rewriting is_clang is_asked = if is_asked && is_clang then codes "-clang:-frewrite-includes" ∷ [] else []

abbrev pub preprocess_words : Bool → (may_dist rewrites : Bool) → Parsed → List (List ℕ)
preprocess_words is_clang may_dist rewrites p =
    first_word may_dist p ∷ codes "-nologo" ∷ run_lists p ++ include_words is_clang p ++ rewriting is_clang rewrites ++ input_words p

abbrev pub runs : Bool → (may_dist rewrites : Bool) → Parsed → List (List (List ℕ))
runs is_clang may_dist rewrites p = preprocess_words is_clang may_dist rewrites p ∷ []
