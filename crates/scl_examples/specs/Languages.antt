-- Rows of languages.
use Rattle.std.specs.Prelude.{◌≡◌, ℕ, Bool, true, false, List, [], ◌∷◌, codes, map, Option, None, Some}
use Prim.Native.String.{String}
use Rattle.scl_text.specs.Languages.{language_of_file_name, language_of_gcc_text, gcc_text, clang_text, needs_c_preprocessing}
use Rattle.scl_text.specs.declared.language.Language.{Language}
use Rattle.scl_text.specs.declared.language.Language.TheVariants as languages
use Rattle.scl_examples.specs.Written.{words}

-- these file names, with a space between two, are of the language, or of none
abbrev pub AreOf : String → Option Language → Type 0
AreOf names language = map language_of_file_name (words names) ≡ map (λ name. language) (words names)

abbrev pub ExtensionsHaveLanguages : Type 0
ExtensionsHaveLanguages =
    AreOf "a.s" (Some languages.Assembler)
    × AreOf "a.S a.sx" (Some languages.AssemblerToPreprocess)
    × AreOf "a.c" (Some languages.C)
    × AreOf "a.h" (Some languages.GenericHeader)
    × AreOf "a.C a.cc a.cp a.cpp a.CPP a.cxx a.c++" (Some languages.Cxx)
    × AreOf "a.H a.hh a.hp a.hpp a.HPP a.hxx a.h++ a.tcc" (Some languages.CxxHeader)
    × AreOf "a.cppm a.ccm a.cxxm a.c++m" (Some languages.CxxModule)
    × AreOf "a.m" (Some languages.ObjectiveC)
    × AreOf "a.M a.mm" (Some languages.ObjectiveCxx)
    × AreOf "a.cu" (Some languages.Cuda)
    × AreOf "a.rs" (Some languages.Rust)
    × AreOf "a.hip" (Some languages.Hip)
    × AreOf ".c c a. a.xyz a.CC" None
    × (language_of_file_name [] ≡ None)

-- the language has this text for gcc and clang, which is read as the language
abbrev pub IsSaid : Language → String → Type 0
IsSaid language text = (gcc_text language ≡ Some (codes text)) × (clang_text language ≡ Some (codes text)) × (language_of_gcc_text (codes text) ≡ Some language)

abbrev pub LanguagesHaveTexts : Type 0
LanguagesHaveTexts =
    IsSaid languages.Assembler "assembler"
    × IsSaid languages.AssemblerToPreprocess "assembler-with-cpp"
    × IsSaid languages.C "c"
    × IsSaid languages.CHeader "c-header"
    × IsSaid languages.Cxx "c++"
    × IsSaid languages.CxxHeader "c++-header"
    × IsSaid languages.CxxModule "c++-module"
    × IsSaid languages.ObjectiveC "objective-c"
    × IsSaid languages.ObjectiveCHeader "objective-c-header"
    × IsSaid languages.ObjectiveCxx "objective-c++"
    × IsSaid languages.ObjectiveCxxHeader "objective-c++-header"
    × IsSaid languages.Hip "hip"

-- a language without a text, two texts of one language, and texts of none
abbrev pub OtherTextsAreRead : Type 0
OtherTextsAreRead =
    (gcc_text languages.Cuda ≡ Some (codes "cu"))
    × (clang_text languages.Cuda ≡ Some (codes "cuda"))
    × (language_of_gcc_text (codes "cu") ≡ Some languages.Cuda)
    × (language_of_gcc_text (codes "cuda") ≡ Some languages.Cuda)
    × (gcc_text languages.GenericHeader ≡ None)
    × (clang_text languages.GenericHeader ≡ None)
    × (gcc_text languages.Rust ≡ None)
    × (clang_text languages.Rust ≡ None)
    × (language_of_gcc_text (codes "rs") ≡ Some languages.Rust)
    × (language_of_gcc_text (codes "xyz") ≡ None)
    × (language_of_gcc_text [] ≡ None)

-- all but assembler and Rust need C preprocessing
abbrev pub LanguagesNeedPreprocessing : Type 0
LanguagesNeedPreprocessing =
    (map needs_c_preprocessing (languages.Assembler ∷ languages.Rust ∷ []) ≡ false ∷ false ∷ [])
    × (map needs_c_preprocessing (languages.AssemblerToPreprocess ∷ languages.C ∷ languages.CHeader ∷ languages.GenericHeader ∷ []) ≡ true ∷ true ∷ true ∷ true ∷ [])
    × (map needs_c_preprocessing (languages.Cxx ∷ languages.CxxHeader ∷ languages.CxxModule ∷ []) ≡ true ∷ true ∷ true ∷ [])
    × (map needs_c_preprocessing (languages.ObjectiveC ∷ languages.ObjectiveCHeader ∷ languages.ObjectiveCxx ∷ languages.ObjectiveCxxHeader ∷ []) ≡ true ∷ true ∷ true ∷ true ∷ [])
    × (map needs_c_preprocessing (languages.Cuda ∷ languages.Hip ∷ []) ≡ true ∷ true ∷ [])
