-- The languages of source files, by extension and by the texts of `-x`.
use Rattle.std.specs.Prelude.{ℕ, Bool, true, false, List, [], ◌∷◌, Option, Some, None, codes, find, map}
use Rattle.std.specs.Borrow.{Bor}
use Prim.Native.String.{String}
use Rattle.std.specs.Str.{bytes_eq}
use Rattle.std.specs.Option.{option_and_then, option_map}
use Rattle.scl_text.specs.declared.language.Language.{Language}
use Rattle.scl_text.specs.declared.language.Language.TheVariants as languages
use Rattle.scl_files.specs.Paths.{extension}

-- a text and the language that it names
pub record Named : Type 0 where
  pub text : List ℕ
  pub language : Language

abbrev pub named : String → Language → Named
named text language = record { text = codes text; language = language }

abbrev pub rows_of : List (Bor (List ℕ) × Language) → List Named
rows_of rows = map (λ row. record { text = row.0.now; language = row.1 }) rows

-- the language that the text names in a table
abbrev pub language_named : List Named → List ℕ → Option Language
language_named rows text = option_map (λ row. row.language) (find (λ row. bytes_eq row.text text) rows)

-- the extensions of files and their languages
abbrev pub extensions : List Named
extensions =
    named "s" languages.Assembler
    ∷ named "S" languages.AssemblerToPreprocess
    ∷ named "sx" languages.AssemblerToPreprocess
    ∷ named "c" languages.C
    ∷ named "h" languages.GenericHeader
    ∷ named "C" languages.Cxx
    ∷ named "cc" languages.Cxx
    ∷ named "cp" languages.Cxx
    ∷ named "cpp" languages.Cxx
    ∷ named "CPP" languages.Cxx
    ∷ named "cxx" languages.Cxx
    ∷ named "c++" languages.Cxx
    ∷ named "H" languages.CxxHeader
    ∷ named "hh" languages.CxxHeader
    ∷ named "hp" languages.CxxHeader
    ∷ named "hpp" languages.CxxHeader
    ∷ named "HPP" languages.CxxHeader
    ∷ named "hxx" languages.CxxHeader
    ∷ named "h++" languages.CxxHeader
    ∷ named "tcc" languages.CxxHeader
    ∷ named "cppm" languages.CxxModule
    ∷ named "ccm" languages.CxxModule
    ∷ named "cxxm" languages.CxxModule
    ∷ named "c++m" languages.CxxModule
    ∷ named "m" languages.ObjectiveC
    ∷ named "M" languages.ObjectiveCxx
    ∷ named "mm" languages.ObjectiveCxx
    ∷ named "cu" languages.Cuda
    ∷ named "rs" languages.Rust
    ∷ named "hip" languages.Hip
    ∷ []

abbrev pub language_of_extension : List ℕ → Option Language
language_of_extension extension = language_named extensions extension

abbrev pub language_of_file_name : List ℕ → Option Language
language_of_file_name path = option_and_then language_of_extension (extension path)

-- the texts that are read after -x
abbrev pub read_texts : List Named
read_texts =
    named "assembler" languages.Assembler
    ∷ named "assembler-with-cpp" languages.AssemblerToPreprocess
    ∷ named "c" languages.C
    ∷ named "c-header" languages.CHeader
    ∷ named "c++" languages.Cxx
    ∷ named "c++-header" languages.CxxHeader
    ∷ named "c++-module" languages.CxxModule
    ∷ named "objective-c" languages.ObjectiveC
    ∷ named "objective-c-header" languages.ObjectiveCHeader
    ∷ named "objective-c++" languages.ObjectiveCxx
    ∷ named "objective-c++-header" languages.ObjectiveCxxHeader
    ∷ named "cu" languages.Cuda
    ∷ named "cuda" languages.Cuda
    ∷ named "rs" languages.Rust
    ∷ named "hip" languages.Hip
    ∷ []

abbrev pub language_of_gcc_text : List ℕ → Option Language
language_of_gcc_text text = language_named read_texts text

-- the text that gcc's -x takes
abbrev pub gcc_text : Language → Option (List ℕ)
gcc_text languages.Assembler = Some (codes "assembler")
gcc_text languages.AssemblerToPreprocess = Some (codes "assembler-with-cpp")
gcc_text languages.C = Some (codes "c")
gcc_text languages.CHeader = Some (codes "c-header")
gcc_text languages.GenericHeader = None
gcc_text languages.Cxx = Some (codes "c++")
gcc_text languages.CxxHeader = Some (codes "c++-header")
gcc_text languages.CxxModule = Some (codes "c++-module")
gcc_text languages.ObjectiveC = Some (codes "objective-c")
gcc_text languages.ObjectiveCHeader = Some (codes "objective-c-header")
gcc_text languages.ObjectiveCxx = Some (codes "objective-c++")
gcc_text languages.ObjectiveCxxHeader = Some (codes "objective-c++-header")
gcc_text languages.Cuda = Some (codes "cu")
gcc_text languages.Rust = None
gcc_text languages.Hip = Some (codes "hip")

-- the text that clang's -x takes
abbrev pub clang_text : Language → Option (List ℕ)
clang_text languages.Assembler = gcc_text languages.Assembler
clang_text languages.AssemblerToPreprocess = gcc_text languages.AssemblerToPreprocess
clang_text languages.C = gcc_text languages.C
clang_text languages.CHeader = gcc_text languages.CHeader
clang_text languages.GenericHeader = gcc_text languages.GenericHeader
clang_text languages.Cxx = gcc_text languages.Cxx
clang_text languages.CxxHeader = gcc_text languages.CxxHeader
clang_text languages.CxxModule = gcc_text languages.CxxModule
clang_text languages.ObjectiveC = gcc_text languages.ObjectiveC
clang_text languages.ObjectiveCHeader = gcc_text languages.ObjectiveCHeader
clang_text languages.ObjectiveCxx = gcc_text languages.ObjectiveCxx
clang_text languages.ObjectiveCxxHeader = gcc_text languages.ObjectiveCxxHeader
clang_text languages.Cuda = Some (codes "cuda")
clang_text languages.Rust = gcc_text languages.Rust
clang_text languages.Hip = gcc_text languages.Hip

abbrev pub needs_c_preprocessing : Language → Bool
needs_c_preprocessing languages.Assembler = false
needs_c_preprocessing languages.AssemblerToPreprocess = true
needs_c_preprocessing languages.C = true
needs_c_preprocessing languages.CHeader = true
needs_c_preprocessing languages.GenericHeader = true
needs_c_preprocessing languages.Cxx = true
needs_c_preprocessing languages.CxxHeader = true
needs_c_preprocessing languages.CxxModule = true
needs_c_preprocessing languages.ObjectiveC = true
needs_c_preprocessing languages.ObjectiveCHeader = true
needs_c_preprocessing languages.ObjectiveCxx = true
needs_c_preprocessing languages.ObjectiveCxxHeader = true
needs_c_preprocessing languages.Cuda = true
needs_c_preprocessing languages.Rust = false
needs_c_preprocessing languages.Hip = true
