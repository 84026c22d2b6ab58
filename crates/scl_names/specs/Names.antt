-- The names of compilers.
use Rattle.std.specs.Prelude.{ℕ, ◌-◌, ◌==◌, ◌||◌, ◌&&◌, nat_eq, Bool, List, [], ◌∷◌, length, take, codes, Option, find}
use Rattle.std.specs.List.{ends_with}
use Rattle.std.specs.Option.{option_map}
use Rattle.scl_reader.specs.declared.compiler.Compiler.{Compiler}
use Rattle.scl_reader.specs.declared.compiler.Compiler.TheVariants.{Gcc, Gxx, Clang, Clangxx, Cl, ClangCl, Diab, Tasking}
use Rattle.scl_names.specs.FileNames.{stem_of, without_number}
use Rattle.scl_names.specs.declared.compilers.Name.{Name}
use Rattle.scl_names.specs.declared.compilers.Standing.{Standing}
use Rattle.scl_names.specs.declared.compilers.Standing.TheVariants.{Alone, Prefixed, Numbered}

pub record Entry : Type 0 where
  pub text : List ℕ
  pub standing : Standing
  pub compiler : Compiler

abbrev entry : List ℕ → Standing → Compiler → Entry
entry text standing compiler = record { text = text; standing = standing; compiler = compiler }

abbrev pub entry_of : Name → Entry
entry_of name = entry name.text.now name.standing name.compiler

abbrev pub names : List Entry
names =
    entry (codes "clang-cl") Numbered ClangCl
    ∷ entry (codes "clang++") Numbered Clangxx
    ∷ entry (codes "clang") Numbered Clang
    ∷ entry (codes "amdclang++") Prefixed Clangxx
    ∷ entry (codes "amdclang") Prefixed Clang
    ∷ entry (codes "g++") Numbered Gxx
    ∷ entry (codes "gcc") Numbered Gcc
    ∷ entry (codes "c++") Prefixed Gxx
    ∷ entry (codes "cc") Prefixed Gcc
    ∷ entry (codes "cl") Alone Cl
    ∷ entry (codes "dcc") Alone Diab
    ∷ entry (codes "cctc") Alone Tasking
    ∷ []

-- nothing, or a prefix that ends in a dash
abbrev pub is_open : List ℕ → Bool
is_open before = length before == 0 || ends_with nat_eq before (45 ∷ [])

-- a name that may be used so may follow this
abbrev pub stands : Standing → List ℕ → Bool
stands Alone before = length before == 0
stands Prefixed before = is_open before
stands Numbered before = is_open before

-- what a name that may be used so ends: the whole, or what stands before its digits, as those of `gcc12`
abbrev pub before_number : Standing → List ℕ → List ℕ
before_number Alone stem = stem
before_number Prefixed stem = stem
before_number Numbered stem = without_number stem

-- a program has the text of a name, which may be used so
abbrev ends_in : Standing → List ℕ → List ℕ → Bool
ends_in standing text stem = ends_with nat_eq stem text && stands standing (take (length stem - length text) stem)

-- the program has the name
unfoldable pub fits : List ℕ → Entry → Bool
fits stem name = ends_in name.standing name.text (before_number name.standing stem)

abbrev pub compiler_named : List ℕ → Option Compiler
compiler_named stem = option_map (λ name. name.compiler) (find (fits stem) names)

abbrev pub compiler_of : List ℕ → Option Compiler
compiler_of program = compiler_named (stem_of program)
