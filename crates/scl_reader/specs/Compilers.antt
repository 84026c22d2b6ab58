-- The compilers by their names.
use Rattle.std.specs.Prelude.{ℕ, List, [], ◌∷◌, Option, None, Some, codes, find}
use Rattle.std.specs.Str.{bytes_eq}
use Rattle.scl_files.specs.declared.expand.ExpansionKind.{ExpansionKind}
use Rattle.scl_files.specs.declared.expand.ExpansionKind.TheVariants as expansions
use Rattle.scl_reader.specs.declared.compiler.Compiler.{Compiler}
use Rattle.scl_reader.specs.declared.compiler.Compiler.TheVariants.{Gcc, Gxx, Clang, Clangxx, Cl, ClangCl, Diab, Tasking}

abbrev pub name_of : Compiler → List ℕ
name_of Gcc = codes "gcc"
name_of Gxx = codes "g++"
name_of Clang = codes "clang"
name_of Clangxx = codes "clang++"
name_of Cl = codes "cl"
name_of ClangCl = codes "clang-cl"
name_of Diab = codes "diab"
name_of Tasking = codes "tasking"

-- the compilers that are served: each, as the law on names says
abbrev pub served : List Compiler
served =
    Gcc
    ∷ Gxx
    ∷ Clang
    ∷ Clangxx
    ∷ Cl
    ∷ ClangCl
    ∷ Diab
    ∷ Tasking
    ∷ []

-- the served compiler with this name
abbrev pub compiler_named : List ℕ → Option Compiler
compiler_named name = find (λ compiler. bytes_eq (name_of compiler) name) served

-- whose response files the given words name, if they may name any
abbrev pub expansion_of : Compiler → Option ExpansionKind
expansion_of Gcc = Some expansions.Gnu
expansion_of Gxx = Some expansions.Gnu
expansion_of Clang = Some expansions.Gnu
expansion_of Clangxx = Some expansions.Gnu
expansion_of Cl = Some expansions.Msvc
expansion_of ClangCl = Some expansions.Msvc
expansion_of Diab = Some expansions.Diab
expansion_of Tasking = None
