-- What the compilers have in common.
use Rattle.std.specs.Prelude.{Bool, true, false, List, [], ◌∷◌, ℕ, codes}
use Rattle.scl_reader.specs.declared.compiler.Compiler.{Compiler}
use Rattle.scl_reader.specs.declared.compiler.Compiler.TheVariants.{Gcc, Gxx, Clang, Clangxx, Cl, ClangCl, Diab, Tasking}

-- a driver of Gcc or Clang
abbrev pub is_gnu : Compiler → Bool
is_gnu Gcc = true
is_gnu Gxx = true
is_gnu Clang = true
is_gnu Clangxx = true
is_gnu Cl = false
is_gnu ClangCl = false
is_gnu Diab = false
is_gnu Tasking = false

abbrev pub is_gcc : Compiler → Bool
is_gcc Gcc = true
is_gcc Gxx = true
is_gcc Clang = false
is_gcc Clangxx = false
is_gcc Cl = false
is_gcc ClangCl = false
is_gcc Diab = false
is_gcc Tasking = false

abbrev pub is_clang : Compiler → Bool
is_clang Gcc = false
is_clang Gxx = false
is_clang Clang = true
is_clang Clangxx = true
is_clang Cl = false
is_clang ClangCl = false
is_clang Diab = false
is_clang Tasking = false

-- a driver that says by `-###` what it would run
abbrev pub has_plan : Compiler → Bool
has_plan Gcc = true
has_plan Gxx = true
has_plan Clang = true
has_plan Clangxx = true
has_plan Cl = false
has_plan ClangCl = true
has_plan Diab = false
has_plan Tasking = false

-- a compiler whose command leaves out the words about dependencies: a run of the preprocessor writes that file
abbrev pub notes_by_runs : Compiler → Bool
notes_by_runs Gcc = false
notes_by_runs Gxx = false
notes_by_runs Clang = false
notes_by_runs Clangxx = false
notes_by_runs Cl = false
notes_by_runs ClangCl = false
notes_by_runs Diab = true
notes_by_runs Tasking = true

-- variables that decide, and that neither a plan nor a run shows: those of the messages' language and look
abbrev pub gcc_variables : List (List ℕ)
gcc_variables =
    codes "LC_ALL"
    ∷ codes "LC_CTYPE"
    ∷ codes "LC_MESSAGES"
    ∷ codes "LANG"
    ∷ codes "LANGUAGE"
    ∷ codes "GCC_COLORS"
    ∷ codes "GCC_URLS"
    ∷ codes "TERM_URLS"
    ∷ codes "GCC_EXTRA_DIAGNOSTIC_OUTPUT"
    ∷ []

-- those of a compiler
abbrev pub variables : Compiler → List (List ℕ)
variables Gcc = gcc_variables
variables Gxx = gcc_variables
variables Clang = []
variables Clangxx = []
variables Cl = codes "VSLANG" ∷ []
variables ClangCl = []
variables Diab = []
variables Tasking = []

-- variables by which a file is written that no row names, or that add words: where one is set, nothing is kept
abbrev pub unset_variables : Compiler → List (List ℕ)
unset_variables Gcc = codes "DEPENDENCIES_OUTPUT" ∷ codes "SUNPRO_DEPENDENCIES" ∷ []
unset_variables Gxx = codes "DEPENDENCIES_OUTPUT" ∷ codes "SUNPRO_DEPENDENCIES" ∷ []
unset_variables Clang = codes "CC_PRINT_OPTIONS" ∷ codes "CC_PRINT_HEADERS" ∷ codes "CC_LOG_DIAGNOSTICS" ∷ codes "CC_PRINT_PROC_STAT" ∷ codes "CCC_OVERRIDE_OPTIONS" ∷ []
unset_variables Clangxx = codes "CC_PRINT_OPTIONS" ∷ codes "CC_PRINT_HEADERS" ∷ codes "CC_LOG_DIAGNOSTICS" ∷ codes "CC_PRINT_PROC_STAT" ∷ codes "CCC_OVERRIDE_OPTIONS" ∷ []
unset_variables Cl = codes "CL" ∷ codes "_CL_" ∷ []
unset_variables ClangCl = codes "CL" ∷ codes "_CL_" ∷ codes "CC_PRINT_OPTIONS" ∷ codes "CC_PRINT_HEADERS" ∷ codes "CC_LOG_DIAGNOSTICS" ∷ codes "CC_PRINT_PROC_STAT" ∷ codes "CCC_OVERRIDE_OPTIONS" ∷ []
unset_variables Diab = codes "DFLAGS" ∷ []
unset_variables Tasking = codes "CCTCOPT" ∷ []

-- variables that name folders in which headers are searched, and so what is compiled of them beforehand
abbrev pub folder_variables : List (List ℕ)
folder_variables = codes "CPATH" ∷ codes "C_INCLUDE_PATH" ∷ codes "CPLUS_INCLUDE_PATH" ∷ codes "OBJC_INCLUDE_PATH" ∷ []
