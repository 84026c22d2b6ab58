-- Which command lines are within limits, response files put in place.
use Rattle.std.specs.Prelude.{◌≡◌, ℕ, ◌&&◌, ◌/◌, min, nat_le, Bool, true, false, List, [], ◌∷◌, length, Result, Ok}
use Rattle.scl_args.specs.Options.{texts}
use Rattle.scl_files.specs.declared.expand.ExpansionKind.{ExpansionKind}
use Rattle.scl_files.specs.declared.expand.ExpansionKind.TheVariants as expansions
use Rattle.scl_files.specs.declared.expand.Limits.{Limits}
use Rattle.scl_files.specs.Expand.{expand}
use Rattle.scl_files.specs.Openings.{is_expanded_within}
use Rattle.scl_files.specs.Within.{is_within}
use Rattle.scl_gnu_reading.specs.ClangRows.{clang_tables}
use Rattle.scl_gnu_reading.specs.GccRows.{gcc_rows}
use Rattle.scl_gnu_reading.specs.Kinds.{of}
use Rattle.scl_gnu_reading.specs.Reads.{is_inner_within}
use Rattle.scl_gnu_reading.specs.Verdicts.{verdict}
use Rattle.scl_gnu_reading.specs.declared.gcc.data.Kind.{Kind}
use Rattle.scl_gnu_reading.specs.declared.gcc.data.Kind.TheVariants as kind
use Rattle.scl_msvc.specs.Reads.{is_surrounded_within}
use Rattle.scl_text.specs.JudgedWords.{judged_words}
use Rattle.scl_text.specs.Records.{Verdict}
use Rattle.scl_text.specs.declared.records.CCompilerKind.{CCompilerKind}
use Rattle.scl_text.specs.declared.records.CCompilerKind.TheVariants as kinds
use Rattle.scl_values.specs.Row.{Row}
use Rattle.scl_values.specs.Seen.{Seen}
use Rattle.scl_reader.specs.CommandLines.{Given, Request, given_in}
use Rattle.scl_reader.specs.Reads.{expanded}
use Rattle.scl_reader.specs.declared.compiler.Compiler.{Compiler}
use Rattle.scl_reader.specs.declared.compiler.Compiler.TheVariants as compilers

-- whether the words of a line are within the limits, with response files of the kind put in place
abbrev pub is_line_within : Limits → ExpansionKind → Given → Bool
is_line_within most kind g = is_expanded_within most kind g.directory g.view.files g.words

-- whether those of a line to Gcc or Clang are, and those of its inner line
abbrev pub is_gnu_within : Limits → CCompilerKind → List (List (Row Kind)) → Given → Bool
is_gnu_within most kind tables g = is_line_within most expansions.Gnu g && is_inner_within most kind tables g.directory g.view (expanded expansions.Gnu g)

-- whether each line of a command line, given and inner, is within the limits
abbrev pub has_at_most_by : Limits → Compiler → Given → Bool
has_at_most_by most compilers.Gcc g = is_gnu_within most kinds.Gcc (gcc_rows ∷ []) g
has_at_most_by most compilers.Gxx g = is_gnu_within most kinds.Gcc (gcc_rows ∷ []) g
has_at_most_by most compilers.Clang g = is_gnu_within most kinds.Clang clang_tables g
has_at_most_by most compilers.Clangxx g = is_gnu_within most kinds.Clang clang_tables g
has_at_most_by most compilers.Cl g = is_surrounded_within most false g.directory g.environment g.view g.words
has_at_most_by most compilers.ClangCl g = is_surrounded_within most true g.directory g.environment g.view g.words
has_at_most_by most compilers.Diab g = is_line_within most expansions.Diab g
has_at_most_by most compilers.Tasking g = is_within most g.words

-- the limits in a directory: each word may be a path that is written behind it, and all of these are within the bytes
abbrev pub in_directory : Limits → List ℕ → Limits
in_directory most [] = most
in_directory most (byte ∷ directory) = record { words = min most.words (most.bytes / length (byte ∷ directory)); bytes = most.bytes }

-- whether a request is within the limits in its directory
abbrev pub has_at_most : Limits → Request → Bool
has_at_most most request = has_at_most_by (in_directory most request.directory) request.compiler (given_in request)

-- ---- a law

-- whether the compiler is a driver of Clang that takes Gcc's options
abbrev pub is_clang_driver : Compiler → Bool
is_clang_driver compilers.Gcc = false
is_clang_driver compilers.Gxx = false
is_clang_driver compilers.Clang = true
is_clang_driver compilers.Clangxx = true
is_clang_driver compilers.Cl = false
is_clang_driver compilers.ClangCl = false
is_clang_driver compilers.Diab = false
is_clang_driver compilers.Tasking = false

-- the options of a request to Clang, where none is refused
abbrev pub clang_options : Request → Result (List (Seen Kind)) Verdict
clang_options request = judged_words expansions.Gnu (verdict request.view.is_multiarch) clang_tables true request.directory request.view request.words

-- the inner command line that options pass on, with response files put in place
abbrev pub handed_on : Request → List (Seen Kind) → List (List ℕ)
handed_on request options = expand expansions.Gnu request.directory request.view.files (texts (of (kind.XClang ∷ [])) options)

-- where the given line of a request to Clang has at most n words, so has the inner one, if no option is refused
abbrev pub ClangInnerIsWithin : Type 0
ClangInnerIsWithin = (most : ℕ) (request : Request) (options : List (Seen Kind)) → is_clang_driver request.compiler ≡ true
    → nat_le (length (expand expansions.Gnu request.directory request.view.files request.words)) most ≡ true
    → clang_options request ≡ Ok options → nat_le (length (handed_on request options)) most ≡ true
