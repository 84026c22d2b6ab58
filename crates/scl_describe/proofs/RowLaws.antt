-- The rows of a request say what it says, and share its words.
use Rattle.std.proofs.Common.{◌≡◌, ℕ, Bool, true, false, List, [], ◌∷◌, ◌++◌, codes, Result, Ok, Err, length, refl, subst}
use Rattle.scl_files.specs.Expanded.{standing}
use Rattle.scl_files.specs.Sources.{indices}
use Rattle.scl_files.specs.declared.expand.ExpansionKind.TheVariants as expansions
use Rattle.scl_gnu_reading.specs.ClangRows.{clang_tables}
use Rattle.scl_gnu_reading.specs.GccRows.{gcc_rows}
use Rattle.scl_msvc.specs.Environment.{surroundings}
use Rattle.scl_msvc.specs.Reads.{expanded_between, read_by_both}
use Rattle.scl_rows.proofs.GnuTells.{gnu-given, gnu-tells}
use Rattle.scl_rows.proofs.MsvcTells.{msvc-given, msvc-tells}
use Rattle.scl_rows.proofs.SmallTells.{small-given, small-tells}
use Rattle.scl_kinds.specs.KindNames.{diab_kind_name, tasking_kind_name}
use Rattle.scl_rows.specs.MsvcRows.{msvc_rows}
use Rattle.scl_rows.specs.Rows.{Tells, words_given}
use Rattle.scl_small.specs.DiabReading as diab
use Rattle.scl_small.specs.DiabTable as diab_table
use Rattle.scl_small.specs.TaskingReading as tasking
use Rattle.scl_small.specs.TaskingTable as tasking_table
use Rattle.scl_text.specs.Records.{Verdict}
use Rattle.scl_text.specs.declared.records.CCompilerKind.TheVariants as kinds
use Rattle.scl_values.specs.Tables.{owner_in}
use Rattle.scl_reader.proofs.ReadLaws.{readings-say}
use Rattle.scl_reader.specs.CommandLines.{Given, given_in}
use Rattle.scl_reader.specs.Reads.{expanded, outcome_in, read_by}
use Rattle.scl_reader.specs.declared.compiler.Compiler.{Compiler}
use Rattle.scl_reader.specs.declared.compiler.Compiler.TheVariants as compilers
use Rattle.scl_describe.specs.OptionRows.{RowsShareWords, RowsTell, rows_by, rows_in, words_in}

-- ---- between the words of an environment

module _ (is_clang : Bool) (g : Given) where
  between-tells : (r : Result (List (List ℕ) × List (List ℕ)) Verdict) → let read = read_by_both is_clang g.directory g.view g.words r in Tells (msvc_rows read) read.outcome
  between-tells (Ok both) = msvc-tells is_clang g.directory g.view (both.0 ++ both.1) (expanded_between g.directory g.view g.words both)
  between-tells (Err broken) = record { refused = tt; lists = tt }

  between-given : (r : Result (List (List ℕ) × List (List ℕ)) Verdict) → let read = read_by_both is_clang g.directory g.view g.words r in
      words_given (msvc_rows read) ≡ read.outer.words ++ read.xclang.words ++ read.clang.words
  between-given (Ok both) = msvc-given is_clang g.directory g.view (both.0 ++ both.1) (expanded_between g.directory g.view g.words both)
  between-given (Err broken) = refl

-- ---- by each compiler

tells : (c : Compiler) (g : Given) → Tells (rows_in (read_by c g)) (outcome_in (read_by c g))
tells compilers.Gcc g = gnu-tells kinds.Gcc false (gcc_rows ∷ []) g.directory g.view (expanded expansions.Gnu g)
tells compilers.Gxx g = gnu-tells kinds.Gcc true (gcc_rows ∷ []) g.directory g.view (expanded expansions.Gnu g)
tells compilers.Clang g = gnu-tells kinds.Clang false clang_tables g.directory g.view (expanded expansions.Gnu g)
tells compilers.Clangxx g = gnu-tells kinds.Clang true clang_tables g.directory g.view (expanded expansions.Gnu g)
tells compilers.Cl g = between-tells false g (surroundings g.environment)
tells compilers.ClangCl g = between-tells true g (surroundings g.environment)
tells compilers.Diab g = small-tells diab_kind_name diab.place diab.verdict (λ flag. flag) (owner_in (diab_table.rows ∷ [])) (expanded expansions.Diab g)
tells compilers.Tasking g = small-tells tasking_kind_name tasking.place tasking.verdict (λ flag. codes "-c") (owner_in (tasking_table.rows ∷ [])) (standing g.words (indices (length g.words)))

given : (c : Compiler) (g : Given) → words_given (rows_in (read_by c g)) ≡ words_in (read_by c g)
given compilers.Gcc g = gnu-given kinds.Gcc false (gcc_rows ∷ []) g.directory g.view (expanded expansions.Gnu g)
given compilers.Gxx g = gnu-given kinds.Gcc true (gcc_rows ∷ []) g.directory g.view (expanded expansions.Gnu g)
given compilers.Clang g = gnu-given kinds.Clang false clang_tables g.directory g.view (expanded expansions.Gnu g)
given compilers.Clangxx g = gnu-given kinds.Clang true clang_tables g.directory g.view (expanded expansions.Gnu g)
given compilers.Cl g = between-given false g (surroundings g.environment)
given compilers.ClangCl g = between-given true g (surroundings g.environment)
given compilers.Diab g = small-given diab_kind_name diab.place diab.verdict (λ flag. flag) (diab_table.rows ∷ []) (expanded expansions.Diab g)
given compilers.Tasking g = small-given tasking_kind_name tasking.place tasking.verdict (λ flag. codes "-c") (tasking_table.rows ∷ []) (standing g.words (indices (length g.words)))

pub rows-tell : RowsTell
rows-tell request = subst (Tells (rows_by request)) (readings-say request).outcome (tells request.compiler (given_in request))

pub rows-share : RowsShareWords
rows-share request = given request.compiler (given_in request)
