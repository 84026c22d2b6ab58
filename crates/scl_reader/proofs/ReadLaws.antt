-- A reading is by the compiler of the request, and says what the words say; its answer is that to the request.
use Rattle.std.proofs.Common.{◌≡◌, ℕ, true, false, List, [], ◌∷◌, length, refl, ap, sym, subst, ◌∙◌}
use Rattle.scl_files.specs.Expanded.{standing}
use Rattle.scl_files.specs.Sources.{indices}
use Rattle.scl_files.specs.declared.expand.ExpansionKind.TheVariants as expansions
use Rattle.scl_gnu_reading.proofs.ReadLaws as gnu
use Rattle.scl_gnu_reading.specs.ClangRows.{clang_tables}
use Rattle.scl_gnu_reading.specs.GccRows.{gcc_rows}
use Rattle.scl_msvc.proofs.ReadLaws.{surrounded-by, surrounded-says}
use Rattle.scl_small.proofs.ReadLaws as small
use Rattle.scl_small.specs.DiabReading as diab
use Rattle.scl_small.specs.DiabTable as diab_table
use Rattle.scl_small.specs.TaskingReading as tasking
use Rattle.scl_small.specs.TaskingTable as tasking_table
use Rattle.scl_text.specs.declared.records.CCompilerKind.TheVariants as kinds
use Rattle.scl_text.specs.declared.records.CompilerArguments.{CompilerArguments}
use Rattle.scl_values.specs.Tables.{owner_in}
use Rattle.scl_reader.specs.declared.compilation.Compilation.{Compilation}
use Rattle.scl_reader.specs.declared.compiler.Compiler.{Compiler}
use Rattle.scl_reader.specs.declared.compiler.Compiler.TheVariants as compilers
use Rattle.scl_reader.specs.declared.reading.Reading.{Reading}
use Rattle.scl_reader.specs.Answers.{answer_to, environment_by, read_again_by, reading_by}
use Rattle.scl_reader.specs.AnswersGiven.{AnswersReading, HasParts, IfCompiled, IsAnswerBy, answer_of}
use Rattle.scl_reader.specs.CommandLines.{Given, Request, asked_for, given_in}
use Rattle.scl_reader.specs.Definitions.{definitions_of}
use Rattle.scl_reader.specs.Reads.{IsReadBy, ReadingsSay, compiler_of, expanded, outcome_in, read_by, read_of}

by-compiler : (c : Compiler) (g : Given) → compiler_of (read_by c g) ≡ c
by-compiler compilers.Gcc g = refl
by-compiler compilers.Gxx g = refl
by-compiler compilers.Clang g = refl
by-compiler compilers.Clangxx g = refl
by-compiler compilers.Cl g = rw (surrounded-by false g.directory g.environment g.view g.words) refl
by-compiler compilers.ClangCl g = rw (surrounded-by true g.directory g.environment g.view g.words) refl
by-compiler compilers.Diab g = refl
by-compiler compilers.Tasking g = refl

says : (c : Compiler) (g : Given) → outcome_in (read_by c g) ≡ reading_by c (asked_for c g)
says compilers.Gcc g = gnu.outcome_read kinds.Gcc false (gcc_rows ∷ []) g.directory g.view g.words (indices (length g.words))
says compilers.Gxx g = gnu.outcome_read kinds.Gcc true (gcc_rows ∷ []) g.directory g.view g.words (indices (length g.words))
says compilers.Clang g = gnu.outcome_read kinds.Clang false clang_tables g.directory g.view g.words (indices (length g.words))
says compilers.Clangxx g = gnu.outcome_read kinds.Clang true clang_tables g.directory g.view g.words (indices (length g.words))
says compilers.Cl g = surrounded-says false g.directory g.environment g.view g.words
says compilers.ClangCl g = surrounded-says true g.directory g.environment g.view g.words
says compilers.Diab g = small.outcome_read diab.verdict diab.tested (owner_in (diab_table.rows ∷ [])) (expanded expansions.Diab g)
says compilers.Tasking g = small.outcome_read tasking.verdict tasking.tested (owner_in (tasking_table.rows ∷ [])) (standing g.words (indices (length g.words)))

pub readings-say : ReadingsSay
readings-say request = record { compiler = by-compiler request.compiler (given_in request); outcome = says request.compiler (given_in request) }

-- ---- answers

module _ (request : Request) (executable : List ℕ) (answer : CompilerArguments Compilation) where
  abbrev Answers : Reading → Type 0
  Answers reading = AnswersReading (definitions_of (compiler_of reading)) executable (outcome_in reading) request.directory request.environment request.view answer

  abbrev IsAnswer : Compiler → Type 0
  IsAnswer compiler = IsAnswerBy (definitions_of compiler) executable (given_in request) answer

  answer-read : (reading : Reading) → reading ≡ read_of request → Answers reading → IsAnswer request.compiler
  answer-read reading e h =
      let is : IsReadBy request = readings-say request in
      let here : Answers (read_of request) = subst Answers e h in
      subst IsAnswer is.compiler (here request.words (ap (λ c. reading_by c (asked_for c (given_in request))) is.compiler ∙ sym is.outcome))

  -- what the answer of a request's reading is
  pub record IsOf : Type 0 where
    pub is : answer_of answer ≡ answer_to request
    pub parts : HasParts (reading_by request.compiler request) executable (environment_by request.compiler request.environment) request.directory answer
    pub read_again : IfCompiled (read_again_by request.compiler request) answer

  pub answer_of_read : (reading : Reading) → reading ≡ read_of request → Answers reading → IsOf
  answer_of_read reading e h =
      let is : IsAnswer request.compiler = answer-read reading e h in
      record { is = is.answer_is; parts = is.has_parts; read_again = is.is_read_again }
