-- What an answer that is no command says of its record: there is none.
use Rattle.std.proofs.Common.{◌≡◌, ℕ, true, List, Option, None, Some, Result, Ok, Err, refl, ap, sym, subst}
use Rattle.std.specs.Prelude.{is_some}
use Rattle.std.specs.Result.{result_ok}
use Rattle.scl_text.specs.Records.{Parsed, Verdict}
use Rattle.scl_text.specs.declared.records.Cacheable.{Cacheable}
use Rattle.scl_text.specs.declared.records.CompilerArguments.{CompilerArguments}
use Rattle.scl_text.specs.declared.records.CompilerArguments.TheVariants as outcomes
use Rattle.scl_reader.specs.declared.compilation.Compilation.{Compilation}
use Rattle.scl_reader.specs.CommandLines.{Request, given_in}
use Rattle.scl_reader.specs.Answers.{Answer, compiled, cannot_cache, not_compilation, answer_with, answer_from, answer_to, command_by, kept_by, reading_by}
use Rattle.scl_reader.specs.AnswersGiven.{record_given, IsAnswerBy}
use Rattle.scl_reader.specs.Definitions.{definitions_of}
use Rattle.scl_reader.proofs.AgainLaws.{have-commands}

abbrev IsNone : Answer → Type 0
IsNone (compiled words kept) = ⊥
IsNone (cannot_cache reason beside) = Unit {0}
IsNone not_compilation = Unit {0}

-- nothing was read
abbrev HasNoRecord : Result Parsed Verdict → Type 0
HasNoRecord (Ok p) = ⊥
HasNoRecord (Err v) = Unit {0}

given-none : (o : Option (List (List ℕ))) (kept : Cacheable) → is_some o ≡ true → IsNone (answer_with o kept) → ⊥
given-none None kept e n = cc
given-none (Some words) kept e n = n

no-record : (command : Parsed → Option (List (List ℕ))) (kept : Parsed → Cacheable) (r : Result Parsed Verdict) → ((p : Parsed) → r ≡ Ok p → is_some (command p) ≡ true)
    → IsNone (answer_from command kept r) → HasNoRecord r
no-record command kept (Ok p) h n = given-none (command p) (kept p) (h p refl) n
no-record command kept (Err v) h n = tt

no-record-read : (r : Request) → IsNone (answer_to r) → HasNoRecord (reading_by r.compiler r)
no-record-read r n = no-record (command_by r.compiler) (kept_by r.compiler r) (reading_by r.compiler r) (λ p e. have-commands r.compiler r p e) n

none-read : (r : Result Parsed Verdict) → HasNoRecord r → None ≡ result_ok r
none-read (Ok p) n = absurd n
none-read (Err v) n = refl

module _ (request : Request) (executable : List ℕ) where
  abbrev IsAnswer : CompilerArguments Compilation → Type 0
  IsAnswer = IsAnswerBy (definitions_of request.compiler) executable (given_in request)

  abbrev said : Result Parsed Verdict
  said = reading_by request.compiler request

  pub record_is_given : (answer : CompilerArguments Compilation) → IsAnswer answer → record_given answer ≡ result_ok said
  record_is_given (outcomes.Ok compilation) is = sym (ap result_ok is.has_parts.0)
  record_is_given (outcomes.CannotCache reason text) is = none-read said (no-record-read request (subst IsNone is.answer_is tt))
  record_is_given outcomes.NotCompilation is = none-read said (no-record-read request (subst IsNone is.answer_is tt))
