-- The answer that a reading gives.
use Rattle.std.proofs.Common.{◌≡◌, sym, Result, Ok, Err, IfOk}
use Rattle.scl_text.specs.declared.records.ParsedArguments.{ParsedArguments}
use Rattle.scl_text.specs.declared.refusal.Refusal.TheVariants as refusals
use Rattle.scl_text.specs.declared.stop.Stop.{Stop}
use Rattle.scl_text.specs.declared.stop.Stop.TheVariants as stops
use Rattle.scl_text.specs.Records.{Parsed, Verdict, parsed_of, outcome_of}
use Rattle.scl_text.specs.Stops.{Gives, answer_to}

-- the result of a reading is the outcome of its answer
pub outcome_given : (read : Result ParsedArguments Stop) (said : Result Parsed Verdict) → Gives parsed_of read said → IfOk (answer_to read) (λ answer. outcome_of answer ≡ said)
outcome_given (Ok parsed) said gives = sym gives
outcome_given (Err (stops.Refused (refusals.CannotCache reason text))) said gives = sym gives
outcome_given (Err (stops.Refused refusals.NotCompilation)) said gives = sym gives
outcome_given (Err stops.Memory) said gives = gives
