-- The result of a step of a reading: a value, a refusal, or a failed allocation.
use Rattle.std.specs.Prelude.{◌≡◌, ⊤, Result, Ok, Err, alloc_error}
use Rattle.std.specs.declared.alloc.AllocError.{AllocError}
use Rattle.scl_text.specs.declared.records.CompilerArguments.{CompilerArguments}
use Rattle.scl_text.specs.declared.records.CompilerArguments.TheVariants as answers
use Rattle.scl_text.specs.declared.records.ParsedArguments.{ParsedArguments}
use Rattle.scl_text.specs.declared.stop.Stop.{Stop}
use Rattle.scl_text.specs.declared.stop.Stop.TheVariants as stops
use Rattle.scl_text.specs.Records.{Verdict}
use Rattle.scl_text.specs.Refusals.{verdict_of, answer_of}

-- the step gives what the definition says; `see` shows its value; a failed allocation says nothing
abbrev pub Gives : {T A : Type 0} → (T → A) → Result T Stop → Result A Verdict → Type 0
Gives see (Ok value) said = said ≡ Ok (see value)
Gives see (Err (stops.Refused refusal)) said = said ≡ Err (verdict_of refusal)
Gives see (Err stops.Memory) said = ⊤

-- the answer of a reading: its record or its refusal
abbrev pub answer_to : Result ParsedArguments Stop → Result (CompilerArguments ParsedArguments) AllocError
answer_to (Ok parsed) = Ok (answers.Ok parsed)
answer_to (Err (stops.Refused refusal)) = Ok (answer_of refusal)
answer_to (Err stops.Memory) = Err alloc_error
