-- Refusals as contracts see them, and the fixed tests that parsers share.
use Rattle.std.specs.Prelude.{ℕ, List, [], ◌∷◌, Result, Ok, Err}
use Rattle.std.specs.Option.{option_map}
use Rattle.std.specs.String.{string_bytes}
use Rattle.scl_text.specs.declared.records.CompilerArguments.{CompilerArguments}
use Rattle.scl_text.specs.declared.records.CompilerArguments.TheVariants as answers
use Rattle.scl_text.specs.declared.records.ParsedArguments.{ParsedArguments}
use Rattle.scl_text.specs.declared.refusal.Refusal.{Refusal}
use Rattle.scl_text.specs.declared.refusal.Refusal.TheVariants as refusals
use Rattle.scl_text.specs.Reasons.{no_input_file, multiple_input_files}
use Rattle.scl_text.specs.Records.{Verdict, CannotCache, NotCompilation, because}

-- why a command line is refused
abbrev pub verdict_of : Refusal → Verdict
verdict_of (refusals.CannotCache reason text) = CannotCache reason.now (option_map string_bytes text)
verdict_of refusals.NotCompilation = NotCompilation

-- the verdict without the text beside its reason
abbrev pub without_text : Verdict → Verdict
without_text (CannotCache reason beside) = because reason
without_text NotCompilation = NotCompilation

-- the answer that a refusal is
abbrev pub answer_of : Refusal → CompilerArguments ParsedArguments
answer_of (refusals.CannotCache reason text) = answers.CannotCache reason text
answer_of refusals.NotCompilation = answers.NotCompilation

-- the only input; several are refused, with those after the first beside the reason
abbrev pub the_input : List (List ℕ) → Result (List ℕ) Verdict
the_input [] = Err no_input_file
the_input (input ∷ []) = Ok input
the_input (input ∷ other ∷ inputs) = Err (multiple_input_files (other ∷ inputs))
