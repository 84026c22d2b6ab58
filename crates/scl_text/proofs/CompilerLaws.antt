use Rattle.std.proofs.Common.{◌≡◌, ℕ, List, Option, None, Some, Result, Ok, Err, refl, subst, sym}
use Rattle.std.specs.Option.{option_map}
use Rattle.std.specs.Prelude.{IfOk, IfSome}
use Rattle.scl_values.specs.Words.{words_of}
use Rattle.scl_text.specs.Commands.{command_by, object_of}
use Rattle.scl_text.specs.Compilers.{IsBuiltCommand, IfCommand}
use Rattle.scl_text.specs.Records.{Parsed, Verdict, outcome_of}
use Rattle.scl_text.specs.declared.records.CompilerArguments.{CompilerArguments}
use Rattle.scl_text.specs.declared.records.Cacheable.{Cacheable}
use Rattle.scl_text.specs.declared.records.ParsedArguments.{ParsedArguments}
use Rattle.scl_text.specs.declared.records.SingleCompileCommand.{SingleCompileCommand}
use Rattle.scl_files.specs.Views.{Viewed}

-- what holds of the command of a reading holds of that of an answer with this outcome
pub parsed-kept : {E : Type 0} (command : Parsed → Option (List (List ℕ))) (promise : Parsed → List (List ℕ) → Type 0) (said : Result Parsed Verdict) → IfCommand command promise said →
    (r : Result (CompilerArguments ParsedArguments) E) → IfOk r (λ answer. outcome_of answer ≡ said) → IfOk r (λ answer. IfCommand command promise (outcome_of answer))
parsed-kept command promise said kept (Ok answer) e = subst (IfCommand command promise) (sym e) kept
parsed-kept command promise said kept (Err e) h = tt

-- what holds of the command of a reading holds of the words that are built from its record
pub words-kept : (command : Parsed → Option (List (List ℕ))) (promise : Parsed → List (List ℕ) → Type 0) (said : Result Parsed Verdict) → IfCommand command promise said →
    (p : Parsed) (words : List (List ℕ)) → command p ≡ Some words → said ≡ Ok p → promise p words
words-kept command promise said kept p words w e =
    let at : IfSome (command p) (promise p) = subst (IfCommand command promise) e kept in
    let P : Option (List (List ℕ)) → Type 0 = λ o. IfSome o (promise p) in
    subst P w at

-- what holds of the command of each reading holds of the words that a builder gives
pub built-kept : {E : Type 0} (command : Parsed → Option (List (List ℕ))) (promise : List (List ℕ) → List ℕ → List (List ℕ × List ℕ) → Viewed → Parsed → List (List ℕ) → Type 0)
    (said : List (List ℕ) → List ℕ → List (List ℕ × List ℕ) → Viewed → Result Parsed Verdict) →
    ((words : List (List ℕ)) (directory : List ℕ) (pairs : List (List ℕ × List ℕ)) (view : Viewed) → IfCommand command (promise words directory pairs view) (said words directory pairs view)) →
    (p : Parsed) (executable : List ℕ) (env_vars : List (List ℕ × List ℕ)) (cwd : List ℕ) (cacheable : Cacheable) (r : Result (SingleCompileCommand × Cacheable) E) →
    IfOk r (λ answer. IsBuiltCommand answer.0 answer.1 (command p) executable env_vars cwd cacheable) →
    IfOk r (λ answer. (words : List (List ℕ)) (directory : List ℕ) (pairs : List (List ℕ × List ℕ)) (view : Viewed) →
    said words directory pairs view ≡ Ok p → promise words directory pairs view p (words_of answer.0.arguments.items))
built-kept command promise said kept p executable env_vars cwd cacheable (Ok answer) is = λ words directory pairs view e.
    words-kept command (promise words directory pairs view) (said words directory pairs view) (kept words directory pairs view) p (words_of answer.0.arguments.items) is.words_are e
built-kept command promise said kept p executable env_vars cwd cacheable (Err e) is = tt

-- what holds of the words for the object of a record holds of the command of a reading
module _ (words : Parsed → List ℕ → List (List ℕ)) (promise : Parsed → List ℕ → List (List ℕ) → Type 0) where
  for_object : (p : Parsed) (o : Option (List ℕ)) → ((object : List ℕ) → o ≡ Some object → promise p object (words p object)) →
      IfSome (option_map (words p) o) (λ command. IfSome o (λ object. promise p object command))
  for_object p None kept = tt
  for_object p (Some object) kept = kept object refl

  pub command-kept : (said : Result Parsed Verdict) → ((p : Parsed) (object : List ℕ) → said ≡ Ok p → object_of p ≡ Some object → promise p object (words p object)) →
      IfCommand (command_by words) (λ p command. IfSome (object_of p) (λ object. promise p object command)) said
  command-kept (Ok p) kept = for_object p (object_of p) (λ object o. kept p object refl o)
  command-kept (Err verdict) kept = tt
