-- The members that an object of JSON has first, even if it has no row of their names.
use Rattle.std.specs.Prelude.{ℕ, List, [], ◌∷◌, codes, map}
use Rattle.std.specs.Borrow.{Bor}
use Rattle.scl_text.specs.declared.records.CompilerArguments.{CompilerArguments}
use Rattle.scl_text.specs.declared.records.CompilerArguments.TheVariants as outcomes
use Rattle.scl_reader.specs.declared.compilation.Compilation.{Compilation}

abbrev pub texts : List (Bor (List ℕ)) → List (List ℕ)
texts names = map (λ name. name.now) names

-- where there is a command
unfoldable pub command : List (List ℕ)
command =
    codes "version" ∷ codes "ok" ∷ codes "cacheable" ∷ codes "arg" ∷ codes "run" ∷ codes "input" ∷ codes "language" ∷
    codes "compilation-flag" ∷ codes "double-dash-input" ∷ codes "output" ∷ codes "depfile" ∷ codes "dependency" ∷
    codes "preprocessor" ∷ codes "common" ∷ codes "arch" ∷ codes "unhashed" ∷ codes "dist" ∷ codes "hash" ∷
    codes "external-assembler" ∷ codes "show-includes" ∷ codes "explicit-language" ∷ codes "profile-generate" ∷
    codes "color" ∷ codes "no-rewrite-includes-only" ∷ codes "too-hard" ∷ codes "environment" ∷ codes "hazard" ∷
    codes "danger" ∷ codes "option" ∷ codes "wants" ∷ codes "response-file" ∷ codes "missing-file" ∷ []

-- where the result can't be cached
unfoldable pub refusal : List (List ℕ)
refusal =
    codes "version" ∷ codes "cannot-cache" ∷ codes "reason" ∷ codes "because" ∷ codes "sentence" ∷ codes "option" ∷
    codes "wants" ∷ codes "response-file" ∷ codes "missing-file" ∷ []

-- where nothing is compiled
unfoldable pub nothing : List (List ℕ)
nothing =
    codes "version" ∷ codes "not-compilation" ∷ codes "nothing" ∷ codes "option" ∷ codes "wants" ∷
    codes "response-file" ∷ codes "missing-file" ∷ []

abbrev pub firsts_by : CompilerArguments Compilation → List (List ℕ)
firsts_by (outcomes.Ok compilation) = command
firsts_by (outcomes.CannotCache reason text) = refusal
firsts_by outcomes.NotCompilation = nothing

-- where an entry of a database has no answer
abbrev pub error : List (List ℕ)
error = codes "version" ∷ codes "entry" ∷ codes "error" ∷ []
