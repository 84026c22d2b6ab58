use Rattle.std.proofs.Common.{◌≡◌, ◌++◌, [], ◌∷◌, take}
use Rattle.std.specs.List.{flat_map}
use Rattle.scl_shell.specs.Quoted.{in_quotes}
use Rattle.scl_shell.proofs.quote.push_single_quoted.Given as goal

abbrev pub invariant-loop-byte : goal.invariant-loop-byte
invariant-loop-byte l = l.text.items ≡ (l.fn.text.items ++ 39 ∷ []) ++ flat_map in_quotes (take l.byte-index l.word)
