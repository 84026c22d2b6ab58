use Rattle.std.proofs.Common.{◌≡◌, ◌++◌, [], ◌∷◌, take}
use Rattle.std.specs.List.{flat_map}
use Rattle.scl_shell.specs.Shown.{in_dollar_quotes}
use Rattle.scl_shell.proofs.visible.push_dollar_quoted.Given as goal

abbrev pub invariant-loop-byte : goal.invariant-loop-byte
invariant-loop-byte l = l.text.items ≡ (l.fn.text.items ++ 36 ∷ 39 ∷ []) ++ flat_map in_dollar_quotes (take l.byte-index l.word)
