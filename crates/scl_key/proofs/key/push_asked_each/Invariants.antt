use Rattle.std.proofs.Common.{◌≡◌, ◌++◌, take}
use Rattle.scl_values.specs.Words.{words_of}
use Rattle.scl_key.specs.Views.{parts_of}
use Rattle.scl_key.specs.Keys.{asked_each}
use Rattle.scl_key.proofs.key.push_asked_each.Given as goal

abbrev pub invariant-loop-name : goal.invariant-loop-name
invariant-loop-name l = parts_of l.parts.items ≡ parts_of l.initial.parts.items ++ asked_each l.ask (words_of (take l.name-index l.names))
