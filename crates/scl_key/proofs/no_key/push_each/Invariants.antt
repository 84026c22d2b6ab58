use Rattle.std.proofs.Common.{◌≡◌, ◌++◌, take, map}
use Rattle.scl_values.specs.Words.{words_of}
use Rattle.scl_key.specs.Views.{no_keys_of}
use Rattle.scl_key.specs.Keys.{no_key}
use Rattle.scl_key.proofs.no_key.push_each.Given as goal

abbrev pub invariant-loop-word : goal.invariant-loop-word
invariant-loop-word l = no_keys_of l.why.items ≡ no_keys_of l.initial.why.items ++ map (no_key l.reason) (words_of (take l.word-index l.words))
