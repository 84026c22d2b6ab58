use Rattle.std.proofs.Common.{◌≡◌, ◌++◌, take}
use Rattle.std.specs.String.{string_bytes}
use Rattle.scl_values.specs.Escaped.{quoted_behind}
use Rattle.scl_values.specs.Words.{words_of}
use Rattle.scl_values.proofs.escaped.push_behind.Given as goal

abbrev pub invariant-loop-word : goal.invariant-loop-word
invariant-loop-word l = string_bytes l.text ≡ string_bytes l.initial.text ++ quoted_behind (words_of (take l.word-index l.words))
