use Rattle.std.proofs.Common.{◌≡◌, ◌++◌, take}
use Rattle.std.specs.List.{flat_map}
use Rattle.scl_values.specs.Words.{words_of}
use Rattle.scl_explain.specs.CommandTexts.{ended_by_nul}
use Rattle.scl_explain.proofs.words.words_ended_by_nul.Given as goal

abbrev pub invariant-loop-word : goal.invariant-loop-word
invariant-loop-word l = l.text.items ≡ l.initial.text.items ++ flat_map ended_by_nul (words_of (take l.word-index l.words))
