use Rattle.std.proofs.Common.{◌≡◌, ◌++◌, take}
use Rattle.std.specs.List.{flat_map}
use Rattle.scl_values.specs.Words.{words_of}
use Rattle.scl_key.specs.Runs.{noted_handed}
use Rattle.scl_key.proofs.runs.push_all_handed.Given as goal

abbrev pub invariant-loop-word : goal.invariant-loop-word
invariant-loop-word l = words_of l.noted.items ≡ words_of l.initial.noted.items ++ flat_map noted_handed (words_of (take l.word-index l.words))
