use Rattle.std.proofs.Common.{◌≡◌, ◌++◌, take, map}
use Rattle.std.specs.List.{filter_map}
use Rattle.scl_values.specs.Words.{words_of}
use Rattle.scl_key.specs.Made.{joined_file}
use Rattle.scl_key.proofs.made.push_joined.Given as goal

abbrev pub invariant-loop-word : goal.invariant-loop-word
invariant-loop-word l = map (λ v. v.now) l.files.items ≡ map (λ v. v.now) l.initial.files.items ++ filter_map joined_file (words_of (take l.word-index l.words))
