use Rattle.std.proofs.Common.{◌≡◌, drop, is_some}
use Rattle.std.specs.List.{list_any}
use Rattle.scl_values.specs.Words.{words_of}
use Rattle.scl_key.specs.Made.{joined_file}
use Rattle.scl_key.proofs.runs.names_joined.Given as goal

abbrev pub invariant-loop-word : goal.invariant-loop-word
invariant-loop-word l = list_any (λ word. is_some (joined_file word)) (words_of (drop l.word-index l.words)) ≡ list_any (λ word. is_some (joined_file word)) (words_of l.words)
