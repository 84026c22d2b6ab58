use Rattle.std.proofs.Common.{◌≡◌, ◌++◌, drop}
use Rattle.scl_values.specs.Words.{words_of}
use Rattle.scl_text.specs.Records.{distinct_words}
use Rattle.scl_text.proofs.ArchLemmas.{new_words}
use Rattle.scl_json.proofs.json.distinct.Given as goal

abbrev pub invariant-loop-word : goal.invariant-loop-word
invariant-loop-word l = words_of l.names.items ++ new_words (words_of l.names.items) (words_of (drop l.word-index l.words)) ≡ distinct_words (words_of l.words)
