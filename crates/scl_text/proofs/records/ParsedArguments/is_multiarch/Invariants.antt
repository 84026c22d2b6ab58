use Rattle.std.proofs.Common.{◌≡◌, ◌∷◌}
use Rattle.scl_values.specs.Words.{words_of}
use Rattle.scl_text.specs.Records.{archs, second_words, distinct_words}
use Rattle.scl_text.proofs.records.ParsedArguments.is_multiarch.Given as goal

abbrev pub invariant-loop-word : goal.invariant-loop-word
invariant-loop-word l = distinct_words (l.first ∷ second_words (words_of l.word-iterator.0.now)) ≡ archs (words_of l.self.arch_args.items)
