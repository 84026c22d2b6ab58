use Rattle.std.proofs.Common.{◌≡◌, ◌++◌}
use Rattle.scl_values.specs.Words.{words_of}
use Rattle.scl_text.specs.Records.{archs, second_words}
use Rattle.scl_text.proofs.ArchLemmas.{new_words}
use Rattle.scl_text.proofs.records.ParsedArguments.archs.Given as goal

abbrev pub invariant-loop-word : goal.invariant-loop-word
invariant-loop-word l = words_of l.words.items ++ new_words (words_of l.words.items) (second_words (words_of l.word-iterator.0.now)) ≡ archs (words_of l.self.arch_args.items)
