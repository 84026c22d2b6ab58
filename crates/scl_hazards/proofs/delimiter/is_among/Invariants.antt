use Rattle.std.proofs.Common.{◌≡◌, drop}
use Rattle.std.specs.List.{list_any}
use Rattle.scl_values.specs.Words.{words_of}
use Rattle.scl_hazards.specs.Options.{is_delimited}
use Rattle.scl_hazards.proofs.delimiter.is_among.Given as goal

abbrev pub invariant-loop-word : goal.invariant-loop-word
invariant-loop-word l = list_any (is_delimited l.flag l.delimiter) (words_of (drop l.word-index l.words)) ≡ list_any (is_delimited l.flag l.delimiter) (words_of l.words)
