use Rattle.std.proofs.Common.{◌≡◌, drop}
use Rattle.std.specs.List.{list_any}
use Rattle.scl_values.specs.Words.{words_of}
use Rattle.scl_describe.specs.Keepings.{names_response_file}
use Rattle.scl_describe.proofs.keeping.names_response_file.Given as goal

abbrev pub invariant-loop-word : goal.invariant-loop-word
invariant-loop-word l = list_any names_response_file (words_of (drop l.word-index l.words)) ≡ list_any names_response_file (words_of l.words)
