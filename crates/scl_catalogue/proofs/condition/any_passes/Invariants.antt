use Rattle.std.proofs.Common.{◌≡◌, drop}
use Rattle.std.specs.List.{list_any}
use Rattle.scl_values.specs.Words.{words_of}
use Rattle.scl_catalogue.specs.Found.{passes}
use Rattle.scl_catalogue.specs.Views.{text_of}
use Rattle.scl_catalogue.proofs.condition.any_passes.Given as goal

abbrev pub invariant-loop-word : goal.invariant-loop-word
invariant-loop-word l = list_any (passes (text_of l.text)) (words_of (drop l.word-index l.words)) ≡ list_any (passes (text_of l.text)) (words_of l.words)
