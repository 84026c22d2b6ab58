use Rattle.std.proofs.Common.{◌≡◌, drop}
use Rattle.scl_values.specs.Words.{words_of}
use Rattle.scl_driver_texts.specs.Otherwise.{splits_otherwise}
use Rattle.scl_driver_texts.proofs.otherwise.splits_otherwise.Given as goal

abbrev pub invariant-loop-text : goal.invariant-loop-text
invariant-loop-text l = splits_otherwise l.splitter l.kind (words_of (drop l.text-index l.texts)) ≡ splits_otherwise l.splitter l.kind (words_of l.texts)
