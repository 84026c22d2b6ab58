use Rattle.std.proofs.Common.{◌≡◌, ◌++◌, false}
use Rattle.scl_files.specs.Expand.{expand}
use Rattle.scl_values.specs.Words.{words_of}
use Rattle.scl_files.proofs.expand.expand_all.Given as goal

abbrev pub invariant-loop-word : goal.invariant-loop-word
invariant-loop-word l =
    (l.word-iterator.ended ≡ false) × (words_of l.all.items ++ l.word-iterator.words ≡ expand l.fn.kind l.fn.cwd l.fn.view.files (words_of l.fn.words))
