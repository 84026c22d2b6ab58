use Rattle.std.proofs.Common.{drop}
use Rattle.scl_values.specs.Words.{words_of}
use Rattle.scl_files.proofs.ExpandedLemmas.{IsWalking}
use Rattle.scl_files.proofs.line.walk.Given as goal

abbrev pub invariant-loop-word : goal.invariant-loop-word
invariant-loop-word l = IsWalking l.kind l.cwd l.view.files l.most (words_of l.given.words.items) (words_of (drop l.word-index l.given.words.items)) l.given.ats.items l.left l.fn.all l.all
