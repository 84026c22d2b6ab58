use Rattle.std.proofs.Common.{take}
use Rattle.scl_values.specs.Words.{words_of}
use Rattle.scl_files.proofs.OnceLemmas.{Once}
use Rattle.scl_files.proofs.texts.texts_once.Given as goal

abbrev pub invariant-loop-path : goal.invariant-loop-path
invariant-loop-path l = Once l.view.files (words_of (take l.path-index l.paths)) (words_of l.texts.items) l.seen
