use Rattle.std.proofs.Common.{◌≡◌, ◌++◌, drop}
use Rattle.scl_values.specs.Words.{words_of}
use Rattle.scl_text.specs.Commands.{pairs_of}
use Rattle.scl_explain.specs.Cases.{assigned}
use Rattle.scl_explain.proofs.case.with_assigned.Given as goal

abbrev pub invariant-loop-word : goal.invariant-loop-word
invariant-loop-word l = assigned (words_of (drop l.word-index l.words)) ++ pairs_of l.all.items ≡ assigned (words_of l.words) ++ pairs_of l.initial.all.items
