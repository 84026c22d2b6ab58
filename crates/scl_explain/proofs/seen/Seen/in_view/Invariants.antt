use Rattle.scl_values.specs.Words.{words_of}
use Rattle.scl_explain.specs.Seen.{IsSeen}
use Rattle.scl_explain.proofs.seen.Seen.in_view.Given as goal

abbrev pub invariant-loop-path : goal.invariant-loop-path
invariant-loop-path l = IsSeen l.view (words_of l.found.items) (words_of l.missing.items)
