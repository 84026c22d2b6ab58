use Rattle.std.proofs.Common.{◌≡◌, drop}
use Rattle.scl_catalogue.specs.Numbered.{with_patterns}
use Rattle.scl_catalogue.specs.Views.{cut_up, patterns_of}
use Rattle.scl_catalogue.proofs.numbers.add_patterns.Given as goal

abbrev pub invariant-loop-cut : goal.invariant-loop-cut
invariant-loop-cut l = with_patterns l.numbers (cut_up l.left (drop l.cut-index l.patterns.cuts.items)) ≡ with_patterns l.initial.numbers (patterns_of l.patterns)
