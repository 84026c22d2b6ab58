use Rattle.std.proofs.Common.{◌≡◌, drop}
use Rattle.scl_catalogue.specs.Lookup.{first_front}
use Rattle.scl_catalogue.specs.Views.{cut_up, patterns_of}
use Rattle.scl_catalogue.proofs.text.Patterns.front_of.Given as goal

abbrev pub invariant-loop-cut : goal.invariant-loop-cut
invariant-loop-cut l = first_front (cut_up l.left (drop l.cut-index l.self.cuts.items)) l.word ≡ first_front (patterns_of l.self) l.word
