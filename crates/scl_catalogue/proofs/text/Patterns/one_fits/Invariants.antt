use Rattle.std.proofs.Common.{◌≡◌, drop}
use Rattle.scl_catalogue.specs.Found.{one_fits}
use Rattle.scl_catalogue.specs.Views.{cut_up, patterns_of}
use Rattle.scl_catalogue.proofs.text.Patterns.one_fits.Given as goal

abbrev pub invariant-loop-cut : goal.invariant-loop-cut
invariant-loop-cut l = one_fits (cut_up l.left (drop l.cut-index l.self.cuts.items)) l.word ≡ one_fits (patterns_of l.self) l.word
