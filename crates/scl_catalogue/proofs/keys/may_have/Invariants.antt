use Rattle.std.proofs.Common.{◌≡◌, drop}
use Rattle.std.specs.List.{list_any}
use Rattle.scl_catalogue.specs.Keyed.{may_fit}
use Rattle.scl_catalogue.specs.Views.{cut_up, patterns_of}
use Rattle.scl_catalogue.proofs.keys.may_have.Given as goal

abbrev pub invariant-loop-cut : goal.invariant-loop-cut
invariant-loop-cut l = list_any (may_fit l.numbers) (cut_up l.left (drop l.cut-index l.text.any.cuts.items)) ≡ list_any (may_fit l.numbers) (patterns_of l.text.any)
