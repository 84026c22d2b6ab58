use Rattle.std.proofs.Common.{◌≡◌, map, drop}
use Rattle.scl_catalogue.specs.Keyed.{all_added}
use Rattle.scl_catalogue.specs.Views.{seen_of}
use Rattle.scl_catalogue.proofs.keys.Keys.of.Given as goal

abbrev pub invariant-loop-option : goal.invariant-loop-option
invariant-loop-option l = all_added l.keys (map seen_of (drop l.option-index l.options)) ≡ all_added l.initial.keys (map seen_of l.options)
