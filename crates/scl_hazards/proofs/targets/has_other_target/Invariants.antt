use Rattle.std.proofs.Common.{◌≡◌, drop, map}
use Rattle.std.specs.List.{list_any}
use Rattle.scl_catalogue.specs.Views.{seen_of}
use Rattle.scl_hazards.specs.Targets.{names_other}
use Rattle.scl_hazards.proofs.targets.has_other_target.Given as goal

abbrev pub invariant-loop-option : goal.invariant-loop-option
invariant-loop-option l =
    list_any (names_other l.object) (map seen_of (drop l.option-index l.options)) ≡ list_any (names_other l.object) (map seen_of l.options)
