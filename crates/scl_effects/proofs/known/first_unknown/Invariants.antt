use Rattle.std.proofs.Common.{◌≡◌, map, drop}
use Rattle.scl_catalogue.specs.Views.{catalogue_of, line_of, seen_of}
use Rattle.scl_effects.specs.Known.{first_unknown}
use Rattle.scl_effects.proofs.known.first_unknown.Given as goal

abbrev pub invariant-loop-option : goal.invariant-loop-option
invariant-loop-option l =
    let first = first_unknown (catalogue_of l.catalogue) (line_of l.line) l.level in
    first (map seen_of (drop l.option-index l.options)) ≡ first (map seen_of l.options)
