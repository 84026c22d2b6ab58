use Rattle.std.proofs.Common.{◌≡◌, map, drop}
use Rattle.std.specs.List.{list_any}
use Rattle.scl_catalogue.specs.Views.{entry_of, line_of, seen_of}
use Rattle.scl_effects.specs.Known.{knows}
use Rattle.scl_effects.proofs.known.one_knows.Given as goal

abbrev pub invariant-loop-entry : goal.invariant-loop-entry
invariant-loop-entry l =
    let p = knows (line_of l.line) l.level (seen_of l.option) in
    list_any p (map entry_of (drop l.entry-index l.entries)) ≡ list_any p (map entry_of l.entries)
