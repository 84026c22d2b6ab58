use Rattle.std.proofs.Common.{◌≡◌, map, drop}
use Rattle.std.specs.List.{list_any}
use Rattle.scl_catalogue.specs.Speaking.{case_speaks_of}
use Rattle.scl_catalogue.specs.Views.{case_of, seen_of}
use Rattle.scl_catalogue.proofs.speaking.one_speaks.Given as goal

abbrev pub invariant-loop-case : goal.invariant-loop-case
invariant-loop-case l =
    let p = case_speaks_of l.compiler l.version l.level (seen_of l.option) in
    list_any p (map case_of (drop l.case-index l.cases)) ≡ list_any p (map case_of l.cases)
