use Rattle.std.proofs.Common.{◌≡◌, drop, map}
use Rattle.std.specs.List.{list_any}
use Rattle.scl_catalogue.specs.Views.{case_of}
use Rattle.scl_hazards.specs.Serving.{is_case_of}
use Rattle.scl_hazards.proofs.names.is_of.Given as goal

abbrev pub invariant-loop-case : goal.invariant-loop-case
invariant-loop-case l =
    let all = l.entry.cases.items in
    list_any (is_case_of l.compiler) (map case_of (drop l.case-index all)) ≡ list_any (is_case_of l.compiler) (map case_of all)
