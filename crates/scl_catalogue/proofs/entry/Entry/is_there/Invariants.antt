use Rattle.std.proofs.Common.{◌≡◌, map, drop}
use Rattle.std.specs.List.{list_any}
use Rattle.scl_catalogue.specs.Found.{case_holds}
use Rattle.scl_catalogue.specs.Views.{case_of, line_of}
use Rattle.scl_catalogue.proofs.entry.Entry.is_there.Given as goal

abbrev pub invariant-loop-case : goal.invariant-loop-case
invariant-loop-case l =
    let p = case_holds (line_of l.line) in
    list_any p (map case_of (drop l.case-index l.self.cases.items)) ≡ list_any p (map case_of l.self.cases.items)
