use Rattle.std.proofs.Common.{◌≡◌, map, drop}
use Rattle.scl_catalogue.specs.Numbered.{numbers_in, with_cases}
use Rattle.scl_catalogue.specs.Views.{case_of}
use Rattle.scl_catalogue.proofs.numbers.NumberSet.of.Given as goal

abbrev pub invariant-loop-case : goal.invariant-loop-case
invariant-loop-case l = with_cases l.numbers (map case_of (drop l.case-index l.cases)) ≡ numbers_in (map case_of l.cases)
