use Rattle.std.proofs.Common.{◌≡◌, map, take}
use Rattle.std.specs.List.{flat_map}
use Rattle.scl_catalogue.specs.Lookup.{flagged_case, with_flagged}
use Rattle.scl_catalogue.specs.Views.{case_of, lexicon_of}
use Rattle.scl_catalogue.proofs.lookup.Lexicon.add_flagged.Given as goal

abbrev pub invariant-loop-case : goal.invariant-loop-case
invariant-loop-case l =
    let old = lexicon_of l.initial.self in
    lexicon_of l.self ≡ with_flagged old (flat_map (flagged_case old.compiler old.version l.brings) (map case_of (take l.case-index l.cases)))
