use Rattle.std.proofs.Common.{◌≡◌, drop}
use Rattle.std.specs.List.{flat_map}
use Rattle.scl_key.specs.Views.{directs_of}
use Rattle.scl_rounds.specs.Keys.{search_in, searches}
use Rattle.scl_rounds.specs.Searches.{are_all_named}
use Rattle.scl_rounds.specs.Views.{key_in, machine_of}
use Rattle.scl_rounds.proofs.search.are_all_named.Given as goal

abbrev pub invariant-loop-one : goal.invariant-loop-one
invariant-loop-one l =
    are_all_named (machine_of l.told) (flat_map search_in (directs_of (drop l.one-index l.told.key.now.direct.now))) ≡ are_all_named (machine_of l.told) (searches (key_in l.told))
