use Rattle.std.proofs.Common.{◌≡◌, ◌++◌, drop}
use Rattle.std.specs.List.{flat_map}
use Rattle.scl_key.specs.Views.{directs_of}
use Rattle.scl_values.specs.Words.{words_of}
use Rattle.scl_rounds.specs.Keys.{search_in, searches}
use Rattle.scl_rounds.specs.Searches.{all_folders_on}
use Rattle.scl_rounds.specs.Views.{key_in, machine_of}
use Rattle.scl_rounds.proofs.search.push_all_folders.Given as goal

abbrev pub invariant-loop-one : goal.invariant-loop-one
invariant-loop-one l =
    words_of l.names.items ++ all_folders_on (machine_of l.told) (flat_map search_in (directs_of (drop l.one-index l.told.key.now.direct.now)))
    ≡ words_of l.initial.names.items ++ all_folders_on (machine_of l.told) (searches (key_in l.told))
