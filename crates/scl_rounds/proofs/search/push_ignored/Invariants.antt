use Rattle.std.proofs.Common.{◌≡◌, ◌++◌, take, map}
use Rattle.std.specs.List.{flat_map}
use Rattle.scl_values.specs.Words.{words_of}
use Rattle.scl_rounds.specs.Searches.{ignored_in}
use Rattle.scl_rounds.proofs.search.push_ignored.Given as goal

abbrev pub invariant-loop-rest : goal.invariant-loop-rest
invariant-loop-rest l =
    words_of l.names.items ≡ words_of l.initial.names.items ++ flat_map ignored_in (map (λ line. line.now) (take l.rest-index l.lines))
