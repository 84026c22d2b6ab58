use Rattle.std.proofs.Common.{◌≡◌, ◌++◌, drop}
use Rattle.std.specs.List.{flat_map}
use Rattle.scl_key.specs.Views.{directs_of}
use Rattle.scl_values.specs.Words.{words_of}
use Rattle.scl_rounds.specs.Keys.{header_in, headers_named}
use Rattle.scl_rounds.specs.Views.{key_of}
use Rattle.scl_rounds.proofs.listing.push_headers_named.Given as goal

abbrev pub invariant-loop-one : goal.invariant-loop-one
invariant-loop-one l =
    words_of l.names.items ++ flat_map header_in (directs_of (drop l.one-index l.key.direct.now)) ≡ words_of l.initial.names.items ++ headers_named (key_of l.key)
