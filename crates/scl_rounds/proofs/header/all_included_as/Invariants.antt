use Rattle.std.proofs.Common.{◌≡◌, take}
use Rattle.std.specs.List.{flat_map}
use Rattle.scl_values.specs.Words.{words_of}
use Rattle.scl_rounds.specs.Headers.{included_as}
use Rattle.scl_rounds.proofs.header.all_included_as.Given as goal

abbrev pub invariant-loop-header : goal.invariant-loop-header
invariant-loop-header l = words_of l.names.items ≡ flat_map included_as (words_of (take l.header-index l.headers))
