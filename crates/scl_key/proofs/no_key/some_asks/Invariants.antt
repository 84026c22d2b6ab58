use Rattle.std.proofs.Common.{◌≡◌, drop}
use Rattle.std.specs.List.{list_any}
use Rattle.scl_key.specs.Effects.{suffixes}
use Rattle.scl_key.specs.Keys.{asks_for_rules}
use Rattle.scl_key.proofs.no_key.some_asks.Given as goal

abbrev pub invariant-loop-at : goal.invariant-loop-at
invariant-loop-at l = list_any asks_for_rules (suffixes 44 (drop l.at l.word)) ≡ list_any asks_for_rules (suffixes 44 l.word)
