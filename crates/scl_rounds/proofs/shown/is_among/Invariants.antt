use Rattle.std.proofs.Common.{◌≡◌, drop}
use Rattle.std.specs.List.{list_any}
use Rattle.std.specs.Str.{bytes_eq}
use Rattle.scl_values.specs.Words.{words_of}
use Rattle.scl_rounds.proofs.shown.is_among.Given as goal

abbrev pub invariant-loop-other : goal.invariant-loop-other
invariant-loop-other l = list_any (λ other. bytes_eq other l.name) (words_of (drop l.other-index l.names)) ≡ list_any (λ other. bytes_eq other l.name) (words_of l.names)
