use Rattle.std.proofs.Common.{◌≡◌, ◌==◌, drop}
use Rattle.std.specs.List.{list_any}
use Rattle.scl_patterns.proofs.pattern.is_among.Given as goal

abbrev pub invariant-loop-it : goal.invariant-loop-it
invariant-loop-it l = list_any (λ it. it == l.byte) (drop l.it-index l.known) ≡ list_any (λ it. it == l.byte) l.known
