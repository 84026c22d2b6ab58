use Rattle.std.proofs.Common.{◌≡◌, drop, map}
use Rattle.std.specs.List.{list_any}
use Rattle.scl_patterns.specs.Patterns.{tells}
use Rattle.scl_patterns.proofs.pattern.any_tells.Given as goal

abbrev pub invariant-loop-text : goal.invariant-loop-text
invariant-loop-text l = list_any tells (map (λ text. text.now) (drop l.text-index l.texts)) ≡ list_any tells (map (λ text. text.now) l.texts)
