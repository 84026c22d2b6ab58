use Rattle.std.proofs.Common.{◌≡◌, ◌+◌, ◌++◌, All, drop, length, map}
use Rattle.memchr.specs.Find.{OccursAt}
use Rattle.scl_patterns.specs.Patterns.{behind}
use Rattle.scl_patterns.proofs.pattern.behind.Given as goal

abbrev pub invariant-loop-at : goal.invariant-loop-at
invariant-loop-at l = record {
  found : map (λ rest. rest.now) l.found.items ++ map (λ at. drop (at + length l.fn.word) l.fn.text) l.at-iterator ≡ behind l.fn.word l.fn.text;
  stands : All (OccursAt l.fn.text l.fn.word) l.at-iterator;
}
