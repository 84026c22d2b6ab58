use Rattle.std.proofs.Common.{◌≡◌, ◌+◌, All, drop, length, map}
use Rattle.std.specs.List.{list_any}
use Rattle.memchr.specs.Find.{OccursAt}
use Rattle.scl_patterns.specs.Patterns.{behind}
use Rattle.scl_patterns.specs.Unseen.{is_no_call}
use Rattle.scl_patterns.proofs.unseen.stands_alone.Given as goal

abbrev pub invariant-loop-at : goal.invariant-loop-at
invariant-loop-at l = record {
  found : list_any is_no_call (map (λ at. drop (at + length l.fn.word) l.fn.line) l.at-iterator) ≡ list_any is_no_call (behind l.fn.word l.fn.line);
  stands : All (OccursAt l.fn.line l.fn.word) l.at-iterator;
}
