use Rattle.std.proofs.Common.{◌≡◌, ◌+◌, All, drop, length, map}
use Rattle.std.specs.List.{list_any}
use Rattle.memchr.specs.Find.{OccursAt}
use Rattle.scl_patterns.specs.Patterns.{behind}
use Rattle.scl_patterns.specs.Unseen.{follows}
use Rattle.scl_patterns.proofs.unseen.is_followed.Given as goal

abbrev pub invariant-loop-at : goal.invariant-loop-at
invariant-loop-at l = record {
  found : list_any (follows l.fn.next) (map (λ at. drop (at + length l.fn.word) l.fn.text) l.at-iterator) ≡ list_any (follows l.fn.next) (behind l.fn.word l.fn.text);
  stands : All (OccursAt l.fn.text l.fn.word) l.at-iterator;
}
