use Rattle.std.proofs.Common.{◌≡◌, All, codes}
use Rattle.std.specs.List.{list_any}
use Rattle.memchr.specs.Find.{OccursAt}
use Rattle.scl_patterns.specs.Refusals.{has_directive, reads_at}
use Rattle.scl_patterns.proofs.refusal.has_directive.Given as goal

abbrev pub invariant-loop-at : goal.invariant-loop-at
invariant-loop-at l = record {
  found : list_any (reads_at l.fn.marks l.fn.text) l.at-iterator ≡ has_directive l.fn.marks l.fn.text;
  stands : All (OccursAt l.fn.text (codes ".")) l.at-iterator;
}
