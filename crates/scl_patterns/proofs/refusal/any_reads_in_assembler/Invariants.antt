use Rattle.std.proofs.Common.{◌≡◌, drop, map}
use Rattle.std.specs.List.{list_any}
use Rattle.scl_patterns.specs.Refusals.{reads_in_assembler}
use Rattle.scl_patterns.proofs.refusal.any_reads_in_assembler.Given as goal

abbrev pub invariant-loop-text : goal.invariant-loop-text
invariant-loop-text l = list_any reads_in_assembler (map (λ text. text.now) (drop l.text-index l.texts)) ≡ list_any reads_in_assembler (map (λ text. text.now) l.texts)
