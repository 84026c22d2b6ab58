use Rattle.std.proofs.Common.{◌≡◌, ◌==◌, ◌||◌, drop}
use Rattle.std.specs.List.{list_any}
use Rattle.scl_catalogue_text.proofs.cut.lacks.Given as goal

abbrev pub invariant-loop-byte : goal.invariant-loop-byte
invariant-loop-byte l = (l.stands || list_any (λ byte. byte == l.mark) (drop l.byte-index l.bytes)) ≡ list_any (λ byte. byte == l.mark) l.bytes
