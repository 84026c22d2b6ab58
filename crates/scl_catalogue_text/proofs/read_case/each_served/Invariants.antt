use Rattle.std.proofs.Common.{◌≡◌, ◌++◌, Ok, map, drop}
use Rattle.scl_catalogue_text.specs.Outcome.{after, each}
use Rattle.scl_catalogue_text.specs.Reading.{served_read}
use Rattle.scl_catalogue_text.proofs.read_case.each_served.Given as goal

abbrev pub invariant-loop-part : goal.invariant-loop-part
invariant-loop-part l =
    after (each served_read (map (λ part. part.now) (drop l.part-index l.parts))) (λ read. Ok (l.all.items ++ read)) ≡ each served_read (map (λ part. part.now) l.parts)
