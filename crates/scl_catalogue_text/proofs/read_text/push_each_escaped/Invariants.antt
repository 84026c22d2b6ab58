use Rattle.std.proofs.Common.{◌≡◌, ◌++◌, Ok, map, drop}
use Rattle.scl_catalogue_text.specs.Outcome.{after}
use Rattle.scl_catalogue_text.specs.Reading.{escapes}
use Rattle.scl_catalogue_text.proofs.read_text.push_each_escaped.Given as goal

abbrev pub invariant-loop-part : goal.invariant-loop-part
invariant-loop-part l =
    after (escapes (map (λ part. part.now) (drop l.part-index l.parts))) (λ rest. Ok (l.bytes.items ++ rest))
    ≡ after (escapes (map (λ part. part.now) l.parts)) (λ rest. Ok (l.initial.bytes.items ++ rest))
