use Rattle.std.proofs.Common.{◌≡◌, ◌++◌, Ok, map, drop}
use Rattle.scl_catalogue.specs.Views.{test_of}
use Rattle.scl_catalogue_text.specs.Outcome.{after, each}
use Rattle.scl_catalogue_text.specs.Reading.{test_read}
use Rattle.scl_catalogue_text.proofs.read_test.each_test.Given as goal

abbrev pub invariant-loop-part : goal.invariant-loop-part
invariant-loop-part l =
    after (each test_read (map (λ part. part.now) (drop l.part-index l.parts))) (λ read. Ok (map test_of l.all.items ++ read)) ≡ each test_read (map (λ part. part.now) l.parts)
