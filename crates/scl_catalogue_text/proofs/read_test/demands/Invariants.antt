use Rattle.std.proofs.Common.{◌≡◌, ◌++◌, Ok, map, drop}
use Rattle.scl_catalogue.specs.Views.{demand_of}
use Rattle.scl_catalogue_text.specs.Outcome.{after, each}
use Rattle.scl_catalogue_text.specs.Reading.{demand_read}
use Rattle.scl_catalogue_text.proofs.read_test.demands.Given as goal

abbrev pub invariant-loop-part : goal.invariant-loop-part
invariant-loop-part l =
    after (each demand_read (map (λ part. part.now) (drop l.part-index l.parts))) (λ read. Ok (map demand_of l.all.items ++ read)) ≡ each demand_read (map (λ part. part.now) l.parts)
