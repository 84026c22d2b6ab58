use Rattle.std.proofs.Common.{◌≡◌, ◌++◌, Ok, map, drop}
use Rattle.scl_catalogue.specs.Views.{condition_of, group_of}
use Rattle.scl_catalogue_text.specs.Outcome.{after, each}
use Rattle.scl_catalogue_text.specs.Reading.{condition_read}
use Rattle.scl_catalogue_text.proofs.read_condition.each_condition.Given as goal

abbrev pub invariant-loop-part : goal.invariant-loop-part
invariant-loop-part l =
    after (each (condition_read (map group_of l.groups)) (map (λ part. part.now) (drop l.part-index l.parts))) (λ read. Ok (map condition_of l.all.items ++ read)) ≡ each (condition_read (map group_of l.groups)) (map (λ part. part.now) l.parts)
