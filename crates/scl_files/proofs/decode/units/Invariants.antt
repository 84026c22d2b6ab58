use Rattle.std.proofs.Common.{◌≡◌, length, ◌++◌}
use Rattle.std.specs.Option.{option_map}
use Rattle.scl_files.specs.Decoding.{units}
use Rattle.scl_files.proofs.decode.units.Given as goal

abbrev pub invariant-loop-rest : goal.invariant-loop-rest
invariant-loop-rest l = option_map (λ us. l.made.items ++ us) (units l.order l.rest) ≡ units l.order l.bytes

abbrev pub decreases-loop-rest : goal.decreases-loop-rest
decreases-loop-rest l = length l.rest
