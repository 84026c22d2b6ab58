use Rattle.std.proofs.Common.{◌≡◌, take, map}
use Rattle.std.specs.List.{flat_map}
use Rattle.scl_values.specs.Words.{words_of}
use Rattle.scl_rounds.specs.Plans.{called_by}
use Rattle.scl_rounds.proofs.plan.called_in.Given as goal

abbrev pub invariant-loop-command : goal.invariant-loop-command
invariant-loop-command l = words_of l.names.items ≡ flat_map called_by (map (λ command. command.now) (take l.command-index l.command-items))
