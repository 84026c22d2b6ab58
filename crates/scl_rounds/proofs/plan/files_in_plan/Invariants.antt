use Rattle.std.proofs.Common.{◌≡◌, take, map}
use Rattle.std.specs.List.{flat_map}
use Rattle.scl_values.specs.Words.{words_of}
use Rattle.scl_rounds.specs.Plans.{beside_by}
use Rattle.scl_rounds.specs.Views.{key_of}
use Rattle.scl_rounds.proofs.plan.files_in_plan.Given as goal

abbrev pub invariant-loop-command : goal.invariant-loop-command
invariant-loop-command l = words_of l.names.items ≡ flat_map (beside_by (key_of l.key)) (map (λ command. command.now) (take l.command-index l.command-items))
