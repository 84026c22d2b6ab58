use Rattle.std.proofs.Common.{◌≡◌, drop}
use Rattle.std.specs.List.{list_any}
use Rattle.scl_key.specs.Views.{parts_of}
use Rattle.scl_rounds.specs.Runs.{fails, has_failed}
use Rattle.scl_rounds.specs.Views.{key_in, machine_of}
use Rattle.scl_rounds.proofs.run.has_failed.Given as goal

abbrev pub invariant-loop-part : goal.invariant-loop-part
invariant-loop-part l = list_any (fails (machine_of l.told)) (parts_of (drop l.part-index l.told.key.now.parts.now)) ≡ has_failed (key_in l.told) (machine_of l.told)
