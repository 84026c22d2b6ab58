use Rattle.std.proofs.Common.{◌≡◌, drop}
use Rattle.std.specs.List.{list_any}
use Rattle.scl_key.specs.Views.{parts_of}
use Rattle.scl_rounds.specs.Runs.{is_else, may_fail}
use Rattle.scl_rounds.specs.Views.{key_of}
use Rattle.scl_rounds.proofs.run.may_fail.Given as goal

abbrev pub invariant-loop-part : goal.invariant-loop-part
invariant-loop-part l = list_any is_else (parts_of (drop l.part-index l.key.parts.now)) ≡ may_fail (key_of l.key)
