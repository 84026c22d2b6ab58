use Rattle.std.proofs.Common.{◌≡◌, drop}
use Rattle.std.specs.List.{list_any}
use Rattle.scl_key.specs.Views.{parts_of}
use Rattle.scl_rounds.specs.Plans.{is_input, is_input_at}
use Rattle.scl_rounds.specs.Views.{key_of}
use Rattle.scl_rounds.proofs.plan.is_input.Given as goal

abbrev pub invariant-loop-part : goal.invariant-loop-part
invariant-loop-part l = list_any (is_input_at l.key.place.now l.path) (parts_of (drop l.part-index l.key.parts.now)) ≡ is_input (key_of l.key) l.path
