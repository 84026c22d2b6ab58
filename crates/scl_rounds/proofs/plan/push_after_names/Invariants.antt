use Rattle.std.proofs.Common.{◌≡◌, ◌++◌, length}
use Rattle.std.specs.List.{flat_map}
use Rattle.scl_readings.specs.Lines.{parts}
use Rattle.scl_rounds.specs.Plans.{after_name}
use Rattle.scl_rounds.proofs.plan.push_after_names.Given as goal

abbrev pub invariant-loop-part : goal.invariant-loop-part
invariant-loop-part l = l.cleaned.items ++ flat_map after_name (parts 0 l.rest) ≡ l.initial.cleaned.items ++ flat_map after_name (parts 0 l.fn.text)

abbrev pub decreases-loop-part : goal.decreases-loop-part
decreases-loop-part l = length l.rest
