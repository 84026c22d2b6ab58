use Rattle.std.proofs.Common.{◌≡◌, drop}
use Rattle.std.specs.List.{list_any}
use Rattle.scl_key.specs.Views.{parts_of}
use Rattle.scl_talks.specs.Next.{is_plan}
use Rattle.scl_talks.proofs.next.has_plan.Given as goal

abbrev pub invariant-loop-part : goal.invariant-loop-part
invariant-loop-part l = list_any is_plan (parts_of (drop l.part-index l.parts)) ≡ list_any is_plan (parts_of l.parts)
