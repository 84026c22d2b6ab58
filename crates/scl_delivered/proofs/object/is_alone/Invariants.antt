use Rattle.std.proofs.Common.{◌≡◌, drop}
use Rattle.std.specs.List.{list_all}
use Rattle.scl_key.specs.Views.{parts_of}
use Rattle.scl_delivered.specs.Delivered.{is_told_output}
use Rattle.scl_delivered.proofs.object.is_alone.Given as goal

abbrev pub invariant-loop-part : goal.invariant-loop-part
invariant-loop-part l = list_all is_told_output (parts_of (drop l.part-index l.parts)) ≡ list_all is_told_output (parts_of l.parts)
