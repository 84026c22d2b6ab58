use Rattle.std.proofs.Common.{◌≡◌, ◌++◌}
use Rattle.scl_key.specs.Views.{parts_of}
use Rattle.scl_delivered.specs.Macros.{without_macros}
use Rattle.scl_delivered.proofs.macros.without_macros.Given as goal

abbrev pub invariant-loop-part : goal.invariant-loop-part
invariant-loop-part l = parts_of l.left.items ++ without_macros (parts_of l.part-iterator.rest.items) ≡ without_macros (parts_of l.fn.parts.items)
