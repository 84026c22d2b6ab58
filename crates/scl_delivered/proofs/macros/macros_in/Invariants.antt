use Rattle.std.proofs.Common.{◌≡◌, take}
use Rattle.scl_values.specs.Words.{words_of}
use Rattle.scl_key.specs.Views.{parts_of}
use Rattle.scl_delivered.specs.Macros.{macros_in}
use Rattle.scl_delivered.proofs.macros.macros_in.Given as goal

abbrev pub invariant-loop-part : goal.invariant-loop-part
invariant-loop-part l = words_of l.macros.items ≡ macros_in (parts_of (take l.part-index l.parts))
