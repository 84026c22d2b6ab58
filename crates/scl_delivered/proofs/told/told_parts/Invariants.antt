use Rattle.std.proofs.Common.{◌≡◌, map, take}
use Rattle.scl_values.specs.Words.{words_of}
use Rattle.scl_key.specs.Views.{parts_of}
use Rattle.scl_delivered.specs.Delivered.{told_part}
use Rattle.scl_delivered.proofs.told.told_parts.Given as goal

abbrev pub invariant-loop-part : goal.invariant-loop-part
invariant-loop-part l = parts_of l.told.items ≡ map (told_part (words_of l.dirs)) (parts_of (take l.part-index l.parts))
