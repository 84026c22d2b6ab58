use Rattle.std.proofs.Common.{◌≡◌, ◌++◌, length}
use Rattle.scl_values.specs.Words.{words_of}
use Rattle.scl_base_dirs.specs.Told.{told_list}
use Rattle.scl_base_dirs.proofs.told.push_list.Given as goal

abbrev pub invariant-loop-path : goal.invariant-loop-path
invariant-loop-path l = l.told.items ++ told_list (words_of l.dirs) l.separator l.rest ≡ l.initial.told.items ++ told_list (words_of l.dirs) l.separator l.value

abbrev pub decreases-loop-path : goal.decreases-loop-path
decreases-loop-path l = length l.rest
