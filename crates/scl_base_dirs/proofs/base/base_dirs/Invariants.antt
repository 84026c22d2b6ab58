use Rattle.std.proofs.Common.{◌≡◌, map, take}
use Rattle.scl_values.specs.Words.{words_of}
use Rattle.scl_base_dirs.specs.Bases.{trimmed}
use Rattle.scl_base_dirs.proofs.base.base_dirs.Given as goal

abbrev pub invariant-loop-dir : goal.invariant-loop-dir
invariant-loop-dir l = words_of l.bases.items ≡ map trimmed (words_of (take l.dir-index l.dirs))
