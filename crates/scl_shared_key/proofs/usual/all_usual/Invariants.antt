use Rattle.std.proofs.Common.{◌≡◌, drop}
use Rattle.std.specs.List.{list_all}
use Rattle.scl_values.specs.Words.{words_of}
use Rattle.scl_shared_key.specs.Usuals.{is_usual}
use Rattle.scl_shared_key.proofs.usual.all_usual.Given as goal

abbrev pub invariant-loop-dir : goal.invariant-loop-dir
invariant-loop-dir l = list_all is_usual (words_of (drop l.dir-index l.dirs)) ≡ list_all is_usual (words_of l.dirs)
