use Rattle.std.proofs.Common.{◌≡◌, drop}
use Rattle.std.specs.List.{list_any}
use Rattle.scl_files.specs.Views.{exists}
use Rattle.scl_values.specs.Words.{words_of}
use Rattle.scl_reader.proofs.precompiled.is_any_there.Given as goal

abbrev pub invariant-loop-path : goal.invariant-loop-path
invariant-loop-path l = list_any (λ path. exists path l.view) (words_of (drop l.path-index l.paths)) ≡ list_any (λ path. exists path l.view) (words_of l.paths)
