use Rattle.std.proofs.Common.{◌≡◌, take}
use Rattle.std.specs.List.{flat_map}
use Rattle.scl_values.specs.Words.{words_of}
use Rattle.scl_rounds.specs.Headers.{unless_made}
use Rattle.scl_rounds.specs.Views.{key_of}
use Rattle.scl_rounds.proofs.header.not_made.Given as goal

abbrev pub invariant-loop-path : goal.invariant-loop-path
invariant-loop-path l = words_of l.others.items ≡ flat_map (unless_made (key_of l.key)) (words_of (take l.path-index l.paths))
