use Rattle.std.proofs.Common.{◌≡◌}
use Rattle.std.specs.Str.{bytes_eq}
use Rattle.std.specs.Cmp.Lexicographic.{pointwise}
use Rattle.scl_files.specs.Paths.{places_from, names_of, same_path}
use Rattle.scl_files.proofs.path.same_path.Given as goal

abbrev pub invariant-loop-place : goal.invariant-loop-place
invariant-loop-place l = pointwise bytes_eq (names_of (places_from l.place-iterator.path.now l.place-iterator.at)) (names_of (places_from l.others.path.now l.others.at)) ≡ same_path l.a l.b
