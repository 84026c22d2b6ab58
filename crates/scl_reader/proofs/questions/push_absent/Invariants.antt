use Rattle.std.proofs.Common.{◌≡◌, ◌++◌}
use Rattle.std.specs.List.{flat_map}
use Rattle.scl_values.specs.Words.{words_of}
use Rattle.scl_reader.specs.Questions.{no_path}
use Rattle.scl_reader.proofs.questions.push_absent.Given as goal

abbrev pub invariant-loop-path : goal.invariant-loop-path
invariant-loop-path l =
    words_of l.existing.items ++ flat_map (no_path l.view) (words_of l.path-iterator.rest.items) ≡ words_of l.initial.existing.items ++ flat_map (no_path l.view) (words_of l.fn.paths.items)
