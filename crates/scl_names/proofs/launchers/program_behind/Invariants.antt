use Rattle.std.proofs.Common.{◌≡◌, drop}
use Rattle.scl_values.specs.Words.{words_of}
use Rattle.scl_names.specs.Launchers.{program_from, program_behind}
use Rattle.scl_names.specs.LaunchersGiven.{front_by}
use Rattle.scl_names.proofs.launchers.program_behind.Given as goal

abbrev pub invariant-loop-at : goal.invariant-loop-at
invariant-loop-at l = program_from (words_of l.more) (front_by l.launched) l.at (words_of (drop l.at l.words)) ≡ program_behind (words_of l.more) (words_of l.words)
