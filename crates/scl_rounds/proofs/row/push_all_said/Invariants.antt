use Rattle.std.proofs.Common.{◌≡◌, ◌++◌, take, map}
use Rattle.scl_values.specs.Words.{words_of}
use Rattle.scl_lookup.specs.Keys.{said}
use Rattle.scl_questions.specs.Views.{row_of}
use Rattle.scl_rounds.proofs.row.push_all_said.Given as goal

abbrev pub invariant-loop-text : goal.invariant-loop-text
invariant-loop-text l = row_of l.row.items ≡ row_of l.initial.row.items ++ map said (words_of (take l.text-index l.texts))
