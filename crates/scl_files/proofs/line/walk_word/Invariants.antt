use Rattle.std.proofs.Common.{◌≡◌, [], ◌∷◌, ◌++◌}
use Rattle.scl_files.specs.Expand.{expand}
use Rattle.scl_files.specs.ExpansionState.{left_of, openings_of, steps_of}
use Rattle.scl_files.specs.Openings.{openings}
use Rattle.scl_files.specs.Walks.{IsWithin}
use Rattle.scl_values.specs.Words.{words_of}
use Rattle.scl_files.proofs.line.walk_word.Given as goal

abbrev pub invariant-loop-expansion : goal.invariant-loop-expansion
invariant-loop-expansion l = record {
  words : words_of l.all.words.items ++ left_of l.expansion ≡ words_of l.fn.all.words.items ++ expand l.fn.kind l.fn.cwd l.fn.view.files (l.fn.word ∷ []);
  openings : words_of l.all.openings.items ++ openings_of l.expansion ≡ words_of l.fn.all.openings.items ++ openings l.fn.kind l.fn.cwd l.fn.view.files (l.fn.word ∷ []);
  ats : l.all.ats.items ≡ l.fn.all.ats.items;
  within : IsWithin l.fn.most l.fn.view.files l.all;
}

abbrev pub decreases-loop-expansion : goal.decreases-loop-expansion
decreases-loop-expansion l = steps_of l.expansion
