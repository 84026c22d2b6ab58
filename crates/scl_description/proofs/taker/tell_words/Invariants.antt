use Rattle.std.proofs.Common.{take}
use Rattle.scl_values.specs.Words.{words_of}
use Rattle.scl_description.specs.Rows.{entry_rows, words_entry}
use Rattle.scl_description.specs.Takers.{Adds}
use Rattle.scl_description.proofs.taker.tell_words.Given as goal

abbrev pub invariant-loop-word : goal.invariant-loop-word
invariant-loop-word g l = Adds g.R.TakesRows.has l.initial.rows l.rows (entry_rows (words_entry l.name (words_of (take l.word-index l.words))))
