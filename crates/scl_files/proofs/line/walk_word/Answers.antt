use Rattle.scl_files.specs.ExpansionState.{left_of, openings_of}
use Rattle.scl_values.specs.Words.{words_of}
use Rattle.scl_files.proofs.LimitLemmas.{openings_stop, words_stop}
use Rattle.scl_files.proofs.line.walk_word.Goals as goal

pub returns-in-Err : goal.returns-in-Err
returns-in-Err c =
    let gave = rw c.in-Word.is at c.in_ok-word.ensures in
    let over = rw c.in-Err.is at c.in_ok-too_many-in-Word.ensures.too_many in
    words_stop c.args.most c.args.view.now.files (words_of c.loop-expansion.all.words.items) c.in-Word.word.items (left_of c.step.new.self) (left_of c.loop-expansion.expansion) _ _ over gave.0 c.loop-expansion.invariant.words

pub returns-in-Err-2 : goal.returns-in-Err-2
returns-in-Err-2 c =
    let gave = rw c.in-Opened.is at c.in_ok-word.ensures in
    let over = rw c.in-Err-2.is at c.in_ok-too_many-in-Opened.ensures.too_many in
    openings_stop c.args.most c.args.view.now.files (words_of c.loop-expansion.all.openings.items) c.in-Opened.path.items (openings_of c.step.new.self) (openings_of c.loop-expansion.expansion) _ _ over gave.1 c.loop-expansion.invariant.openings
