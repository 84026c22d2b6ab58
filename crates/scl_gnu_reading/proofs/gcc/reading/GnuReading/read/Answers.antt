use Rattle.std.proofs.Common.{ap, sym, ◌∙◌}
use Rattle.scl_files.specs.Expanded.{expanded_of}
use Rattle.scl_text.specs.Records.{outcome_of}
use Rattle.scl_values.specs.Words.{words_of}
use Rattle.scl_gnu_reading.specs.Reads.{handed_ats, handed_words, outcome_by}
use Rattle.scl_gnu_reading.proofs.ReadLaws.{read_said, too_many_said}
use Rattle.scl_gnu_reading.proofs.gcc.reading.GnuReading.read.Goals as goal

pub returns : goal.returns
returns g c =
    let given = c.in_ok-given.given in
    let read = rw c.in-Ok.is at c.in_ok-inner.ensures in
    read_said c.args.most c.args.kind c.args.plusplus (g.S.SearchableArgInfo.tables c.args.arg_info.now) c.args.cwd.now c.args.view.now (expanded_of c.args.expanded) c.in_ok-outer.outer (words_of given.words.items)
    c.in_ok-outer.ensures (c.in_ok-given.ensures.words ∙ ap handed_words c.line.ensures)
    given.ats.items (words_of c.in_ok-handed.handed.items) c.in-Ok.inner (outcome_of c.in_ok-outcome.outcome)
    (c.in_ok-given.ensures.ats ∙ ap handed_ats c.line.ensures) (c.in_ok-handed.ensures ∙ ap words_of c.deref.ensures.value) read.0 read.1
    (rw (← c.line-2.ensures, ← c.line-3.ensures) c.in_ok-outcome.ensures)

pub returns-in-Err : goal.returns-in-Err
returns-in-Err g c =
    let given = c.in_ok-given.given in
    too_many_said c.args.most c.args.kind c.args.plusplus (g.S.SearchableArgInfo.tables c.args.arg_info.now) c.args.cwd.now c.args.view.now (expanded_of c.args.expanded) c.in_ok-outer.outer (words_of given.words.items)
    c.in_ok-outer.ensures (c.in_ok-given.ensures.words ∙ ap handed_words c.line.ensures)
    (rw c.in-Err.is at c.in_ok-inner.ensures)
