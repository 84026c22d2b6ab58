use Rattle.std.proofs.Common.{◌≡◌, ◌++◌, drop, map}
use Rattle.scl_text.specs.Lines.{verdicts_of}
use Rattle.scl_values.specs.Seen.{seen}
use Rattle.scl_values.specs.Words.{words_of}
use Rattle.scl_rows.specs.Lines.{Ways, rows_judged}
use Rattle.scl_rows.specs.Rows.{told}
use Rattle.scl_rows.proofs.line.push_line.Given as goal

abbrev pub invariant-loop-option : goal.invariant-loop-option
invariant-loop-option g l =
    let see = seen g.T.ArgumentValue.kind_of g.T.IntoArg.word_of in
    let ways : Ways _ = record { name = g.T.Kind.NamedKind.name_of; goes = g.W.Ways.goes l.ways; side = g.W.Sides.side l.ways; origin = g.W.Ways.comes l.ways } in
    let read = l.fn.line in
    map told l.rows.items ++ rows_judged ways (words_of l.ahead.words.now) l.ahead.ats.now (verdicts_of l.ahead.refusals.now) (map see (drop l.option-index l.option-items))
    ≡ map told l.initial.rows.items ++ rows_judged ways read.words read.line.ats read.line.refusals read.line.options
