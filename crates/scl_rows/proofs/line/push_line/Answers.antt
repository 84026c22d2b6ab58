use Rattle.std.proofs.Common.{[], ◌∷◌, ◌++◌, ◌+◌, drop, map, ap, sym, ◌∙◌}
use Rattle.std.proofs.lemmas.List.{drop-map, map-append}
use Rattle.std.specs.Option.{option_map}
use Rattle.scl_text.specs.Lines.{verdicts_of}
use Rattle.scl_text.specs.Refusals.{verdict_of}
use Rattle.scl_values.specs.Seen.{seen}
use Rattle.scl_values.specs.Words.{words_of}
use Rattle.scl_rows.specs.Lines.{Ways, rows_judged}
use Rattle.scl_rows.specs.Rows.{told}
use Rattle.scl_rows.proofs.LineLaws.{judged-more, options-at, words_dropped}
use Rattle.scl_rows.proofs.line.push_line.Goals as goal

pub loop-option-preserved : goal.loop-option-preserved
loop-option-preserved g c =
    let see = seen g.T.ArgumentValue.kind_of g.T.IntoArg.word_of in
    let ways : Ways _ = record { name = g.T.Kind.NamedKind.name_of; goes = g.W.Ways.goes c.args.ways.now; side = g.W.Sides.side c.args.ways.now; origin = g.W.Ways.comes c.args.ways.now } in
    let read = c.args.line.now in
    let options = c.as_slice-option-items.result.now in
    let i = c.loop-option.option-index in
    let row = c.in_ok-first_row.field-0 in
    let ahead = c.loop-option.ahead in
    judged-more ways (map told c.loop-option.rows.items) (map told c.push.new.self.items)
    (map told c.args.rows.now.items ++ rows_judged ways read.words read.line.ats read.line.refusals read.line.options) (told row)
    (words_of ahead.words.now) (words_of c.behind-ahead.result.now) c.word_count.result ahead.ats.now c.behind-ahead-in-loop-option.result.now
    (verdicts_of ahead.refusals.now) (verdicts_of c.behind-ahead-in-loop-option-2.result.now)
    (see c.option-item.result) (map see (drop i options)) (map see (drop (i + 1) options))
    (ap (map told) c.in_ok-push.ensures.items ∙ map-append told c.loop-option.rows.items (row ∷ []))
    c.in_ok-first_row.ensures c.word_count.ensures
    (ap words_of c.behind-ahead.ensures ∙ words_dropped c.word_count.result ahead.words.now)
    c.behind-ahead-in-loop-option.ensures
    (ap verdicts_of c.behind-ahead-in-loop-option-2.ensures ∙ sym (drop-map (option_map verdict_of) 1 ahead.refusals.now))
    (options-at see options i c.option-item.result c.loop-option-test.true c.option-item.is)
    c.loop-option.invariant
