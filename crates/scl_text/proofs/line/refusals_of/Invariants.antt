use Rattle.std.proofs.Common.{◌≡◌, [], ◌++◌, drop, map, take}
use Rattle.scl_args.specs.Empties.{refusing_empty}
use Rattle.scl_text.specs.Lines.{refusals_after, verdicts_of}
use Rattle.scl_text.specs.Reasons.{empty_value}
use Rattle.scl_values.specs.Seen.{seen}
use Rattle.scl_values.specs.Tables.{owner_in}
use Rattle.scl_text.proofs.line.refusals_of.Given as goal

abbrev pub invariant-loop-i : goal.invariant-loop-i
invariant-loop-i g l =
    let see = seen g.T.ArgumentValue.kind_of g.T.IntoArg.word_of in
    let all = refusals_after (refusing_empty (owner_in (g.S.SearchableArgInfo.tables l.arg_info)) empty_value (g.J.Judge.verdict l.judge)) in
    verdicts_of l.refusals.items ++ all (map see (take l.i l.options)) (map see (drop l.i l.options)) ≡ all [] (map see l.options)
