use Rattle.std.proofs.Common.{◌≡◌, ◌++◌, drop, map}
use Rattle.scl_values.specs.Seen.{seen}
use Rattle.scl_text.specs.Lines.{ats_passing}
use Rattle.scl_text.proofs.line.ats_passing.Given as goal

abbrev pub invariant-loop-option : goal.invariant-loop-option
invariant-loop-option g l =
    let all = ats_passing (g.P.Test.passes l.test) in
    let see = seen g.T.ArgumentValue.kind_of g.T.IntoArg.word_of in
    l.own.items ++ all (map see (drop l.option-index l.options)) l.left ≡ all (map see l.options) l.fn.ats
