use Rattle.std.proofs.Common.{◌≡◌, ◌++◌, drop, map}
use Rattle.scl_values.specs.Seen.{seen}
use Rattle.scl_text.specs.Lines.{ats_cut}
use Rattle.scl_text.proofs.line.ats_of.Given as goal

abbrev pub invariant-loop-option : goal.invariant-loop-option
invariant-loop-option g l =
    let see = seen g.T.ArgumentValue.kind_of g.T.IntoArg.word_of in
    l.own.items ++ ats_cut (map see (drop l.option-index l.options)) l.left ≡ ats_cut (map see l.options) l.fn.ats
