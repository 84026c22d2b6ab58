use Rattle.std.proofs.Common.{◌≡◌, map, drop}
use Rattle.scl_values.specs.Seen.{seen}
use Rattle.scl_args.specs.Options.{is_behind_dashes}
use Rattle.scl_args.proofs.finished.Options.is_behind_dashes.Given as goal

abbrev pub invariant-loop-option : goal.invariant-loop-option
invariant-loop-option g l =
    let see = seen g.T.ArgumentValue.kind_of g.T.IntoArg.word_of in
    let behind = is_behind_dashes (g.P.Test.passes l.inputs) in
    behind (map see (drop l.option-index l.option-items)) ≡ behind (map see l.option-items)
