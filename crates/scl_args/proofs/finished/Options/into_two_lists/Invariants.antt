use Rattle.std.proofs.Common.{◌≡◌, ◌++◌, map}
use Rattle.scl_values.specs.Seen.{seen}
use Rattle.scl_values.specs.Words.{words_of}
use Rattle.scl_args.specs.Options.{list}
use Rattle.scl_args.proofs.finished.Options.into_two_lists.Given as goal

abbrev pub invariant-loop-option : goal.invariant-loop-option
invariant-loop-option g l =
    let see = seen g.T.ArgumentValue.kind_of g.T.IntoArg.word_of in
    let words = list (g.S.Sides.side l.sides) in
    (words_of l.firsts.items ++ words (g.P.Test.passes l.first) (map see l.option-iterator) ≡ words (g.P.Test.passes l.first) l.fn.self)
    × (words_of l.seconds.items ++ words (g.P.Test.passes l.second) (map see l.option-iterator) ≡ words (g.P.Test.passes l.second) l.fn.self)
