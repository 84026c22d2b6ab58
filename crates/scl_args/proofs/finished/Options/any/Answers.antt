use Rattle.std.proofs.Common.{◌∙◌, sym, rules}
use Rattle.std.proofs.lemmas.Iterator.Search.{any_from_yields_List}
use Rattle.std.proofs.lemmas.Iterator.{YieldsList-from_slice}
use Rattle.scl_values.specs.Seen.{seen}
use Rattle.scl_args.proofs.OptionLaws.{any-map}
use Rattle.scl_args.proofs.finished.Options.any.Goals as goal

pub returns : goal.returns
returns g c =
    let see = seen g.T.ArgumentValue.kind_of g.T.IntoArg.word_of in
    let passes = g.P.Test.passes c.args.test.now in
    let options = c.self.inside.options.items in
    rw (← c.self.view_is) (any_from_yields_List (λ option. passes (see option)) _ _ _ c.any.ensures.ran (YieldsList-from_slice options cc) (λ x b q k. search rules)
    ∙ sym (any-map passes see options))
