use Rattle.std.proofs.Common.{rules}
use Rattle.std.proofs.lemmas.Iterator.Search.{any_from_yields_List}
use Rattle.std.proofs.lemmas.Iterator.{YieldsList-from_slice}
use Rattle.scl_args.proofs.options.OfKinds.has.Goals as goal

pub returns : goal.returns
returns g c =
    let eq = g.K.PartialEq.eq in
    any_from_yields_List (λ other. eq other c.args.kind.now) _ _ _ c.any.ensures.ran (YieldsList-from_slice c.args.self.now.0.now cc) (λ x b q k. search rules)
