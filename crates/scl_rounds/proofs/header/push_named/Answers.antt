use Rattle.std.proofs.Common.{◌<◌, ◌++◌, length, sym, ap, ◌∙◌, arith}
use Rattle.std.proofs.lemmas.List.{append-nil}
use Rattle.scl_values.specs.Words.{words_of}
use Rattle.scl_rounds.proofs.HeaderLemmas.{named_short}
use Rattle.scl_rounds.proofs.header.push_named.Goals as goal

pub returns : goal.returns
returns c =
    let names = words_of c.loop-rest.names.items in
    let short : length c.loop-rest.rest.now < 2 = omega (arith, c.in_default.len_below) in
    sym (append-nil names) ∙ ap (λ more. names ++ more) (sym (named_short c.args.what.now c.loop-rest.rest.now short)) ∙ c.loop-rest.invariant
