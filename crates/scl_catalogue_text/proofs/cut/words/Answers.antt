use Rattle.std.proofs.Common.{eqb, rules, tests}
use Rattle.std.proofs.lemmas.Iterator.Consumers.{YieldsList-at}
use Rattle.std.proofs.lemmas.Iterator.Consumers.{map_from_collect, YieldsList-from_filter}
use Rattle.std.proofs.lemmas.Iterator.Splits.{YieldsList-from_slice_split}
use Rattle.scl_catalogue_text.specs.Cutting.{is_word, parts, words}
use Rattle.scl_catalogue_text.proofs.cut.words.Goals as goal

pub returns : goal.returns
unfolding words parts
returns c = map_from_collect _ c.collect.ensures.ran (YieldsList-from_filter _ is_word
    (YieldsList-at c.filter.ensures.source (YieldsList-from_slice_split _ (λ b. eqb b 32) c.args.bytes.now c.split.ensures.rest c.split.ensures.done c.split.ensures.closure (λ x r q k. search (rules, tests))))
    c.filter.ensures.closure (λ x b q k. search (rules, tests)))
