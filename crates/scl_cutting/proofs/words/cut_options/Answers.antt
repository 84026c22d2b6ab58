use Rattle.std.proofs.Common.{sym}
use Rattle.scl_values.specs.Cuts.{cut}
use Rattle.scl_values.specs.Tables.{owner_in}
use Rattle.scl_values.specs.Words.{words_of}
use Rattle.scl_cutting.proofs.HoldsLemmas.{cut-holds}
use Rattle.scl_cutting.proofs.WordsLemmas.{seen_by_end}
use Rattle.scl_cutting.proofs.words.cut_options.Goals as goal

pub returns : goal.returns
returns g c =
    let tables = g.S.SearchableArgInfo.tables c.args.arg_info in
    let words = words_of c.args.words.items in
    let told = seen_by_end g.T.ArgumentValue.make_gives g.T.ArgumentValue.kind_of g.T.IntoArg.word_of g.T.ArgumentValue.holds_value g.met.T.ExactArg.keeps g.met.T.ExactArg.exact
    c.in_ok-options.options.items (cut (owner_in tables) c.args.double_dashes words) c.in_ok-options.end c.in_ok-is_dangling.is_dangling
    c.in_ok-is_dangling.ensures (cut-holds g.T.ArgumentValue.holds_value tables c.requires c.args.double_dashes words) c.in_ok-options.ensures.items in
    record { options = told.1; end = sym told.0; texts = c.in_ok-options.ensures.texts }
