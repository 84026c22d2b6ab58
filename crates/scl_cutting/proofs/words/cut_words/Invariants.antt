use Rattle.std.proofs.Common.{◌≡◌, All, true, List, Result}
use Rattle.scl_values.specs.declared.argument.Argument.{Argument}
use Rattle.scl_values.specs.declared.error.ArgParseError.{ArgParseError}
use Rattle.scl_values.specs.Tables.{owner_in}
use Rattle.scl_values.specs.Cuts.{cut}
use Rattle.scl_cutting.specs.Iter.{AreItemsOf, cutter}
use Rattle.scl_values.specs.Texts.{is_delimited_by_ascii}
use Rattle.scl_values.specs.Words.{words_of}
use Rattle.scl_cutting.specs.Runs.{after_options, left_of}
use Rattle.scl_cutting.proofs.words.cut_words.Given as goal

abbrev pub invariant-loop-item : goal.invariant-loop-item
invariant-loop-item g l =
    let a = l.arguments in
    ((items : List (Result (Argument g.row.T.Denot) ArgParseError))
    → AreItemsOf g.T.ArgumentValue.make_gives (left_of (cutter a.arguments (owner_in (g.S.SearchableArgInfo.tables a.arg_info)) a.double_dashes a.only_raw a.ended)) items
    → AreItemsOf g.T.ArgumentValue.make_gives (cut (owner_in (g.S.SearchableArgInfo.tables l.fn.arg_info)) l.fn.double_dashes (words_of l.fn.words.items)) (after_options l.options.items items))
    × All (λ option. is_delimited_by_ascii option ≡ true) l.options.items
