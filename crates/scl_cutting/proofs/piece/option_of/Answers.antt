use Rattle.std.proofs.Common.{◌≡◌, Some}
use Rattle.scl_values.specs.Row.{row_of}
use Rattle.scl_values.specs.Tables.{owner_in}
use Rattle.scl_values.specs.Cuts.{owned_piece, needs_value}
use Rattle.scl_cutting.proofs.IterLemmas.{next_word_piece}
use Rattle.scl_cutting.proofs.piece.option_of.Goals as goal

pub returns-in-Some-default-clause-piece : goal.returns-in-Some-default-clause-piece
returns-in-Some-default-clause-piece g c =
    let owned : Some (row_of c.in-Some.row.now) ≡ owner_in (g.S.SearchableArgInfo.tables c.args.arg_info.now) c.args.word.items = rw (← c.as_slice.ensures.value) c.in-Some.ensures.owner in
    let piece : needs_value (row_of c.in-Some.row.now) c.in-NextWord.disposition c.in-NextWord.last ≡ owned_piece (Some (row_of c.in-Some.row.now)) c.args.word.items = rw (← c.as_slice-2.ensures.value) c.in-NextWord.ensures.piece in
    next_word_piece g.I.Iterator.next_gives g.T.ArgumentValue.make_gives c.args.arguments.now c.next.new.self c.in-Some-default.value _ _ _ _ _ _ _ _ owned piece c.in-Some-default.ensures.steps c.over_on_error-in-Some-default.ensures.item c.over_on_error-in-Some-default.ensures.over c.make_with_value.ensures.made
