use Rattle.scl_values.specs.Tables.{owner_in, all_rows}
use Rattle.scl_args.proofs.OwnerLaws.{owner_in-is}
use Rattle.scl_args.proofs.OriginLaws.{cut_came, none_owned}
use Rattle.scl_args.proofs.EmptyLaws.{empty_values_are_seen, judged-clear}
use Rattle.scl_args.proofs.NextFlagLaws.{is_last-next}
use Rattle.scl_args.proofs.AgainLaws.{prints_again, prints_owned}
use Rattle.scl_args.proofs.laws.of_words_cut_again.Goals as goal

pub returns-clause-options_came : goal.returns-clause-options_came
returns-clause-options_came g c = λ tables dashes words. cut_came (owner_in tables) dashes (all_rows tables) (owner_in-is tables) words

pub returns-clause-raw_and_unknown_words_have_no_owner : goal.returns-clause-raw_and_unknown_words_have_no_owner
returns-clause-raw_and_unknown_words_have_no_owner g c = λ tables dashes words.
    let all = cut_came (owner_in tables) dashes (all_rows tables) (owner_in-is tables) words in
    (all.unmarked, all.marked, all.in_order, all.mark_first, none_owned (owner_in tables) dashes all.unmarked all.came)

pub returns-clause-empty_values_are_seen : goal.returns-clause-empty_values_are_seen
returns-clause-empty_values_are_seen g c = empty_values_are_seen

pub returns-clause-judged_options_are_clear : goal.returns-clause-judged_options_are_clear
returns-clause-judged_options_are_clear g c = judged-clear

pub returns-clause-next_flag_suffices : goal.returns-clause-next_flag_suffices
returns-clause-next_flag_suffices g c = λ rows table f clear. is_last-next f rows table clear

pub returns-clause-printed_words_have_their_owner : goal.returns-clause-printed_words_have_their_owner
returns-clause-printed_words_have_their_owner g c = prints_owned

pub returns-clause-prints_again : goal.returns-clause-prints_again
returns-clause-prints_again g c = prints_again
