use Rattle.scl_files.proofs.ExpandLaws.{one_by_one, msvc_stands, absent_stays, unreadable_stays, open_is_absent, plain_words, open_once}
use Rattle.scl_files.proofs.laws.of_expansion.Goals as goal

pub returns-clause-words_are_expanded_one_by_one : goal.returns-clause-words_are_expanded_one_by_one
returns-clause-words_are_expanded_one_by_one c = one_by_one

pub returns-clause-words_of_msvc_files_stand : goal.returns-clause-words_of_msvc_files_stand
returns-clause-words_of_msvc_files_stand c = msvc_stands

pub returns-clause-absent_files_leave_their_words : goal.returns-clause-absent_files_leave_their_words
returns-clause-absent_files_leave_their_words c = absent_stays

pub returns-clause-unreadable_files_leave_their_words : goal.returns-clause-unreadable_files_leave_their_words
returns-clause-unreadable_files_leave_their_words c = unreadable_stays

pub returns-clause-open_files_are_absent_inside : goal.returns-clause-open_files_are_absent_inside
returns-clause-open_files_are_absent_inside c = open_is_absent

pub returns-clause-plain_words_stand : goal.returns-clause-plain_words_stand
returns-clause-plain_words_stand c = plain_words

pub returns-clause-each_file_is_open_once : goal.returns-clause-each_file_is_open_once
returns-clause-each_file_is_open_once c = open_once
