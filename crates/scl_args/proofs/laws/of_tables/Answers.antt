use Rattle.scl_tables.proofs.OrderLemmas.{rising}
use Rattle.scl_args.proofs.OwnerLaws.{owner-longest, owner_in-is, last_table_wins}
use Rattle.scl_args.proofs.FitLaws.{fits_are_unique, longest_fit_owns, last_fit_owns}
use Rattle.scl_tables.proofs.BitsLemmas.{counts_digits}
use Rattle.scl_tables.proofs.TablesLemmas.{looks_in_append}
use Rattle.scl_args.proofs.laws.of_tables.Goals as goal

pub returns-clause-flags_rise : goal.returns-clause-flags_rise
returns-clause-flags_rise g c = rising

pub returns-clause-owner_is_longest_fit : goal.returns-clause-owner_is_longest_fit
returns-clause-owner_is_longest_fit g c = owner-longest

pub returns-clause-fits_are_unique : goal.returns-clause-fits_are_unique
returns-clause-fits_are_unique g c = fits_are_unique

pub returns-clause-longest_fit_owns : goal.returns-clause-longest_fit_owns
returns-clause-longest_fit_owns g c = longest_fit_owns

pub returns-clause-last_fit_owns : goal.returns-clause-last_fit_owns
returns-clause-last_fit_owns g c = λ before after row word table fit none. last_fit_owns row after word fit none before table

pub returns-clause-owner_is_of_all_rows : goal.returns-clause-owner_is_of_all_rows
returns-clause-owner_is_of_all_rows g c = owner_in-is

pub returns-clause-last_table_wins : goal.returns-clause-last_table_wins
returns-clause-last_table_wins g c = last_table_wins

pub returns-clause-counts_digits : goal.returns-clause-counts_digits
returns-clause-counts_digits g c = counts_digits

pub returns-clause-looks_add_up : goal.returns-clause-looks_add_up
returns-clause-looks_add_up g c = looks_in_append
