use Rattle.scl_requests.proofs.SharedLaws.{only_the_bases_differ, rows_are_told_alike}
use Rattle.scl_requests.proofs.laws.of_checkouts.Goals as goal

pub returns-clause-rows_are_told_alike : goal.returns-clause-rows_are_told_alike
returns-clause-rows_are_told_alike c = rows_are_told_alike

pub returns-clause-only_the_bases_differ : goal.returns-clause-only_the_bases_differ
returns-clause-only_the_bases_differ c = only_the_bases_differ
