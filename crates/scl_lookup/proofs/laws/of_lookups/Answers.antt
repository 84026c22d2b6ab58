use Rattle.scl_lookup.proofs.LookupLaws.{both_are_both, both_are_within}
use Rattle.scl_lookup.proofs.TalkLaws.{lookups_end}
use Rattle.scl_lookup.proofs.laws.of_lookups.Goals as goal

pub returns-clause-end : goal.returns-clause-end
returns-clause-end c = lookups_end

pub returns-clause-both : goal.returns-clause-both
returns-clause-both c = both_are_both

pub returns-clause-within : goal.returns-clause-within
returns-clause-within c = both_are_within
