use Rattle.scl_lookup.proofs.ListLaws.{keys_are_decided, lists_are_right}
use Rattle.scl_lookup.proofs.laws.of_lists.Goals as goal

pub returns-clause-decided : goal.returns-clause-decided
returns-clause-decided c = keys_are_decided

pub returns-clause-right : goal.returns-clause-right
returns-clause-right c = lists_are_right
