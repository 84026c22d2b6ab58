use Rattle.scl_requests.proofs.VerdictLaws.{fronts_tell, one_base_suffices, objects_made_alike_say_the_same}
use Rattle.scl_requests.proofs.laws.of_what_is_said.Goals as goal

pub returns-clause-one_base_suffices : goal.returns-clause-one_base_suffices
returns-clause-one_base_suffices c = one_base_suffices

pub returns-clause-fronts_tell : goal.returns-clause-fronts_tell
returns-clause-fronts_tell c = fronts_tell

pub returns-clause-made_alike : goal.returns-clause-made_alike
returns-clause-made_alike c = objects_made_alike_say_the_same
