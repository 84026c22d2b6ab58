use Rattle.scl_lookup.proofs.KeyLaws.{lookups_give_keys, texts_decide_answers, two_rounds_suffice}
use Rattle.scl_lookup.proofs.laws.of_keys.Goals as goal

pub returns-clause-give : goal.returns-clause-give
returns-clause-give c = lookups_give_keys

pub returns-clause-rounds : goal.returns-clause-rounds
returns-clause-rounds c = two_rounds_suffice

pub returns-clause-decide : goal.returns-clause-decide
returns-clause-decide c = texts_decide_answers
