use Rattle.scl_text.proofs.FirstVerdictLaws.{first-verdict-is-first}
use Rattle.scl_text.proofs.laws.of_verdicts.Goals as goal

pub returns : goal.returns
returns g c = record { first_verdict_is_first = first-verdict-is-first }
