use Rattle.scl_requests.proofs.TextLaws.{texts_end_alike}
use Rattle.scl_requests.proofs.laws.of_descriptions.Goals as goal

pub returns : goal.returns
returns c = texts_end_alike
