use Rattle.scl_reasons.proofs.TableLaws.{once}
use Rattle.scl_reasons.proofs.explain.of_table.Goals as goal

pub returns : goal.returns
returns c = once
