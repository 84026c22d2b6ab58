use Rattle.scl_text.proofs.OutputLemmas.{copied_entries}
use Rattle.scl_text.proofs.copies.copy_outputs.Goals as goal

pub returns : goal.returns
returns c = copied_entries c.args.outputs.now.entries c.in_ok-copies.copies.entries c.in_ok-copies.ensures.cases
