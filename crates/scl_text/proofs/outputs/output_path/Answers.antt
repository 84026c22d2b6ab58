use Rattle.std.proofs.Common.{ap, Some}
use Rattle.std.specs.Option.{option_copied}
use Rattle.scl_text.proofs.OutputLemmas.{path_at-artifacts}
use Rattle.scl_text.proofs.outputs.output_path.Goals as goal

pub returns-in_err-get : goal.returns-in_err-get
returns-in_err-get c = rw (path_at-artifacts c.args.outputs.now.entries c.args.name.now, ← c.in_err-get.ensures.value) (ap option_copied c.from_residual.ensures)

pub returns : goal.returns
returns c = rw (path_at-artifacts c.args.outputs.now.entries c.args.name.now, ← c.in_ok-get.ensures.value) (ap Some c.deref.ensures.value)
