use Rattle.std.proofs.Common.{refl}
use Rattle.scl_text.proofs.OutputLemmas.{put_entry}
use Rattle.scl_text.proofs.outputs.put_output.Goals as goal

pub returns-clause-ok : goal.returns-clause-ok
returns-clause-ok c = rw (c.in_ok-insert.ensures.entries, put_entry, ← c.in_ok-name.ensures.ok) refl
