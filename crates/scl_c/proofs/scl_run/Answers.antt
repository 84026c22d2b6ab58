use Rattle.std.proofs.Common.{rules, w32, to_z, of_z}
use Rattle.scl_c.proofs.TextLemmas.{again_told}
use Rattle.scl_c.proofs.scl_run.Goals as goal

pub returns-clause-read_again : goal.returns-clause-read_again
returns-clause-read_again c =
    again_told c.args.request.now c.args.room.now c.respond.new.room c.respond.new.wanted (to_z w32 (of_z w32 c.respond.result)) (search rules)
