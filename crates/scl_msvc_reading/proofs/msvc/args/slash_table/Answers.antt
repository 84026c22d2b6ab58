use Rattle.scl_msvc_reading.specs.Rows.{msvc_rows}
use Rattle.scl_msvc_reading.proofs.msvc.args.slash_table.Goals as goal

pub returns : goal.returns
unfolding msvc_rows
returns c = c.with_nodes.ensures
