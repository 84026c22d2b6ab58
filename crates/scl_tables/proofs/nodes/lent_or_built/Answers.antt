use Rattle.std.proofs.Common.{map}
use Rattle.scl_values.specs.Row.{row_of}
use Rattle.scl_tables.proofs.CheckedLemmas.{made_leads}
use Rattle.scl_tables.proofs.nodes.lent_or_built.Goals as goal

pub returns-in_ok-built-clause-leads : goal.returns-in_ok-built-clause-leads
returns-in_ok-built-clause-leads g c = made_leads (map (row_of {K = g.row.K.Denot}) c.args.rows.now) c.in_ok-built.built.items c.in_ok-built.ensures
