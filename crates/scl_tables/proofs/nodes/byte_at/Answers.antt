use Rattle.std.proofs.Common.{◌<◌, length, arith}
use Rattle.scl_tables.proofs.TreeLemmas.{longer_there}
use Rattle.scl_tables.proofs.nodes.byte_at.Goals as goal

pub bounds-as_bytes-depth : goal.bounds-as_bytes-depth
bounds-as_bytes-depth g c =
    rw (c.as_bytes.ensures.value, c.flag.ensures) (longer_there c.args.rows.now c.args.index c.args.depth c.index-rows-index.result c.requires.within c.index-rows-index.is c.requires.longer)

pub returns-clause-fits : goal.returns-clause-fits
returns-clause-fits g c =
    let longer = longer_there c.args.rows.now c.args.index c.args.depth c.index-rows-index.result c.requires.within c.index-rows-index.is c.requires.longer in
    let below : c.args.depth < length c.as_bytes.result.now = rw (c.as_bytes.ensures.value, c.flag.ensures) longer in
    omega (arith, below, c.as_bytes.type_inv.0)
