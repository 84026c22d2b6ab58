use Rattle.std.proofs.Common.{◌-◌, ◌<◌, length, map, slice_index_or, sym, ◌∙◌, arith}
use Rattle.scl_values.specs.Row.{Row, row_of}
use Rattle.scl_tables.proofs.TreeLemmas.{longer_all, shared_more}
use Rattle.scl_tables.proofs.nodes.shared_len.Goals as goal

pub byte_at-requires-in-loop-len-clause-longer : goal.byte_at-requires-in-loop-len-clause-longer
byte_at-requires-in-loop-len-clause-longer g c other =
    let long : (other : Row g.row.K.Denot) → c.loop-len.len < length (slice_index_or (map row_of c.args.rows.now) c.args.first_row other).flag = λ other. let len = c.flag_len-first_len.ensures other in omega (arith, len, c.loop-len-test.true) in
    longer_all (map row_of c.args.rows.now) c.loop-len.len c.args.first_row c.args.end_row c.loop-len.invariant.1 long (c.args.end_row - 1) other (omega (arith, c.requires.some)) (omega (arith, c.requires.some))

pub loop-len-preserved : goal.loop-len-preserved
loop-len-preserved g c = (
  omega (arith, c.loop-len.invariant.0),
  shared_more (map row_of c.args.rows.now) c.loop-len.len c.args.first_row c.args.end_row c.loop-len.invariant.1 c.byte_at.result c.requires.some
      (λ other. let len = c.flag_len-first_len.ensures other in omega (arith, len, c.loop-len-test.true))
      c.byte_at.ensures.byte (λ other. c.byte_at-in-loop-len.ensures.byte other ∙ sym c.if-byte_at.true),
)
