use Rattle.std.proofs.Common.{◌≡◌, ℕ, slice_index, slice_index_or, map, arith, subst, sym, ◌∙◌}
use Rattle.scl_values.specs.Row.{row_of}
use Rattle.scl_tables.proofs.TreeLemmas.{one_more, child_rises}
use Rattle.scl_tables.proofs.nodes.child_at.Goals as goal
use Rattle.scl_tables.proofs.nodes.child_at.Goals.{then-loop-end_row-test+else-byte_at-byte, else-loop-end_row-test}

pub loop-end_row-init : goal.loop-end_row-init
loop-end_row-init g c = (
  omega arith,
  omega (arith, c.requires.within),
  λ k other h l. let P : ℕ → Type 0 = λ i. slice_index (slice_index_or (map row_of c.args.rows.now) i other).flag c.args.node.now.depth ≡ c.byte_at-byte.result in
      let same : c.args.first_row ≡ k = omega arith in subst P same (c.byte_at-byte.ensures.byte other),
)

pub loop-end_row-preserved : goal.loop-end_row-preserved
loop-end_row-preserved g c =
    let inv = c.loop-end_row.invariant in (
      omega (arith, inv.0),
      omega (arith, c.loop-end_row-test.true),
      λ k other h l. let P : ℕ → Type 0 = λ i. slice_index (slice_index_or (map row_of c.args.rows.now) i other).flag c.args.node.now.depth ≡ c.byte_at-byte.result in
          one_more P c.args.first_row c.loop-end_row.end_row (λ i. inv.2 i other) (c.byte_at.ensures.byte other ∙ c.if-byte_at-byte.true) k h l,
    )

pub shared_len-depth-requires-clause-rise : goal.shared_len-depth-requires-clause-rise
shared_len-depth-requires-clause-rise g c =
    let inv = c.loop-end_row.invariant in
    child_rises (map row_of c.args.rows.now) c.args.node.now.depth c.args.node.now.first_row c.args.node.now.end_row c.requires.rise c.args.first_row c.loop-end_row.end_row c.byte_at-byte.result c.requires.from (omega (arith, inv.0)) inv.1
    (λ k other p q. c.requires.long k other p (omega (arith, q, inv.1))) inv.2

pub returns-clause-same : goal.returns-clause-same
returns-clause-same g c k other p q = c.loop-end_row.invariant.2 k other p (omega (arith, q, c.bare_node.ensures.end)) ∙ sym c.bare_node.ensures.byte

pub returns-clause-next : goal.returns-clause-next
returns-clause-next g c other h e =
    elim c.loop-end_row-test.branch [
      | then-loop-end_row-test+else-byte_at-byte w ↦ let Q : ℕ → Type 0 = λ i. slice_index (slice_index_or (map row_of c.args.rows.now) i other).flag c.args.node.now.depth ≡ c.byte_at-byte.result in
          absurd (w.if-byte_at-byte.false (sym (w.byte_at.ensures.byte other) ∙ subst Q c.bare_node.ensures.end (e ∙ c.bare_node.ensures.byte)))
      | else-loop-end_row-test w ↦ absurd (omega (arith, h, c.bare_node.ensures.end))
    ]
