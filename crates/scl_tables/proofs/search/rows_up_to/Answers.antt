use Rattle.std.proofs.Common.{◌≡◌, ◌+◌, ◌-◌, ◌/◌, slice_index_or, false, true, sym, ◌∙◌, arith}
use Rattle.std.specs.Ordering.{is_gt}
use Rattle.scl_values.specs.Row.{Row}
use Rattle.scl_tables.proofs.BitsLemmas.{bits_half}
use Rattle.scl_tables.proofs.OrderLemmas.{cmp, above_from, below_to}
use Rattle.scl_tables.proofs.search.rows_up_to.Goals as goal

pub loop-low-preserved-then-is_gt : goal.loop-low-preserved-then-is_gt
loop-low-preserved-then-is_gt g c =
    let inv = c.loop-low.invariant in
    let middle = c.loop-low.low + (c.loop-low.high - c.loop-low.low) / 2 in
    let here : (d : Row g.row.K.Denot) → is_gt (cmp (slice_index_or c.args.rows.now middle d).flag c.args.key.now) ≡ true =
    λ d. rw (c.look-row.ensures.row d, ← c.flag.ensures, ← c.as_bytes.ensures.value, ← c.cmp.ensures) (sym c.is_gt.ensures ∙ c.if-is_gt.true) in
    let half = bits_half (c.loop-low.high - c.loop-low.low) (middle - c.loop-low.low) (omega arith) (omega arith) in (
      omega arith,
      omega arith,
      inv.2,
      λ k d h l. above_from c.args.rows.now c.requires c.args.key.now middle here k d h (omega arith),
      omega (arith, c.look-row.ensures.count.keeps),
      omega (arith, half, inv.5, c.look-row.ensures.count.most),
    )

pub loop-low-preserved : goal.loop-low-preserved
loop-low-preserved g c =
    let inv = c.loop-low.invariant in
    let middle = c.loop-low.low + (c.loop-low.high - c.loop-low.low) / 2 in
    let here : (d : Row g.row.K.Denot) → is_gt (cmp (slice_index_or c.args.rows.now middle d).flag c.args.key.now) ≡ false =
    λ d. rw (c.look-row.ensures.row d, ← c.flag.ensures, ← c.as_bytes.ensures.value, ← c.cmp.ensures) (sym c.is_gt.ensures ∙ c.if-is_gt.false) in
    let half = bits_half (c.loop-low.high - c.loop-low.low) (c.loop-low.high - (middle + 1)) (omega arith) (omega arith) in (
      omega arith,
      omega arith,
      λ k d h. below_to c.args.rows.now c.requires c.args.key.now middle (omega arith) here k d (omega arith),
      inv.3,
      omega (arith, c.look-row.ensures.count.keeps),
      omega (arith, half, inv.5, c.look-row.ensures.count.most),
    )

pub returns-clause-above : goal.returns-clause-above
returns-clause-above g c = λ k d h l. c.loop-low.invariant.3 k d (omega arith) l
