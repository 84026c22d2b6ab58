use Rattle.std.proofs.Common.{◌≡◌, ℕ, ◌+◌, ◌-◌, ◌<◌, ◌≤◌, length, slice_index_or, false, true}
use Rattle.std.specs.Ordering.{is_gt}
use Rattle.scl_values.specs.Row.{Row}
use Rattle.scl_tables.specs.Probes.{bits}
use Rattle.scl_tables.proofs.OrderLemmas.{cmp}
use Rattle.scl_tables.proofs.search.rows_up_to.Given as goal

abbrev pub invariant-loop-low : goal.invariant-loop-low
invariant-loop-low g l =
    (l.low ≤ l.high) × (l.high ≤ length l.rows)
    × ((k : ℕ) (d : Row g.row.K.Denot) → k < l.low → is_gt (cmp (slice_index_or l.rows k d).flag l.key) ≡ false)
    × ((k : ℕ) (d : Row g.row.K.Denot) → l.high ≤ k → k < length l.rows → is_gt (cmp (slice_index_or l.rows k d).flag l.key) ≡ true)
    × (l.initial.probes ≤ l.probes) × (l.probes + bits (l.high - l.low) ≤ l.initial.probes + bits (length l.rows))

abbrev pub decreases-loop-low : goal.decreases-loop-low
decreases-loop-low g l = l.high - l.low
