use Rattle.std.proofs.Common.{◌≡◌, ℕ, ◌+◌, ◌*◌, ◌<◌, ◌≤◌, length, slice_index_or, true}
use Rattle.scl_values.specs.Row.{Row, fits}
use Rattle.scl_tables.specs.Probes.{bits}
use Rattle.scl_tables.proofs.search.longest_fit.Given as goal

abbrev pub invariant-loop-len : goal.invariant-loop-len
invariant-loop-len g l =
    (l.len ≤ length l.word)
    × ((k : ℕ) (d : Row g.row.K.Denot) → k < length l.rows → fits (slice_index_or l.rows k d) l.word ≡ true → length (slice_index_or l.rows k d).flag ≤ l.len)
    × (l.initial.probes ≤ l.probes)
    × (l.probes + (l.len + 1) * (bits (length l.rows) + 1) ≤ l.initial.probes + (length l.word + 1) * (bits (length l.rows) + 1))

abbrev pub decreases-loop-len : goal.decreases-loop-len
decreases-loop-len g l = l.len
