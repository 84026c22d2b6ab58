use Rattle.std.proofs.Common.{◌≡◌, ◌++◌, length}
use Rattle.std.specs.List.{flat_map}
use Rattle.scl_readings.specs.Lines.{parts}
use Rattle.scl_patterns.specs.Sources.{joined, spliced}
use Rattle.scl_patterns.proofs.source.joined.Given as goal

abbrev pub invariant-loop-part : goal.invariant-loop-part
invariant-loop-part l = l.joined.items ++ flat_map spliced (parts 0x5c l.rest) ≡ joined l.fn.text

abbrev pub decreases-loop-part : goal.decreases-loop-part
decreases-loop-part l = length l.rest
