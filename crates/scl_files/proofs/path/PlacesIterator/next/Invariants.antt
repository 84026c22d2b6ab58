use Rattle.std.proofs.Common.{length, ◌-◌, ◌≡◌}
use Rattle.scl_files.specs.Paths.{places_from}
use Rattle.scl_files.proofs.path.PlacesIterator.next.Given as goal

abbrev pub invariant-loop-self : goal.invariant-loop-self
invariant-loop-self l = places_from l.self.path.now l.self.at ≡ places_from l.fn.self.path.now l.fn.self.at

abbrev pub decreases-loop-self : goal.decreases-loop-self
decreases-loop-self l = length l.self.path.now - l.self.at
