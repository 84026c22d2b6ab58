use Rattle.std.proofs.Common.{take}
use Rattle.scl_values.specs.Words.{words_of}
use Rattle.scl_load.specs.Loads.{AreAbsent, AreSame, IsLookedFor}
use Rattle.scl_load.proofs.look.look_for_each.Given as goal

abbrev pub invariant-loop-path : goal.invariant-loop-path
invariant-loop-path g l = IsLookedFor (g.D.Disk.holds l.disk) (AreAbsent l.sought (words_of (take l.path-index l.paths))) (AreSame l.sought (words_of (take l.path-index l.paths))) l.initial.view l.view l.any
