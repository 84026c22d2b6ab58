use Rattle.std.proofs.Common.{◌≡◌, map, drop, find}
use Rattle.scl_names.specs.Names.{entry_of, names, fits}
use Rattle.scl_names.proofs.compilers.compiler_named.Given as goal

abbrev pub invariant-loop-name : goal.invariant-loop-name
invariant-loop-name l = find (fits l.stem) (map entry_of (drop l.name-index l.all)) ≡ find (fits l.stem) names
