use Rattle.std.proofs.Common.{◌≡◌, drop}
use Rattle.scl_values.specs.Words.{words_of}
use Rattle.scl_names.specs.Launchers.{is_one_of}
use Rattle.scl_names.proofs.launchers.is_among.Given as goal

abbrev pub invariant-loop-name : goal.invariant-loop-name
invariant-loop-name l = is_one_of (words_of (drop l.name-index l.names)) l.stem ≡ is_one_of (words_of l.names) l.stem
