use Rattle.std.proofs.Common.{◌≡◌, map, drop, find}
use Rattle.scl_names.specs.Launchers.{is_option, options}
use Rattle.scl_names.specs.LaunchersGiven.{option_by}
use Rattle.scl_names.proofs.options.standing_of.Given as goal

abbrev pub invariant-loop-row : goal.invariant-loop-row
invariant-loop-row l = find (is_option l.launcher l.word) (map option_by (drop l.row-index l.all)) ≡ find (is_option l.launcher l.word) options
