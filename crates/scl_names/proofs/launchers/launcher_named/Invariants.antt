use Rattle.std.proofs.Common.{◌≡◌, map, drop, find}
use Rattle.scl_names.specs.Launchers.{is_text, launchers}
use Rattle.scl_names.proofs.launchers.launcher_named.Given as goal

abbrev pub invariant-loop-text : goal.invariant-loop-text
invariant-loop-text l = find (is_text l.stem) (map (λ text. text.now) (drop l.text-index l.all)) ≡ find (is_text l.stem) launchers
