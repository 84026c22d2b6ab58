use Rattle.std.proofs.Common.{◌≡◌, drop}
use Rattle.scl_catalogue.specs.Found.{behind_equals}
use Rattle.scl_catalogue.proofs.text.behind_equals.Given as goal

abbrev pub invariant-loop-at : goal.invariant-loop-at
invariant-loop-at l = behind_equals (drop l.at l.word) ≡ behind_equals l.word
