use Rattle.std.proofs.Common.{◌≡◌, drop}
use Rattle.std.specs.List.{list_any}
use Rattle.scl_key.specs.Views.{parts_of}
use Rattle.scl_rounds.specs.Vain.{hides_else, is_hidden_else}
use Rattle.scl_rounds.specs.Views.{key_in, machine_of}
use Rattle.scl_rounds.proofs.vain.is_hidden_else.Given as goal

abbrev pub invariant-loop-part : goal.invariant-loop-part
invariant-loop-part l =
    list_any (hides_else (key_in l.told) (machine_of l.told)) (parts_of (drop l.part-index l.told.key.now.parts.now)) ≡ is_hidden_else (key_in l.told) (machine_of l.told)
