use Rattle.std.proofs.Common.{◌≡◌, ◌++◌, drop, map}
use Rattle.std.specs.List.{filter_map}
use Rattle.scl_key.specs.Views.{parts_of}
use Rattle.scl_rounds.specs.Shown.{shown, shown_by}
use Rattle.scl_rounds.specs.Views.{key_in, machine_of}
use Rattle.scl_rounds.proofs.shown.shown.Given as goal

abbrev pub invariant-loop-part : goal.invariant-loop-part
invariant-loop-part l =
    map (λ text. text.now) l.texts.items ++ filter_map (shown_by (key_in l.told) (machine_of l.told)) (parts_of (drop l.part-index l.told.key.now.parts.now))
    ≡ shown (key_in l.told) (machine_of l.told)
