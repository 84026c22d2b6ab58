use Rattle.std.proofs.Common.{◌≡◌, map, drop, None}
use Rattle.std.specs.Option.{option_copied}
use Rattle.scl_catalogue.specs.Views.{seen_of}
use Rattle.scl_hazards.specs.Languages.{text_at_input}
use Rattle.scl_hazards.proofs.language.text_at_input.Given as goal

abbrev pub invariant-loop-option : goal.invariant-loop-option
invariant-loop-option l = text_at_input (option_copied l.text) (map seen_of (drop l.option-index l.options)) ≡ text_at_input None (map seen_of l.options)
