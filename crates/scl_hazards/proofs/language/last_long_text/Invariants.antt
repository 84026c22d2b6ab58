use Rattle.std.proofs.Common.{◌≡◌, map, drop, None}
use Rattle.std.specs.Option.{option_copied}
use Rattle.scl_catalogue.specs.Views.{seen_of}
use Rattle.scl_hazards.specs.Languages.{last_long_text}
use Rattle.scl_hazards.proofs.language.last_long_text.Given as goal

abbrev pub invariant-loop-option : goal.invariant-loop-option
invariant-loop-option l = last_long_text (option_copied l.text) (map seen_of (drop l.option-index l.options)) ≡ last_long_text None (map seen_of l.options)
