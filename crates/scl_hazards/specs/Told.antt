-- What is reported of a command line: its hazards, what its compiler reads, writes, asks and loads, and whether that is known of
-- each option.
use Rattle.std.specs.Prelude.{ℕ, List, [], Option, None, Result, Ok, Err}
use Rattle.std.specs.Option.{option_map}
use Rattle.scl_catalogue.specs.Found.{LineSeen}
use Rattle.scl_effects.specs.Effects.{Effect, effects_found}
use Rattle.scl_effects.specs.Known.{unknown_of}
use Rattle.scl_text.specs.Records.{Parsed, Verdict}
use Rattle.scl_hazards.specs.Hazards.{Hazard, Known, hazards_found}
use Rattle.scl_hazards.specs.declared.told.Told as declared

-- the hazards, the effects, and the first option of which nothing is known
pub record Told : Type 0 where
  pub hazards : List Hazard
  pub effects : List Effect
  pub unknown : Option (List ℕ)

-- what is reported of a line by what is known of its compiler
unfoldable pub told_of : Known → LineSeen → Told
told_of known l = record { hazards = hazards_found known.catalogue l; effects = effects_found known.catalogue l; unknown = unknown_of known.catalogue l }

abbrev pub nothing : Told
nothing = record { hazards = []; effects = []; unknown = None }

-- of a command line that has a record
abbrev pub of_record : (Parsed → Told) → Result Parsed Verdict → Told
of_record told (Ok p) = told p
of_record told (Err said) = nothing

-- what the code reports
abbrev pub given : declared.Told → Told
given t = record { hazards = t.hazards.items; effects = t.effects.items; unknown = option_map (λ name. name.items) t.unknown }
