-- The text of the catalogue that is built in.
use Rattle.std.specs.Prelude.{ℕ, List, ◌++◌}
use Rattle.scl_catalogue_default.specs.declared.effects.TheConstants.{EFFECTS}
use Rattle.scl_catalogue_default.specs.declared.hazards.TheConstants.{HAZARDS}

-- catalogue/hazards.txt
unfoldable pub hazards_text : List ℕ
hazards_text = HAZARDS.now

-- catalogue/effects.txt
unfoldable pub effects_text : List ℕ
effects_text = EFFECTS.now

-- the one text, and the other one after it
unfoldable pub built_in_text : List ℕ
built_in_text = hazards_text ++ effects_text
