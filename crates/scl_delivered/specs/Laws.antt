-- What holds of keys as they are delivered.
use Rattle.std.specs.Prelude.{◌≡◌, ℕ, ◌^◌, ◌<◌, Bool, true, List, [], length, map, filter}
use Rattle.std.specs.List.{list_all}
use Rattle.scl_values.specs.Each.{Each}
use Rattle.scl_catalogue.specs.Lookup.{Lexicon}
use Rattle.scl_text.specs.Records.{Parsed, artifact}
use Rattle.scl_base_dirs.specs.Unmapped.{unmapped}
use Rattle.scl_reader.specs.declared.compiler.Compiler.{Compiler}
use Rattle.scl_key.specs.Keys.{Key}
use Rattle.scl_key.specs.Parts.{Part, is, output, plan, asked, run, run_else, pch, fields}
use Rattle.scl_shared_key.specs.declared.said.InObject.TheVariants.{Yes}
use Rattle.scl_shared_key.specs.Fields.{told_row}
use Rattle.scl_shared_key.specs.Objects.{is_macro}
use Rattle.scl_shared_key.specs.Usuals.{is_usual}
use Rattle.scl_shared_key.specs.Verdicts.{verdict}
use Rattle.scl_delivered.specs.Delivered.{Delivered, delivered, object_by, told_part}
use Rattle.scl_delivered.specs.Macros.{macros_in, runs_in, without_macros}

-- The row of a part that is told has the fields of its row, told: names stand.
abbrev pub PartsAreToldAsRows : Type 0
PartsAreToldAsRows = (dirs : List (List ℕ)) (part : Part) → list_all is_usual dirs ≡ true → fields (told_part dirs part) ≡ told_row dirs (fields part)

-- one is the other but for what is said of the object
pub record HasTheRowsOf (one other : Delivered) : Type 0 where
  pub parts_are : one.parts ≡ other.parts
  pub direct_is : one.direct ≡ other.direct
  pub shown_are : one.shown ≡ other.shown

-- a key whose object may name a directory is as it is without directories
abbrev pub NamedKeysStand : Type 0
NamedKeysStand =
    (lexicon : Lexicon) (c : Compiler) (p : Parsed) (dirs : List (List ℕ)) (keeps_macros : Bool) (key : Key)
    → (verdict dirs (object_by lexicon c p key)).in_object ≡ Yes → HasTheRowsOf (delivered lexicon c p dirs keeps_macros key) (delivered lexicon c p [] keeps_macros key)

-- no macro of a key that keeps its macros stands at its end, and without directories its parts are as they are
abbrev pub KeptMacrosStand : Type 0
KeptMacrosStand =
    (lexicon : Lexicon) (c : Compiler) (p : Parsed) (dirs : List (List ℕ)) (key : Key)
    → ((delivered lexicon c p dirs true key).shown ≡ []) × ((delivered lexicon c p [] true key).parts ≡ key.parts)

-- each run has the macros that stand at the end, all of them and no other
abbrev pub MacrosStandInRuns : Type 0
MacrosStandInRuns =
    (lexicon : Lexicon) (c : Compiler) (p : Parsed) (keeps_macros : Bool) (key : Key)
    → ((delivered lexicon c p [] keeps_macros key).shown ≡ [] → ⊥)
    → Each (λ words. filter is_macro words ≡ (delivered lexicon c p [] keeps_macros key).shown) (runs_in (delivered lexicon c p [] keeps_macros key).parts)

-- ---- what a delivered key decides

-- a part with the directories put back
abbrev pub untold_part : List (List ℕ) → Part → Part
untold_part dirs (is row) = is (map (unmapped dirs) row)
untold_part dirs (output made) = output (artifact (unmapped dirs made.name) (unmapped dirs made.path) made.optional)
untold_part dirs (plan words) = plan (map (unmapped dirs) words)
untold_part dirs (asked ask name) = asked ask (unmapped dirs name)
untold_part dirs (run words) = run (map (unmapped dirs) words)
untold_part dirs (run_else words) = run_else (map (unmapped dirs) words)
untold_part dirs (pch searched) = pch (map (unmapped dirs) searched)
untold_part dirs part = part

-- Parts are read back. So no two are told alike.
abbrev pub ToldPartsAreReadBack : Type 0
ToldPartsAreReadBack = (dirs : List (List ℕ)) (parts : List Part) → length dirs < 2 ^ 64 → map (untold_part dirs) (map (told_part dirs) parts) ≡ parts

-- two keys have the same macros, and but for these the same parts, runs with all their words among them
pub record AreOneButForPlaces (one other : Key) : Type 0 where
  pub parts_are : without_macros one.parts ≡ without_macros other.parts
  pub macros_are : macros_in one.parts ≡ macros_in other.parts

-- Two keys that are delivered alike with the same directories differ at most in where macros stand among the common words and in plans.
abbrev pub DeliveredKeysDecide : Type 0
DeliveredKeysDecide =
    (lexicon other_lexicon : Lexicon) (c d : Compiler) (p q : Parsed) (dirs : List (List ℕ)) (keeps also_keeps : Bool) (one other : Key)
    → length dirs < 2 ^ 64 → delivered lexicon c p dirs keeps one ≡ delivered other_lexicon d q dirs also_keeps other → AreOneButForPlaces one other
