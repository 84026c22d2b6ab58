-- Hazards: what a catalogue says of the built command of a line.
use Rattle.std.specs.Prelude.{ℕ, Bool, List, [], ◌∷◌, codes, Option, None, Some}
use Rattle.std.specs.List.{flat_map}
use Rattle.scl_catalogue.specs.Form.{Catalogue, Entry, Tells}
use Rattle.scl_catalogue.specs.Form as form
use Rattle.scl_catalogue.specs.Found.{LineSeen, found}
use Rattle.scl_catalogue.specs.declared.case.Compiler.{Compiler}
use Rattle.scl_catalogue.specs.declared.case.Compiler.TheVariants as compilers
use Rattle.scl_catalogue.specs.declared.case.Version.{Version}
use Rattle.scl_catalogue.specs.declared.entry.Danger.{Danger}
use Rattle.scl_catalogue.specs.declared.entry.Danger.TheVariants as dangers

-- what is known of a compiler: a catalogue, the version that is meant, where one is given, and whether it is Apple's clang
pub record Known : Type 0 where
  pub catalogue : Catalogue
  pub version : Option Version
  pub is_apple : Bool

-- how bad a hazard is, its name, and what happens with the built command
pub record Hazard : Type 0 where
  pub danger : Danger
  pub name : List ℕ
  pub consequence : List ℕ

abbrev pub told_as : Tells → List ℕ → List ℕ → Option Hazard
told_as (form.Hazard danger) name consequence = Some (record { danger = danger; name = name; consequence = consequence })
told_as (form.Effect verb file) name consequence = None
told_as form.Plain name consequence = None
told_as (form.Key doing) name consequence = None
told_as (form.Run doing) name consequence = None
told_as (form.Names naming) name consequence = None
told_as (form.Brings what) name consequence = None

-- the hazard that an entry states, if it states one
abbrev pub hazard_told : Entry → Option Hazard
hazard_told e = told_as e.tells e.name e.says

abbrev pub listed : Option Hazard → List Hazard
listed None = []
listed (Some hazard) = hazard ∷ []

-- the hazards that entries state, in their order
abbrev pub hazards_among : List Entry → List Hazard
hazards_among entries = flat_map (λ entry. listed (hazard_told entry)) entries

-- the hazards of a line that a catalogue knows, in its order
abbrev pub hazards_found : Catalogue → LineSeen → List Hazard
hazards_found catalogue line = hazards_among (found catalogue line)

-- ---- names

abbrev pub danger_name : Danger → List ℕ
danger_name dangers.Object = codes "object"
danger_name dangers.Failure = codes "failure"
danger_name dangers.SideFile = codes "side-file"
danger_name dangers.Messages = codes "messages"
danger_name dangers.Run = codes "run"

abbrev pub compiler_name : Compiler → List ℕ
compiler_name compilers.Gcc = codes "gcc"
compiler_name compilers.Clang = codes "clang"
compiler_name compilers.ClangCl = codes "clang-cl"
compiler_name compilers.Cl = codes "cl"
compiler_name compilers.Diab = codes "diab"
compiler_name compilers.Tasking = codes "tasking"
