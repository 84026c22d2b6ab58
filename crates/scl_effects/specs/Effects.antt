-- What the compiler of a command line reads, writes, asks and loads, as a catalogue states it.
use Rattle.std.specs.Prelude.{ℕ, Bool, List, [], ◌∷◌, ◌++◌, map, if◌then◌else◌}
use Rattle.std.specs.List.{flat_map}
use Rattle.scl_catalogue.specs.Form.{Catalogue, Entry, Tells}
use Rattle.scl_catalogue.specs.Form as form
use Rattle.scl_catalogue.specs.Found.{LineSeen, OptionSeen, behind_equals, found}
use Rattle.scl_catalogue.specs.Speaking.{speaks_of}
use Rattle.scl_catalogue.specs.declared.entry.Verb.{Verb}
use Rattle.scl_catalogue.specs.declared.seen.Standing.{Standing}
use Rattle.scl_catalogue.specs.declared.seen.Standing.TheVariants as standing
use Rattle.scl_catalogue.specs.declared.speaking.Level.{Level}
use Rattle.scl_catalogue.specs.declared.speaking.Level.TheVariants as level
use Rattle.scl_effects.specs.Files.{filled, has_value, is_like, without_star}

-- what is done with a file of this name, or with each whose name begins so
pub record Effect : Type 0 where
  pub verb : Verb
  pub is_like : Bool
  pub name : List ℕ

abbrev pub value_by : Standing → (name value : List ℕ) → List ℕ
value_by standing.Raw name value = value
value_by standing.Unknown name value = behind_equals name
value_by standing.Known name value = value

-- the value of an option: of one that no row fits what stands after its first `=`
abbrev pub value_of : OptionSeen → List ℕ
value_of o = value_by o.standing o.name o.value

-- the value of the option if the entry speaks of it
abbrev pub value_spoken : LineSeen → Entry → Level → OptionSeen → List (List ℕ)
value_spoken l e level o = if speaks_of l.compiler l.version level o e then value_of o ∷ [] else []

-- the values of the options that the entry speaks of: of those of the line, then of the inner ones
abbrev pub values_spoken : LineSeen → Entry → List (List ℕ)
values_spoken l e = flat_map (value_spoken l e level.Outer) l.options ++ flat_map (value_spoken l e level.Inner) l.inner

-- an effect by the pattern of its name, of an option with this value
abbrev pub effect_of : LineSeen → Verb → (file value : List ℕ) → Effect
effect_of l verb file value = record { verb = verb; is_like = is_like file; name = filled l value (without_star file) }

-- the values that an entry's pattern is filled with: if it has a value, those that the entry speaks of, else an empty one
abbrev pub values_filled : LineSeen → Entry → (file : List ℕ) → List (List ℕ)
values_filled l e file = if has_value file then values_spoken l e else [] ∷ []

abbrev pub effects_told : LineSeen → Entry → Tells → List Effect
effects_told l e (form.Hazard danger) = []
effects_told l e (form.Effect verb file) = map (effect_of l verb file) (values_filled l e file)
effects_told l e form.Plain = []
effects_told l e (form.Key doing) = []
effects_told l e (form.Run doing) = []
effects_told l e (form.Names naming) = []
effects_told l e (form.Brings what) = []

-- the effects that entries state of a line, in their order
abbrev pub effects_among : LineSeen → List Entry → List Effect
effects_among l entries = flat_map (λ entry. effects_told l entry entry.tells) entries

-- the effects of a line: those of the entries that are there
abbrev pub effects_found : Catalogue → LineSeen → List Effect
effects_found catalogue l = effects_among l (found catalogue l)
