-- What a key has of what the compiler does besides compiling, as a catalogue states it.
use Rattle.std.specs.Prelude.{ℕ, Bool, true, not, ◌&&◌, ◌||◌, ◌==◌, List, [], ◌∷◌, ◌++◌, length, map, filter, codes, if◌then◌else◌}
use Rattle.std.specs.List.{flat_map}
use Rattle.std.specs.Str.{bytes_eq}
use Rattle.scl_catalogue.specs.declared.entry.Verb.{Verb}
use Rattle.scl_catalogue.specs.declared.entry.Verb.TheVariants as verb
use Rattle.scl_effects.specs.Effects.{Effect}
use Rattle.scl_files.specs.Views.{Viewed, exists}
use Rattle.scl_text.specs.Records.{Parsed, artifact}
use Rattle.scl_key.specs.declared.no_key.Reason.TheVariants as reasons
use Rattle.scl_key.specs.declared.part.Ask.TheVariants as asks
use Rattle.scl_key.specs.Keys.{Key, Keeping, under, not_kept, NoKey, is_no_file, keeping_by, made_paths, no_key, view_of}
use Rattle.scl_key.specs.Made.{made}
use Rattle.scl_key.specs.Parts.{Part, asked, output}

-- what the parts of each key answer: the name of the directory, and the processor, which a plan spells out
abbrev pub is_answered : List ℕ → Bool
is_answered name = bytes_eq name (codes "directory") || bytes_eq name (codes "processor")

-- no file that can be kept has this name
abbrev pub is_lost : List ℕ → Bool
is_lost name = length name == 0 || is_no_file name

-- What is read there may be another thing each time. Nothing is ever read from /dev/null.
abbrev pub is_fleeting : List ℕ → Bool
is_fleeting name = is_no_file name && not (bytes_eq name (codes "/dev/null"))

abbrev pub bars_by : Verb → (is_like : Bool) → (name : List ℕ) → Bool
bars_by verb.Reads is_like name = is_like || is_fleeting name
bars_by verb.Writes is_like name = is_like || is_lost name
bars_by verb.Asks is_like name = is_like || not (is_answered name)
bars_by verb.Loads is_like name = true

-- no key can be right: files are meant that have no name of their own, code is run that no row names, or something else is asked
abbrev pub bars : Effect → Bool
bars e = bars_by e.verb e.is_like e.name

-- a file that comes out, unless the command makes it anyway
abbrev pub output_by : Viewed → (path : List ℕ) → List Part
output_by outputs path = if exists path outputs then [] else output (artifact (codes "effect") path true) ∷ []

abbrev pub parts_by : Viewed → Verb → (name : List ℕ) → List Part
parts_by outputs verb.Reads name = asked asks.Maybe name ∷ []
parts_by outputs verb.Writes name = output_by outputs name
parts_by outputs verb.Asks name = []
parts_by outputs verb.Loads name = []

-- what each effect adds to a key, of a command whose outputs exist in this view
abbrev pub parts_told : Viewed → List Effect → List Part
parts_told outputs effects = flat_map (λ e. parts_by outputs e.verb e.name) effects

-- the effects that bar a key
abbrev pub barred : List Effect → List NoKey
barred effects = map (λ e. no_key reasons.Effect e.name) (filter bars effects)

-- a key, and what effects add to it
abbrev pub key_with : Parsed → List Effect → Key → Key
key_with p effects key = record key { parts = key.parts ++ parts_told (view_of (made_paths (made p))) effects }

-- what is said of a command line whose compiler has these effects
abbrev pub with_effects : Parsed → List Effect → Keeping → Keeping
with_effects p effects (under key) = keeping_by (barred effects) (key_with p effects key)
with_effects p effects (not_kept why) = not_kept why
