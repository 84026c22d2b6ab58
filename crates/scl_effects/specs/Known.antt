-- Options of which it is known what they read, write, ask and load, whether they do or not.
use Rattle.std.specs.Prelude.{ℕ, Bool, true, false, not, ◌&&◌, List, find, Option}
use Rattle.std.specs.List.{list_any}
use Rattle.std.specs.Option.{option_map, option_or}
use Rattle.scl_catalogue.specs.Form.{Catalogue, Entry, Tells}
use Rattle.scl_catalogue.specs.Form as form
use Rattle.scl_catalogue.specs.Found.{LineSeen, OptionSeen}
use Rattle.scl_catalogue.specs.Speaking.{speaks_of}
use Rattle.scl_catalogue.specs.declared.speaking.Level.{Level}
use Rattle.scl_catalogue.specs.declared.speaking.Level.TheVariants as level

-- an entry that states what options do, or that they do nothing
abbrev pub is_of_effects : Tells → Bool
is_of_effects (form.Hazard danger) = false
is_of_effects (form.Effect verb file) = true
is_of_effects form.Plain = true
is_of_effects (form.Key doing) = false
is_of_effects (form.Run doing) = false
is_of_effects (form.Names naming) = false
is_of_effects (form.Brings what) = false

abbrev pub knows : LineSeen → Level → OptionSeen → Entry → Bool
knows l level o e = is_of_effects e.tells && speaks_of l.compiler l.version level o e

-- an entry states what the option does
abbrev pub is_known : Catalogue → LineSeen → Level → OptionSeen → Bool
is_known catalogue l level o = list_any (knows l level o) catalogue.entries

-- the first option of which nothing is known
abbrev pub first_unknown : Catalogue → LineSeen → Level → List OptionSeen → Option OptionSeen
first_unknown catalogue l level options = find (λ o. not (is_known catalogue l level o)) options

-- its word or flag; the options of the line come before the inner ones
abbrev pub unknown_of : Catalogue → LineSeen → Option (List ℕ)
unknown_of catalogue l = option_map (λ o. o.name) (option_or (first_unknown catalogue l level.Outer l.options) (first_unknown catalogue l level.Inner l.inner))
