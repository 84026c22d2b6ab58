-- Each flag that a compiler's table refuses has a sentence for people.
use Rattle.std.specs.Prelude.{◌≡◌, Bool, true, false, not, ◌||◌, List, is_some}
use Rattle.std.specs.List.{list_all}
use Rattle.scl_values.specs.Row.{Row}
use Rattle.scl_reasons.specs.Explanations.{text_for}
use Rattle.scl_reasons.specs.Table.{table}
use Rattle.scl_gnu_reading.specs.Places as gnu
use Rattle.scl_gnu_reading.specs.declared.gcc.data.Kind.{Kind as GnuKind}
use Rattle.scl_gnu_reading.specs.declared.gcc.place.Place.{Place as GnuPlace}
use Rattle.scl_gnu_reading.specs.declared.gcc.place.Place.TheVariants as gnu_places
use Rattle.scl_msvc_reading.specs.declared.msvc.place.Place.{Place as MsvcPlace}
use Rattle.scl_msvc_reading.specs.declared.msvc.place.Place.TheVariants as msvc_places
use Rattle.scl_small.specs.declared.place.Place.{Place as SmallPlace}
use Rattle.scl_small.specs.declared.place.Place.TheVariants as small_places

abbrev pub is_refused_by_gnu : GnuPlace → Bool
is_refused_by_gnu gnu_places.Refused = true
is_refused_by_gnu _ = false

abbrev pub is_refused_by_msvc : MsvcPlace → Bool
is_refused_by_msvc msvc_places.Refused = true
is_refused_by_msvc _ = false

abbrev pub is_refused_by_small : SmallPlace → Bool
is_refused_by_small small_places.Refused = true
is_refused_by_small _ = false

-- it is refused as the driver's option, or passed on
abbrev pub is_refused_somewhere : GnuKind → Bool
is_refused_somewhere kind = is_refused_by_gnu (gnu.places_of kind).0 || is_refused_by_gnu (gnu.places_of kind).1

-- each row of a kind that is refused has a flag that is explained
abbrev pub AreExplained : {K : Type 0} → (K → Bool) → List (Row K) → Type 0
AreExplained refused rows = list_all (λ row. not (refused row.kind) || is_some (text_for row.flag table)) rows ≡ true
