-- Where options go.
use Rattle.std.specs.Prelude.{ℕ, Bool, List, Option, None, Some}
use Rattle.scl_values.specs.Seen.{Seen, Raw, Unknown, Known, flag_of}
use Rattle.scl_text.specs.Records.{Verdict, because, NotCompilation}
use Rattle.scl_small.specs.contracts.place.PlacePartialEq.TheImpl.{ghosts}
use Rattle.scl_small.specs.declared.place.Place.{Place}
use Rattle.scl_small.specs.declared.place.Place.TheVariants as places

-- the verdict of an option with this flag, if its place is one
abbrev pub verdict_at : Place → List ℕ → Option Verdict
verdict_at places.Refused flag = Some (because flag)
verdict_at places.NotCompilation flag = Some NotCompilation
verdict_at _ flag = None

module _ {K : Type 0} (place : K → Place) where
  -- where an option goes: a raw word to the inputs, an unknown flag to the common words, any other by its kind
  abbrev pub place_of : Seen K → Place
  place_of (Raw w) = places.Input
  place_of (Unknown w) = places.Common
  place_of (Known f k v how) = place k

  abbrev pub goes_to : Place → Seen K → Bool
  goes_to there o = ghosts.eq (place_of o) there

  abbrev pub refused_at : Seen K → Option Verdict
  refused_at o = verdict_at (place_of o) (flag_of o)
