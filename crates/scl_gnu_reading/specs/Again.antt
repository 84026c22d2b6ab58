-- Which kinds Gcc's and Clang's lists carry.
use Rattle.std.specs.Prelude.{Bool, true, false}
use Rattle.scl_gnu_reading.specs.declared.gcc.data.Kind.{Kind}
use Rattle.scl_gnu_reading.specs.declared.gcc.place.Place.{Place}
use Rattle.scl_gnu_reading.specs.declared.gcc.place.Place.TheVariants as places
use Rattle.scl_gnu_reading.specs.Inners.{inner_place}
use Rattle.scl_gnu_reading.specs.Places.{place}

-- whether a place is a list of the command
abbrev pub is_list : Place → Bool
is_list places.Preprocessor = true
is_list places.Dependency = true
is_list places.Unhashed = true
is_list places.Common = true
is_list places.Arch = true
is_list places.Nowhere = false
is_list places.Refused = false

-- whether a list carries the outer options of the kind
abbrev pub carried : Kind → Bool
carried k = is_list (place k)

-- whether a list carries the inner options of the kind
abbrev pub carried_inner : Kind → Bool
carried_inner k = is_list (inner_place k)
