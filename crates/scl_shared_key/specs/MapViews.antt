-- What the code's maps stand for.
use Rattle.std.specs.Prelude.{List, map}
use Rattle.scl_shared_key.specs.declared.maps.PrefixMap as declared_map
use Rattle.scl_shared_key.specs.Maps.{PrefixMap, prefix_map}

abbrev pub map_of : declared_map.PrefixMap → PrefixMap
map_of m = prefix_map m.in_debug_info m.in_macros m.value.now

abbrev pub maps_of : List declared_map.PrefixMap → List PrefixMap
maps_of maps = map map_of maps
