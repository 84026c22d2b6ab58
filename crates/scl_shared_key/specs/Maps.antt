-- Prefix maps: words by which the compiler writes another name in the place of a directory.
use Rattle.std.specs.Prelude.{ℕ, Bool, true, false, nat_eq, ◌&&◌, ◌||◌, not, List, length, drop, Option, Some, None, codes}
use Rattle.std.specs.List.{filter_map, list_all, list_any, starts_with}
use Rattle.std.specs.Str.{bytes_eq}
use Rattle.scl_catalogue.specs.Found.{behind_equals}
use Rattle.scl_catalogue.specs.Lookup.{Lexicon, naming_of}
use Rattle.scl_catalogue.specs.declared.entry.Naming.{Naming}
use Rattle.scl_catalogue.specs.declared.entry.Naming.TheVariants.{Nothing, DebugInfo, FileMap, DebugMap, MacroMap, Anything}
use Rattle.scl_shared_key.specs.Usuals.{is_usual_byte}

-- whether it counts in debug information, and in macros; and `OLD=NEW`
pub record PrefixMap : Type 0 where
  pub in_debug_info : Bool
  pub in_macros : Bool
  pub value : List ℕ

abbrev pub prefix_map : (in_debug_info in_macros : Bool) → List ℕ → PrefixMap
prefix_map in_debug_info in_macros value = record { in_debug_info = in_debug_info; in_macros = in_macros; value = value }

abbrev pub map_by : Naming → List ℕ → Option PrefixMap
map_by Nothing word = None
map_by DebugInfo word = None
map_by FileMap word = Some (prefix_map true true (behind_equals word))
map_by DebugMap word = Some (prefix_map true false (behind_equals word))
map_by MacroMap word = Some (prefix_map false true (behind_equals word))
map_by Anything word = None

-- the maps among words
abbrev pub maps_among : Lexicon → List (List ℕ) → List PrefixMap
maps_among l words = filter_map (λ word. map_by (naming_of l word) word) words

-- it maps this very directory
abbrev pub maps_dir : List ℕ → PrefixMap → Bool
maps_dir dir m = starts_with nat_eq m.value dir && starts_with nat_eq (drop (length dir) m.value) (codes "=")

-- one of two texts begins with the other
abbrev pub begin_alike : (one other : List ℕ) → Bool
begin_alike one other = starts_with nat_eq one other || starts_with nat_eq other one

-- A name that a map gives stays free of the directories. Some compilers split a map at its last `=`, and some map a name again that
-- they have mapped: so the name has usual bytes, and it and no directory begin alike.
abbrev pub is_free : List (List ℕ) → List ℕ → Bool
is_free dirs name = list_all is_usual_byte name && not (list_any (begin_alike name) dirs)

-- it maps this directory to a free name
abbrev pub frees_dir : List (List ℕ) → PrefixMap → List ℕ → Bool
frees_dir dirs m dir = maps_dir dir m && is_free dirs (drop 1 (drop (length dir) m.value))

-- each of the maps maps one of the directories, and frees it
abbrev pub all_free : List (List ℕ) → List PrefixMap → Bool
all_free dirs maps = list_all (λ m. list_any (frees_dir dirs m) dirs) maps

abbrev pub maps_in_debug_info : List PrefixMap → List ℕ → Bool
maps_in_debug_info maps dir = list_any (λ m. m.in_debug_info && maps_dir dir m) maps

abbrev pub maps_in_macros : List PrefixMap → List ℕ → Bool
maps_in_macros maps dir = list_any (λ m. m.in_macros && maps_dir dir m) maps

-- No directory begins with the text of another one. Compilers map texts, not components.
abbrev pub begins_with_other : List (List ℕ) → List ℕ → Bool
begins_with_other dirs dir = list_any (λ other. not (bytes_eq dir other) && starts_with nat_eq dir other) dirs

abbrev pub are_apart : List (List ℕ) → Bool
are_apart dirs = not (list_any (begins_with_other dirs) dirs)

-- Whatever map a compiler takes for a path below one of the directories, it frees the path of it.
abbrev pub maps_hold : List (List ℕ) → List PrefixMap → Bool
maps_hold dirs maps = are_apart dirs && all_free dirs maps

-- all names in debug information are free of the directories
abbrev pub debug_info_is_free : List (List ℕ) → List PrefixMap → Bool
debug_info_is_free dirs maps = maps_hold dirs maps && list_all (maps_in_debug_info maps) dirs

-- all names that macros give are
abbrev pub macros_are_free : List (List ℕ) → List PrefixMap → Bool
macros_are_free dirs maps = maps_hold dirs maps && list_all (maps_in_macros maps) dirs
