-- Line markers of preprocessed texts, and the pragma by which gcc says that it loads a header. A directive is what follows `#`.
use Rattle.std.specs.Prelude.{ℕ, ◌+◌, ◌==◌, ◌&&◌, ◌||◌, not, nat_eq, nat_le, Bool, false, List, length, take, drop, Option, None, Some, codes, if◌then◌else◌}
use Rattle.std.specs.List.{starts_with, ends_with, prefix_len, filter_map, list_any}
use Rattle.std.specs.Option.{option_and_then, option_map}
use Rattle.std.specs.Str.{bytes_eq}
use Rattle.scl_readings.specs.Lines.{parts}
use Rattle.scl_readings.specs.Quoted.{closing_at, unquoted}
use Rattle.scl_readings.specs.declared.files.Named.{Named}
use Rattle.scl_readings.specs.declared.files.Named.TheVariants.{Anywhere, Entered, Loaded}

abbrev pub is_blank : ℕ → Bool
is_blank byte = byte == 0x20 || byte == 0x9

abbrev pub is_digit : ℕ → Bool
is_digit byte = nat_le 0x30 byte && nat_le byte 0x39

-- the text from its first byte on that does not pass
abbrev pub skip : (ℕ → Bool) → List ℕ → List ℕ
skip test text = drop (prefix_len test text) text

-- what follows the word, if the text begins with it
abbrev pub after : List ℕ → List ℕ → Option (List ℕ)
after word text = if starts_with nat_eq text word then Some (drop (length word) text) else None

-- what follows the word; all, if the text does not begin with it
abbrev pub past : List ℕ → List ℕ → List ℕ
past word text = if starts_with nat_eq text word then drop (length word) text else text

-- what follows the digits, if the text begins with one
abbrev pub after_number : List ℕ → Option (List ℕ)
after_number text = if prefix_len is_digit text == 0 then None else Some (skip is_digit text)

-- what follows the opening quote of a name: perhaps `line`, a number, a quote, with blanks between
abbrev pub after_quote : List ℕ → Option (List ℕ)
after_quote directive =
    option_and_then (λ named. after (codes "\"") (skip is_blank named)) (after_number (skip is_blank (past (codes "line") (skip is_blank directive))))

-- a marker: its name, as it is quoted, and the flags after it
pub record Marked : Type 0 where
  pub name : List ℕ
  pub flags : List ℕ

abbrev pub marked : List ℕ → List ℕ → Marked
marked name flags = record { name = name; flags = flags }

-- the marker that a directive is, if the quotes of its name are closed
abbrev pub marker_of : List ℕ → Option Marked
marker_of directive = option_and_then (λ quoted. option_map (λ end. marked (take end quoted) (drop (end + 1) quoted)) (closing_at 0 false quoted)) (after_quote directive)

-- a file is entered there: one of the flags is 1
abbrev pub enters : List ℕ → Bool
enters flags = list_any (λ flag. bytes_eq flag (codes "1")) (parts 0x20 flags)

-- the quoted name of a precompiled header that gcc loads
abbrev pub loaded_name : List ℕ → Option (List ℕ)
loaded_name directive = option_and_then (λ quoted. option_map (λ end. take end quoted) (closing_at 0 false quoted)) (after (codes "pragma GCC pch_preprocess \"") directive)

-- which names are wanted: all, those of files that are entered, or those of headers that are loaded
abbrev pub quoted_name : Named → List ℕ → Option (List ℕ)
quoted_name Anywhere directive = option_map (λ marker. marker.name) (marker_of directive)
quoted_name Entered directive = option_and_then (λ marker. if enters marker.flags then Some marker.name else None) (marker_of directive)
quoted_name Loaded directive = loaded_name directive

-- neither a place that is no file, as `<built-in>`, nor the directory of the compilation, which ends with `//`
abbrev pub is_file : List ℕ → Bool
is_file name = not (starts_with nat_eq name (codes "<") && ends_with nat_eq name (codes ">")) && not (ends_with nat_eq name (codes "//"))

abbrev pub file_named : List ℕ → Option (List ℕ)
file_named name = if is_file name then Some name else None

abbrev pub file_of : Named → List ℕ → Option (List ℕ)
file_of named directive = option_and_then (λ quoted. file_named (unquoted quoted)) (quoted_name named directive)

-- the files that directives name, in order
abbrev pub files_in : Named → List (List ℕ) → List (List ℕ)
files_in named directives = filter_map (file_of named) directives
