-- A source: its lines joined, and the files that it names.
use Rattle.std.specs.Prelude.{ℕ, ◌==◌, List, [], ◌∷◌, ◌++◌, take, codes, Option, None, if◌then◌else◌}
use Rattle.std.specs.List.{filter_map, flat_map}
use Rattle.std.specs.Option.{option_map, option_map_or}
use Rattle.scl_readings.specs.Lines.{is_space, parts}
use Rattle.scl_readings.specs.Markers.{after, past, skip}
use Rattle.scl_readings.specs.Places.{first_place}
use Rattle.scl_patterns.specs.Assembled.{is_gap}
use Rattle.scl_patterns.specs.Patterns.{behind}

-- ---- lines that are joined

-- of what follows a backslash: if the line ends there, the next line; else the backslash stays
abbrev pub spliced : List ℕ → List ℕ
spliced part = option_map_or (λ line. line) (after (codes "\n") (skip is_space part)) (0x5c ∷ part)

-- the parts between backslashes
abbrev pub joined_parts : List (List ℕ) → List ℕ
joined_parts [] = []
joined_parts (part ∷ parts) = part ++ flat_map spliced parts

abbrev pub joined : List ℕ → List ℕ
joined text = joined_parts (parts 0x5c text)

-- ---- what is named

-- what stands before the word
abbrev pub up_to : (word : List ℕ) → List ℕ → Option (List ℕ)
up_to word text = option_map (λ at. take at text) (first_place word text)

abbrev pub first_line : List ℕ → List ℕ
first_line text = option_map_or (λ line. line) (up_to (codes "\n") text) text

-- between `<` and `>`, or between quotes, on one line
abbrev pub name_at : List ℕ → Option (List ℕ)
name_at [] = None
name_at (byte ∷ text) =
    if byte == 0x3c then up_to (codes ">") (first_line text) else (if byte == 0x22 then up_to (codes "\"") (first_line text) else None)

-- behind a word that asks for a file: what stands where its name does
abbrev pub asked : List ℕ → List ℕ
asked rest = skip is_gap (past (codes "_next") rest)

-- the name there, perhaps in a parenthesis
abbrev pub name_asked : List ℕ → Option (List ℕ)
name_asked rest = name_at (skip is_gap (past (codes "(") (asked rest)))

abbrev pub named_behind : (word : List ℕ) → List ℕ → List (List ℕ)
named_behind word text = filter_map name_asked (behind word text)

-- also `__has_include` asks for a file
abbrev pub named_in : List ℕ → List (List ℕ)
named_in text = named_behind (codes "include") text ++ named_behind (codes "import") text
