-- Base directories, and the one that a path is below.
use Rattle.std.specs.Prelude.{ℕ, ◌+◌, ◌-◌, ◌/◌, ◌%◌, ◌==◌, ◌&&◌, ◌||◌, not, nat_eq, nat_le, nat_lt, Bool, List, [], ◌∷◌, length, take, drop, filter, cond, Option, None, Some, codes, if◌then◌else◌}
use Rattle.std.specs.List.{starts_with, suffix_len, flat_map}
use Rattle.scl_base_dirs.specs.declared.spelling.Quoting.{Quoting}
use Rattle.scl_base_dirs.specs.declared.spelling.Quoting.TheVariants as quoting
use Rattle.scl_base_dirs.specs.declared.spelling.Spelling.{Spelling}
use Rattle.scl_base_dirs.specs.declared.spelling.Spelling.TheVariants as spelled

-- `/` and `\`
abbrev pub is_separator : ℕ → Bool
is_separator byte = byte == 0x2f || byte == 0x5c

-- a directory without the separators at its end
abbrev pub trimmed : List ℕ → List ℕ
trimmed dir = take (length dir - suffix_len is_separator dir) dir

-- a byte as a backslash and three octal digits
abbrev pub octal : ℕ → List ℕ
octal byte = 0x5c ∷ (0x30 + byte / 64 % 8) ∷ (0x30 + byte / 8 % 8) ∷ (0x30 + byte % 8) ∷ []

-- a byte that needs no backslash: Gcc writes it as it is, Clang only if it is from a space to `~`
abbrev pub quote_other : Quoting → ℕ → List ℕ
quote_other quoting.Gcc byte = byte ∷ []
quote_other quoting.Clang byte = if byte == 9 then codes "\\t" else (if nat_le 0x20 byte && nat_le byte 0x7e then byte ∷ [] else octal byte)

-- a byte as the name in a line marker has it
abbrev pub quote_byte : Quoting → ℕ → List ℕ
quote_byte quoting byte = if byte == 0x22 || byte == 0x5c then 0x5c ∷ byte ∷ [] else (if byte == 10 then codes "\\n" else quote_other quoting byte)

abbrev pub quoted : Quoting → List ℕ → List ℕ
quoted quoting path = flat_map (quote_byte quoting) path

-- whether a component ends where the rest begins: in a word at its end or a separator, in the quoted name of a line marker at
-- the closing quote or a separator
abbrev pub ends_component : Spelling → List ℕ → Bool
ends_component spelled.Word rest = length rest == 0 || starts_with nat_eq rest (codes "/") || starts_with nat_eq rest (codes "\\")
ends_component spelled.Quoted rest = starts_with nat_eq rest (codes "\"") || starts_with nat_eq rest (codes "/") || starts_with nat_eq rest (codes "\\\\")

-- whether the path is the directory or is below it; the empty directory fits none
abbrev pub fits : Spelling → List ℕ → List ℕ → Bool
fits spelling dir path = not (length dir == 0) && starts_with nat_eq path dir && ends_component spelling (drop (length dir) path)

-- a base directory and its number
pub record Place : Type 0 where
  pub number : ℕ
  pub dir : List ℕ

abbrev pub placed : ℕ → List ℕ → Place
placed number dir = record { number = number; dir = dir }

-- the directories, numbered from a number on
abbrev pub numbered : ℕ → List (List ℕ) → List Place
numbered number [] = []
numbered number (dir ∷ dirs) = placed number dir ∷ numbered (number + 1) dirs

-- of two the one with the longer directory; of equally long ones the first
abbrev pub longer : Option Place → Option Place → Option Place
longer None other = other
longer (Some place) None = Some place
longer (Some place) (Some other) = cond (nat_lt (length place.dir) (length other.dir)) (Some other) (Some place)

-- the one with the longest directory
abbrev pub longest : List Place → Option Place
longest [] = None
longest (place ∷ places) = longer (Some place) (longest places)

-- the base of a path: of the directories that fit it the longest
abbrev pub base_of : Spelling → List (List ℕ) → List ℕ → Option Place
base_of spelling dirs path = longest (filter (λ place. fits spelling place.dir path) (numbered 0 dirs))
