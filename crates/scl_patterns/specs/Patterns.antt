-- The patterns of a key, and what they look for in a text.
use Rattle.std.specs.Prelude.{ℕ, ◌+◌, ◌==◌, ◌||◌, not, nat_eq, Bool, false, List, [], ◌∷◌, length, drop, map, codes, Option, None, Some, if◌then◌else◌}
use Rattle.std.specs.List.{list_any, prefix_len, starts_with}
use Rattle.std.specs.Option.{option_and_then, option_map_or}
use Rattle.std.specs.Str.{bytes_eq}
use Rattle.memchr.specs.Find.{matches}
use Rattle.scl_key.specs.Keys.{telling, clang_telling}
use Rattle.scl_readings.specs.Markers.{is_blank, skip, after}
use Rattle.scl_readings.specs.Places.{has_word}

-- what follows each place of a word
abbrev pub behind : (word : List ℕ) → List ℕ → List (List ℕ)
behind word text = map (λ at. drop (at + length word) text) (matches text word 0)

-- what follows the blanks, of which there is one at least
abbrev pub after_blanks : List ℕ → Option (List ℕ)
after_blanks text = if prefix_len is_blank text == 0 then None else Some (skip is_blank text)

-- ---- what tells that sources count

-- after `diagnostic`: a message becomes an error
abbrev pub names_error : List ℕ → Bool
names_error rest = option_map_or (λ after. starts_with nat_eq after (codes "error")) (after_blanks rest) false

abbrev pub has_error : List ℕ → Bool
has_error text = list_any names_error (behind (codes "diagnostic") text)

-- after `#`
abbrev pub embeds : List ℕ → Bool
embeds rest = starts_with nat_eq (skip is_blank rest) (codes "embed")

abbrev pub has_embed : List ℕ → Bool
has_embed text = list_any embeds (behind (codes "#") text)

-- a text has the place of its code
abbrev pub has_place : List ℕ → Bool
has_place text = has_word (codes "__builtin_COLUMN") text || (has_word (codes "__builtin_LINE") text || has_word (codes "__builtin_FILE") text)

-- or it has it whole, or the bytes of a file
abbrev pub has_words : List ℕ → Bool
has_words text = has_place text || (has_word (codes "__builtin_source_location") text || has_word (codes "__has_embed") text)

abbrev pub tells : List ℕ → Bool
tells text = has_words text || (has_error text || has_embed text)

-- ---- the same of Clang

-- there is a byte, and it is none of these
abbrev pub other_than : (known : List ℕ) → List ℕ → Bool
other_than known [] = false
other_than known (byte ∷ text) = not (list_any (λ it. it == byte) known)

-- after the word stands none of these
abbrev pub goes_on : (word known : List ℕ) → List ℕ → Bool
goes_on word known text = option_map_or (other_than known) (after word text) false

-- after the word and blanks stands none of these
abbrev pub goes_on_spaced : (word known : List ℕ) → List ℕ → Bool
goes_on_spaced word known text = option_map_or (other_than known) (option_and_then after_blanks (after word text)) false

-- a pragma in which clang may expand macros, which its runs do not
abbrev pub may_expand : List ℕ → Bool
may_expand pragma =
    other_than (codes "GSpc") pragma
    || (goes_on (codes "p") (codes "uo") pragma
    || (goes_on (codes "c") (codes "l") pragma
    || (goes_on_spaced (codes "clang") (codes "d") pragma
    || goes_on_spaced (codes "GCC") (codes "vdspew") pragma)))

-- after `#`: such a pragma
abbrev pub expands : List ℕ → Bool
expands rest = option_map_or may_expand (option_and_then after_blanks (after (codes "pragma") (skip is_blank rest))) false

abbrev pub has_pragma : List ℕ → Bool
has_pragma text = list_any expands (behind (codes "#") text)

abbrev pub has_clang_words : List ℕ → Bool
has_clang_words text = has_word (codes "__builtin_dump_struct") text || has_word (codes "__PRETTY_FUNCTION__") text

abbrev pub tells_clang : List ℕ → Bool
tells_clang text = has_clang_words text || (tells text || has_pragma text)

-- ---- patterns

-- whether one of the texts has the pattern; none: it is not known
abbrev pub is_shown : (pattern : List ℕ) → (texts : List (List ℕ)) → Option Bool
is_shown pattern texts =
    if bytes_eq pattern telling then Some (list_any tells texts) else if bytes_eq pattern clang_telling then Some (list_any tells_clang texts) else None
