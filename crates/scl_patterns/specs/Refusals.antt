-- What in a text reads a file that nobody names.
use Rattle.std.specs.Prelude.{ℕ, ◌+◌, ◌-◌, ◌==◌, ◌&&◌, ◌||◌, not, Bool, true, false, List, [], ◌∷◌, drop, take, codes, nat_eq, get_or, Option, None, Some, if◌then◌else◌}
use Rattle.std.specs.List.{ends_with, list_any}
use Rattle.std.specs.Option.{option_map_or}
use Rattle.std.specs.Str.{bytes_eq}
use Rattle.memchr.specs.Find.{matches}
use Rattle.scl_key.specs.Keys.{reading, assembler_reading}
use Rattle.scl_readings.specs.Lines.{lines}
use Rattle.scl_readings.specs.Markers.{is_blank, is_digit, skip, after}
use Rattle.scl_readings.specs.Names.{is_name_byte}
use Rattle.scl_readings.specs.Places.{has_word}
use Rattle.scl_patterns.specs.Assembled.{assembled, run_length}
use Rattle.scl_patterns.specs.Patterns.{behind, embeds}
use Rattle.scl_patterns.specs.declared.assembled.Class.TheVariants as classes

-- ---- directives

-- before a dot: the dot begins no directive
abbrev pub is_bound : ℕ → Bool
is_bound byte = is_name_byte byte || list_any (λ it. it == byte) (codes "]).$")

-- a directive may begin at the dot at this place: at the start, behind what is bound to no dot, or behind a line end that is spelled
abbrev pub is_free : List ℕ → (at : ℕ) → Bool
is_free text at = at == 0 || (not (is_bound (get_or text (at - 1) 0)) || (ends_with nat_eq (take at text) (codes "\\n") || ends_with nat_eq (take at text) (codes "\\t")))

abbrev pub ends_there : List ℕ → Bool
ends_there [] = true
ends_there (byte ∷ text) = not (is_name_byte byte)

-- the name is the word
abbrev pub is_called : (word : List ℕ) → List ℕ → Bool
is_called word name = option_map_or ends_there (after word name) false

-- of the name after the dot: the directive reads a file
abbrev pub reads_file : List ℕ → Bool
reads_file name = is_called (codes "incbin") name || is_called (codes "include") name

abbrev pub is_pasted : List ℕ → Bool
is_pasted [] = false
is_pasted (byte ∷ text) = is_name_byte byte || (byte == 0x28 || byte == 0x40)

-- the name after the dot is made of pieces, as an argument of a macro after these marks
abbrev pub is_made_up : (marks : List ℕ) → List ℕ → Bool
is_made_up marks name = option_map_or is_pasted (after marks (drop (run_length classes.Name name) name)) false

abbrev pub reads_at : (marks : List ℕ) → List ℕ → (at : ℕ) → Bool
reads_at marks text at = (is_free text at && reads_file (drop (at + 1) text)) || is_made_up marks (drop (at + 1) text)

abbrev pub has_directive : (marks : List ℕ) → List ℕ → Bool
has_directive marks text = list_any (reads_at marks text) (matches text (codes ".") 0)

-- ---- what hides a directive

abbrev pub begins_number : List ℕ → Bool
begins_number [] = false
begins_number (byte ∷ text) = is_digit byte || byte == 0x5b

-- an operand may be any text
abbrev pub has_operand : List ℕ → Bool
has_operand text = list_any begins_number (behind (codes "%c") text)

-- a raw string on a line of an assembler statement
abbrev pub is_raw : List ℕ → Bool
is_raw line = has_word (codes "R\"") line && has_word (codes "asm") line

abbrev pub hides : List ℕ → Bool
hides text = has_word (codes ".altmacro") text || (has_operand text || list_any is_raw (lines text))

-- ---- patterns

-- a line puts the bytes of a file there
abbrev pub is_embed : List ℕ → Bool
is_embed line = option_map_or embeds (after (codes "#") (skip is_blank line)) false

abbrev pub has_embed_line : List ℕ → Bool
has_embed_line text = list_any is_embed (lines text)

abbrev pub reads : List ℕ → Bool
reads text = hides text || (let it = assembled text in has_embed_line it || has_directive (codes "\\\\") it)

abbrev pub reads_in_assembler : List ℕ → Bool
reads_in_assembler text = hides text || has_directive (codes "\\") (assembled text)

-- whether one of the texts has the pattern; none: it is not known
abbrev pub is_refused : (pattern : List ℕ) → (texts : List (List ℕ)) → Option Bool
is_refused pattern texts =
    if bytes_eq pattern reading then Some (list_any reads texts) else if bytes_eq pattern assembler_reading then Some (list_any reads_in_assembler texts) else None
