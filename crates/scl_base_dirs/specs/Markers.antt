-- Line markers of a preprocessed text, as `# 12 "a.h" 1 3` and `#line 12 "a.h"`.
use Rattle.std.specs.Prelude.{ℕ, ◌-◌, ◌==◌, ◌&&◌, ◌||◌, not, nat_eq, nat_le, Bool, false, List, [], ◌∷◌, ◌++◌, length, take, drop, Option, None, Some, is_some, codes, if◌then◌else◌}
use Rattle.std.specs.List.{starts_with, prefix_len}
use Rattle.std.specs.Option.{option_and_then}
use Rattle.scl_base_dirs.specs.declared.spelling.Spelling.TheVariants as spelled
use Rattle.scl_base_dirs.specs.Told.{told_path}

abbrev pub is_blank : ℕ → Bool
is_blank byte = byte == 0x20 || byte == 0x9

abbrev pub is_digit : ℕ → Bool
is_digit byte = nat_le 0x30 byte && nat_le byte 0x39

-- the text from its first byte on that does not pass
abbrev pub skip : (ℕ → Bool) → List ℕ → List ℕ
skip test text = drop (prefix_len test text) text

-- what follows a word, if the text begins with it
abbrev pub behind : List ℕ → List ℕ → Option (List ℕ)
behind word text = if starts_with nat_eq text word then Some (drop (length word) text) else None

-- what follows the word `line`; all, if the text does not begin with it
abbrev pub behind_line : List ℕ → List ℕ
behind_line text = if starts_with nat_eq text (codes "line") then drop 4 text else text

-- what follows the digits, if the text begins with one
abbrev pub behind_number : List ℕ → Option (List ℕ)
behind_number text = if prefix_len is_digit text == 0 then None else Some (skip is_digit text)

-- what follows the opening quote of the name, if the line is a marker: `#`, perhaps `line`, a number, a name in quotes
abbrev pub marked_name : List ℕ → Option (List ℕ)
marked_name line =
    option_and_then (λ rest. option_and_then (λ named. behind (codes "\"") (skip is_blank named)) (behind_number (skip is_blank (behind_line (skip is_blank rest)))))
    (behind (codes "#") line)

-- whether `R"` stands in the text; `behind_r` says that an `R` stands before it
abbrev pub has_raw_from : Bool → List ℕ → Bool
has_raw_from behind_r [] = false
has_raw_from behind_r (byte ∷ text) = (behind_r && byte == 0x22) || has_raw_from (byte == 0x52) text

-- Whether a raw string may begin in the line. Lines inside such a string may look like markers, and are none.
abbrev pub begins_raw : List ℕ → Bool
begins_raw line = not (is_some (marked_name line)) && has_raw_from false line

-- a line whose name is told by its base
abbrev pub mapped_name : List (List ℕ) → List ℕ → Option (List ℕ) → List ℕ
mapped_name dirs line None = line
mapped_name dirs line (Some name) = take (length line - length name) line ++ told_path spelled.Quoted dirs name

abbrev pub mapped_line : List (List ℕ) → List ℕ → List ℕ
mapped_line dirs line = mapped_name dirs line (marked_name line)
