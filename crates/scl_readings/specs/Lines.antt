-- Lines of a text.
use Rattle.std.specs.Prelude.{ℕ, ◌==◌, ◌||◌, not, Bool, false, cond, List, [], ◌∷◌, Option, None, Some}
use Rattle.std.specs.List.{filter_map, slice_split}

-- the parts between the bytes that are this one
abbrev pub parts : ℕ → List ℕ → List (List ℕ)
parts mark text = slice_split (λ byte. byte == mark) text

abbrev pub lines : List ℕ → List (List ℕ)
lines text = parts 10 text

-- what follows the byte, if the line begins with it
abbrev pub after_byte : ℕ → List ℕ → Option (List ℕ)
after_byte first [] = None
after_byte first (byte ∷ line) = cond (byte == first) (Some line) None

-- of each line that begins with the byte what follows it
abbrev pub lines_after : ℕ → List ℕ → List (List ℕ)
lines_after first text = filter_map (after_byte first) (lines text)

-- white space within a line
abbrev pub is_space : ℕ → Bool
is_space byte = byte == 0x20 || (byte == 0x9 || (byte == 0xb || (byte == 0xc || byte == 0xd)))

-- the line has text after its white space, and is no directive
abbrev pub has_other_text : List ℕ → Bool
has_other_text [] = false
has_other_text (byte ∷ line) = cond (is_space byte) (has_other_text line) (not (byte == 0x23))

-- the lines up to the first that has other text
abbrev pub leading : List (List ℕ) → List (List ℕ)
leading [] = []
leading (line ∷ lines) = cond (has_other_text line) [] (line ∷ leading lines)

-- of those that begin with `#` what follows it
abbrev pub leading_lines : List ℕ → List (List ℕ)
leading_lines text = filter_map (after_byte 0x23) (leading (lines text))
