-- Words quoted for a shell.
use Rattle.std.specs.Prelude.{ℕ, ◌==◌, ◌||◌, ◌&&◌, nat_le, nat_eq, Bool, not, cond, length, List, [], ◌∷◌, ◌++◌}
use Rattle.std.specs.List.{list_all, flat_map, starts_with}
use Rattle.scl_shell.specs.ShellText.{single_quote, backslash}

abbrev pub between : ℕ → ℕ → ℕ → Bool
between low c high = nat_le low c && nat_le c high

-- letters, digits and `-_./=+,:@%`: bytes without a special meaning anywhere in a shell's text
abbrev pub is_plain : ℕ → Bool
is_plain c =
    between 97 c 122 || between 65 c 90 || between 48 c 57
    || c == 45 || c == 95 || c == 46 || c == 47 || c == 61 || c == 43 || c == 44 || c == 58 || c == 64 || c == 37

-- a word that needs no quotes; zsh expands one that begins with `=`
abbrev pub is_bare : List ℕ → Bool
is_bare word = not (length word == 0) && not (starts_with nat_eq word (61 ∷ [])) && list_all is_plain word

-- a byte inside single quotes; a single quote becomes a closing quote, an escaped quote and an opening quote
abbrev pub in_quotes : ℕ → List ℕ
in_quotes c = cond (c == single_quote) (single_quote ∷ backslash ∷ single_quote ∷ single_quote ∷ []) (c ∷ [])

abbrev pub in_single_quotes : List ℕ → List ℕ
in_single_quotes word = single_quote ∷ (flat_map in_quotes word ++ single_quote ∷ [])

abbrev pub quoted : List ℕ → List ℕ
quoted word = cond (is_bare word) word (in_single_quotes word)

-- a word after others
abbrev pub quoted_next : List ℕ → List ℕ
quoted_next word = 32 ∷ quoted word

-- the words, quoted, separated by spaces
abbrev pub quoted_text : List (List ℕ) → List ℕ
quoted_text [] = []
quoted_text (word ∷ words) = quoted word ++ flat_map quoted_next words
