-- Words that name no response file. A compiler takes a word that begins with `@` for the name of a file with more words.
use Rattle.std.specs.Prelude.{◌≡◌, ℕ, Bool, false, not, ◌||◌, ◌==◌, List, [], ◌∷◌}
use Rattle.std.specs.List.{list_all}
use Rattle.scl_values.specs.Each.{Each}
use Rattle.scl_args.specs.Options.{begins_with_at}
use Rattle.scl_values.specs.Row.{Row}
use Rattle.scl_values.specs.Seen.{Seen, text_of}
use Rattle.scl_args.specs.Commands.{Said}

-- the word names no response file
abbrev pub NamesNoFile : List ℕ → Type 0
NamesNoFile word = begins_with_at word ≡ false

-- the option gives no response file: neither its value, whatever its disposition, nor the word of an input or of an unknown
-- flag
abbrev pub GivesNoFile : {K : Type 0} → Seen K → Type 0
GivesNoFile option = NamesNoFile (text_of option)

-- no word of the command names a response file, if the object does not and no option does: neither of the command line nor of
-- an inner command line
abbrev pub NamesNoFileOfItsOwn : {K J : Type 0} → Said K J → (object : List ℕ) → (command : List (List ℕ)) → Type 0
NamesNoFileOfItsOwn said object command =
    Each GivesNoFile said.options → Each (λ inner. Each GivesNoFile inner.options) said.inners → NamesNoFile object → Each NamesNoFile command

-- ---- tables

-- whether the word has a first byte, and that is not @
abbrev pub is_plain_flag : List ℕ → Bool
is_plain_flag [] = false
is_plain_flag (x ∷ xs) = not (x == 64)

-- whether the rows of these kinds have plain flags
abbrev pub has_plain_flags : {K : Type 0} → (K → Bool) → List (Row K) → Bool
has_plain_flags t rows = list_all (λ row. not (t row.kind) || is_plain_flag row.flag) rows
