-- What follows from the definitions of a shell's texts.
use Rattle.std.specs.Prelude.{◌≡◌, ℕ, List, nat_lt, true}
use Rattle.std.specs.List.{list_all, flat_map}
use Rattle.scl_shell.specs.ShellText.{AreWords, IsBroken}
use Rattle.scl_shell.specs.Quoted.{quoted_text}
use Rattle.scl_shell.specs.Shown.{is_visible, shown, shown_text, in_dollar_quotes}
use Rattle.scl_shell.specs.DollarQuotes.{InDollarQuotes}
use Rattle.scl_shell.specs.declared.split.ShellError.{ShellError}

abbrev pub EachTextHasOneReading : Type 0
EachTextHasOneReading = (text : List ℕ) (words others : List (List ℕ)) → AreWords text words → AreWords text others → words ≡ others

abbrev pub BrokenTextsHaveNoWords : Type 0
BrokenTextsHaveNoWords = (text : List ℕ) (error : ShellError) → IsBroken text error
    → ((words : List (List ℕ)) → ¬ AreWords text words) × ((another : ShellError) → IsBroken text another → error ≡ another)

-- quoted words are read back
abbrev pub QuotedWordsAreReadBack : Type 0
QuotedWordsAreReadBack = (words : List (List ℕ)) → AreWords (quoted_text words) words

-- the inside of `$'..'` is read back by bash, zsh and ksh
abbrev pub DollarQuotesAreReadBack : Type 0
DollarQuotesAreReadBack = (word : List ℕ) → list_all (λ byte. nat_lt byte 256) word ≡ true → InDollarQuotes (flat_map in_dollar_quotes word) word

-- what is shown is visible: no byte of it is taken as a control
abbrev pub ShownIsVisible : Type 0
ShownIsVisible = (bytes : List ℕ) → is_visible (shown bytes) ≡ true

abbrev pub ShownWordsAreVisible : Type 0
ShownWordsAreVisible = (words : List (List ℕ)) → is_visible (shown_text words) ≡ true
