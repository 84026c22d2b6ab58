-- A command line of Windows and its words, by the rules of `CommandLineToArgvW` and of the C runtime, where those agree.
use Rattle.std.specs.Prelude.{ℕ, ◌+◌, ◌==◌, ◌&&◌, not, Bool, true, List, [], ◌∷◌, ◌++◌, length, take, drop, position, Option, None, Some, Result, Ok, Err, if◌then◌else◌}
use Rattle.std.specs.List.{list_any}
use Rattle.scl_windows_words.specs.Parts as windows
use Rattle.scl_windows_words.specs.Parts.{Part, double_quote, doubled, gap, open_end, stands, text_parts}
use Rattle.scl_windows_words.specs.declared.reader.Gaps.TheVariants as gaps
use Rattle.scl_shell.specs.ShellText.{with, kept}
use Rattle.scl_shell.specs.declared.windows.WindowsError.{WindowsError}
use Rattle.scl_shell.specs.declared.windows.WindowsError.TheVariants as errors

-- space and tab
abbrev pub is_gap : ℕ → Bool
is_gap c = windows.is_gap gaps.Blanks c

abbrev pub is_quote : ℕ → Bool
is_quote c = c == double_quote

-- ---- words

-- words before others, if there are those
abbrev pub onto : List (List ℕ) → Option (List (List ℕ)) → Option (List (List ℕ))
onto words None = None
onto words (Some others) = Some (words ++ others)

-- what is between gaps, joined; the first word may have begun. Programs read a quote right after one that closes in several ways; the end closes quotes
abbrev pub joined : Option (List ℕ) → List Part → Option (List (List ℕ))
joined begun [] = Some (kept begun)
joined begun (gap ∷ ps) = onto (kept begun) (joined None ps)
joined begun (stands bytes ∷ ps) = joined (with begun bytes) ps
joined begun (doubled ∷ ps) = None
joined begun (open_end ∷ ps) = joined begun ps

-- the words after the program, if all programs read the same ones
abbrev pub words_behind : List ℕ → Option (List (List ℕ))
words_behind text = joined None (text_parts gaps.Blanks text)

-- ---- the program

-- a gap or the end
abbrev pub is_ended : List ℕ → Bool
is_ended [] = true
is_ended (c ∷ cs) = is_gap c

-- a program in quotes and what follows it, by the place of the closing quote, after which a gap or the end has to be
abbrev pub quoted_at : List ℕ → Option ℕ → Option (List ℕ × List ℕ)
quoted_at text None = None
quoted_at text (Some at) = if is_ended (drop (at + 1) text) then Some (take at text, drop (at + 1) text) else None

-- a program without quotes, and what follows it
abbrev pub bare_program : List ℕ → List ℕ → Option (List ℕ × List ℕ)
bare_program program rest = if not (length program == 0) && not (list_any is_quote program) then Some (program, rest) else None

-- it goes up to the first gap or to the end
abbrev pub bare_at : List ℕ → Option ℕ → Option (List ℕ × List ℕ)
bare_at text None = bare_program text []
bare_at text (Some at) = bare_program (take at text) (drop (at + 1) text)

-- the program and what follows it: in quotes, or without any. A backslash in it is itself
abbrev pub program_in : List ℕ → Option (List ℕ × List ℕ)
program_in [] = None
program_in (c ∷ cs) = if c == double_quote then quoted_at cs (position is_quote cs) else bare_at (c ∷ cs) (position is_gap (c ∷ cs))

-- ---- a command line

abbrev pub Said : Type 0
Said = Result (List (List ℕ)) WindowsError

abbrev pub said_behind : List ℕ → Option (List (List ℕ)) → Said
said_behind program None = Err errors.SecondQuote
said_behind program (Some words) = Ok (program ∷ words)

abbrev pub said_of : Option (List ℕ × List ℕ) → Said
said_of None = Err errors.Program
said_of (Some p) = said_behind p.0 (words_behind p.1)

-- the program and the words after it, or why there are none that all programs read
abbrev pub windows_words : List ℕ → Said
windows_words text = said_of (program_in text)
