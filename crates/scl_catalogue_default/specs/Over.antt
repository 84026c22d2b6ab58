-- What is read of a text as a catalogue over the one that is built in.
use Rattle.std.specs.Prelude.{◌≡◌, ℕ, ◌<◌, List, Result, Ok, Err}
use Rattle.scl_catalogue.specs.Form.{Catalogue}
use Rattle.scl_catalogue.specs.Over.{over}
use Rattle.scl_catalogue_text.specs.Lines.{read}
use Rattle.scl_catalogue_text.specs.Outcome.{after_line}
use Rattle.scl_catalogue_text.specs.Wrong.{IsWrong}
use Rattle.scl_catalogue_text.specs.declared.mistake.BadLine.{BadLine}
use Rattle.scl_catalogue_text.specs.declared.mistake.ReadError.{ReadError}
use Rattle.scl_catalogue_text.specs.declared.mistake.ReadError.TheVariants as error
use Rattle.scl_catalogue_default.specs.Text.{built_in_text}

-- A line of the text has a number from 1 on, so a wrong one of the built-in text has 0.
abbrev pub unnumbered : {A : Type 0} → Result A BadLine → Result A BadLine
unnumbered (Ok x) = Ok x
unnumbered (Err bad) = Err (record bad { line = 0 })

abbrev pub IsUnnumbered : ReadError → ReadError → Type 0
IsUnnumbered (error.BadLine bad) e = e ≡ error.BadLine (record bad { line = 0 })
IsUnnumbered error.Memory e = e ≡ error.Memory

-- the catalogue of the text over the built-in one, or the first line that is wrong
unfoldable pub read_over : List ℕ → Result Catalogue BadLine
read_over text = after_line (read text) (λ own. after_line (unnumbered (read built_in_text)) (λ base. Ok (over own base)))

-- an error with a number is that of a line of the text
abbrev pub IsWrongOver : List ℕ → ReadError → Type 0
IsWrongOver text (error.BadLine bad) = 0 < bad.line → IsWrong text (error.BadLine bad)
IsWrongOver text error.Memory = Unit {0}
