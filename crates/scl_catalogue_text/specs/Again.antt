-- A text that was written is read as what was written.
use Rattle.std.specs.Prelude.{◌≡◌, ℕ, List, Result, Ok}
use Rattle.scl_catalogue.specs.Form.{Catalogue}
use Rattle.scl_catalogue_text.specs.Outcome.{ReadsText}
use Rattle.scl_catalogue_text.specs.Writable.{CanBeWritten}
use Rattle.scl_catalogue_text.specs.Written.{written}
use Rattle.scl_catalogue_text.specs.declared.mistake.ReadError.{ReadError}

-- a call on this text gives back each catalogue of which it is the text
abbrev pub GivesBack : {A : Type 0} → (A → Catalogue) → Result A ReadError → List ℕ → Type 0
GivesBack view result text = (c : Catalogue) → CanBeWritten c → text ≡ written c → ReadsText view result (Ok c)
