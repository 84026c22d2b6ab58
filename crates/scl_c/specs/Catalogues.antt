-- What a call gives by the text of a catalogue.
use Rattle.std.specs.Prelude.{◌≡◌, ◌<◌, ◌⊎◌, ℕ, ℤ, pos, Bool, true, false, List, Result, Ok, Err}
use denote.RawPtr.{Ptr}
use Rattle.scl_catalogue.specs.Form.{Catalogue}
use Rattle.scl_catalogue_default.specs.Over.{read_over}
use Rattle.scl_catalogue_text.specs.Wrong.{IsWrong}
use Rattle.scl_catalogue_text.specs.declared.mistake.BadLine.{BadLine}
use Rattle.scl_catalogue_text.specs.declared.mistake.ReadError.{ReadError}
use Rattle.scl_catalogue_text.specs.declared.mistake.ReadError.TheVariants as error
use Rattle.scl_requests.specs.Requests.{AnswersBytes}
use Rattle.scl_c.specs.Described.{IsDescribed}

-- No catalogue is read: its text has a wrong line, of this number first, or memory was refused.
pub record IsUnread (line : ℕ) (old new : List ℕ) (wanted : ℕ) (status : ℤ) : Type 0 where
  pub known : (status ≡ pos 6) ⊎ (status ≡ pos 3)
  pub wrong : status ≡ pos 6 → wanted ≡ line
  pub no_memory : status ≡ pos 3 → wanted ≡ 0
  pub is_kept : new ≡ old

-- what is told of an error
abbrev pub IsUnreadBy : ReadError → (wanted : ℕ) → (status : ℤ) → Type 0
IsUnreadBy (error.BadLine bad) wanted status = (wanted ≡ bad.line) × (status ≡ pos 6)
IsUnreadBy error.Memory wanted status = (wanted ≡ 0) × (status ≡ pos 3)

-- What a call gives, by its status and by what is read of the catalogue's text.
abbrev pub IsDescribedBy : Result Catalogue BadLine → List ℕ → List ℕ → List ℕ → ℕ → ℤ → Type 0
IsDescribedBy (Ok catalogue) request old new wanted status = IsDescribed (AnswersBytes catalogue request) request old new wanted status
IsDescribedBy (Err bad) request old new wanted status = IsUnread bad.line old new wanted status

-- What a call gives, by what is read of a catalogue's text where a description is requested, and else whatever the catalogue is.
abbrev pub IsDescribedWhere : (is_described : Bool) → Result Catalogue BadLine → List ℕ → List ℕ → List ℕ → ℕ → ℤ → Type 0
IsDescribedWhere true read request old new wanted status = IsDescribedBy read request old new wanted status
IsDescribedWhere false read request old new wanted status = (catalogue : Catalogue) → IsDescribed (AnswersBytes catalogue request) request old new wanted status

-- The lines of a catalogue's text before the one of this number are read, and it is not.
pub record IsFirstWrongLine (text : List ℕ) (number : ℕ) : Type 0 where
  pub bad : BadLine
  pub is_wrong : IsWrong text (error.BadLine bad)
  pub number_is : number ≡ bad.line

-- No catalogue is read of the text over the built-in one, and the number is that of its first wrong line. Only where a line of the built-in text is wrong, it is 0.
pub record IsWrongAt (text : List ℕ) (number : ℕ) : Type 0 where
  pub bad : BadLine
  pub is_unread : read_over text ≡ Err bad
  pub number_is : number ≡ bad.line
  pub is_first : 0 < number → IsFirstWrongLine text number

-- What is told, by the status, where a catalogue of the text over the built-in one is wanted, and what becomes of its handle.
pub record IsMade (text : List ℕ) (old new : Ptr) (wanted : ℕ) (status : ℤ) : Type 0 where
  pub known : (status ≡ pos 0) ⊎ ((status ≡ pos 6) ⊎ (status ≡ pos 3))
  pub made : status ≡ pos 0 → wanted ≡ 0
  pub wrong : status ≡ pos 6 → IsWrongAt text wanted × (new ≡ old)
  pub no_memory : status ≡ pos 3 → (wanted ≡ 0) × (new ≡ old)
