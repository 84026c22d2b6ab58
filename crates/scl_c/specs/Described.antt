-- What a call over texts in memory gives where a description is requested.
use Rattle.std.specs.Prelude.{◌≡◌, ◌⊎◌, ◌-◌, ℕ, ℤ, pos, Bool, true, false, List, [], codes, drop, get_or, map, Option, None, Some, Result, Ok, Err}
use Rattle.std.specs.Str.{bytes_eq}
use Rattle.scl_files.specs.Characters.{space}
use Rattle.scl_description.specs.Lines.{cut_at, lines_of}
use Rattle.scl_reader.specs.CommandLines.{Request}
use Rattle.scl_reader.specs.Answers.{AnswerIsReadAgain}
use Rattle.scl_cl.specs.Requests.{request_from, request_in}
use Rattle.scl_describe.specs.Settings.{request_lines}
use Rattle.scl_requests.specs.Requests.{is_described, kind_of}
use Rattle.scl_requests.specs.declared.requests.Kind.{Kind}
use Rattle.scl_requests.specs.declared.requests.Kind.TheVariants as kinds
use Rattle.scl_talks.specs.Talks.{left}
use Rattle.scl_c.specs.Texts.{IsGiven, IsLonger}

-- ---- a bad line

-- the line of this number, of which the first is 1; an empty one where there is none
abbrev pub line_at : ℕ → List ℕ → List ℕ
line_at number bytes = get_or (lines_of bytes) (number - 1) []

abbrev pub is_setting_before : Option (List ℕ × List ℕ) → Bool
is_setting_before None = false
is_setting_before (Some parts) = bytes_eq parts.0 (codes "setting")

-- what stands before its first space says that it is one of a setting
abbrev pub is_setting : List ℕ → Bool
is_setting line = is_setting_before (cut_at space line)

-- ---- what a call gives, where these may be answered: texts, and the number of a bad line

-- it is one of the statuses that the header has for a description
abbrev pub IsStatus : ℤ → Type 0
IsStatus status = (status ≡ pos 0) ⊎ ((status ≡ pos 1) ⊎ ((status ≡ pos 2) ⊎ ((status ≡ pos 3) ⊎ (status ≡ pos 5))))

-- The room is as it was, and this is the number of a bad line, which is one of a setting, or is none.
pub record IsBad (Answers : Result (List ℕ) ℕ → Type 0) (request old new : List ℕ) (wanted : ℕ) (of_setting : Bool) : Type 0 where
  pub is_answer : Answers (Err wanted)
  pub is_of_setting : is_setting (line_at wanted request) ≡ of_setting
  pub is_kept : new ≡ old

-- What a call gives, by its status.
pub record IsDescribed (Answers : Result (List ℕ) ℕ → Type 0) (request old new : List ℕ) (wanted : ℕ) (status : ℤ) : Type 0 where
  pub known : IsStatus status
  pub given : status ≡ pos 0 → IsGiven Answers old new wanted
  pub short : status ≡ pos 1 → IsLonger Answers old new wanted
  pub bad_line : status ≡ pos 2 → IsBad Answers request old new wanted false
  pub no_memory : status ≡ pos 3 → (wanted ≡ 0) × (new ≡ old)
  pub newer : status ≡ pos 5 → IsBad Answers request old new wanted true

-- the request of which a description, or what a lookup begins with, is given
abbrev pub request_of : Kind → List ℕ → Result Request ℕ
request_of kinds.Lookup bytes = request_from 2 [] (map left (drop 1 (lines_of bytes)))
request_of other bytes = request_in (request_lines (lines_of bytes))

-- The bytes make a request of the kind, and the command of its answer, if it has one, is read again.
pub record IsAskedAgain (kind : Kind) (bytes : List ℕ) : Type 0 where
  pub request : Request
  pub request_is : request_of kind bytes ≡ Ok request
  pub read_again : AnswerIsReadAgain request

abbrev pub AskedAgainIf : (is_described : Bool) → Kind → List ℕ → Type 0
AskedAgainIf true kind bytes = IsAskedAgain kind bytes
AskedAgainIf false kind bytes = Unit {0}

-- that is so of each request of a description, and of a lookup; what else is answered has no command
abbrev pub AsksReadAgain : List ℕ → Type 0
AsksReadAgain bytes = let kind = kind_of (lines_of bytes) in AskedAgainIf (is_described kind) kind bytes
