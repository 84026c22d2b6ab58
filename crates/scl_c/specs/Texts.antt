-- What a call over texts in memory gives.
use Rattle.std.specs.Prelude.{◌≡◌, ◌<◌, ◌⊎◌, ℕ, ℤ, pos, List, ◌++◌, length, drop, Result, Ok, Err}
use Rattle.scl_cl.specs.Program.{IsTextReadAgain}

-- It is one of the statuses that the header has.
abbrev pub IsStatus : ℤ → Type 0
IsStatus status = (status ≡ pos 0) ⊎ ((status ≡ pos 1) ⊎ ((status ≡ pos 2) ⊎ (status ≡ pos 3)))

-- A whole text that may be answered stands at the front of the room, whose rest is as it was.
pub record IsGiven (Answers : Result (List ℕ) ℕ → Type 0) (old new : List ℕ) (wanted : ℕ) : Type 0 where
  pub text : List ℕ
  pub is_answer : Answers (Ok text)
  pub is_wanted : wanted ≡ length text
  pub is_put : new ≡ text ++ drop (length text) old

-- A text that may be answered is longer than the room, which is as it was.
pub record IsLonger (Answers : Result (List ℕ) ℕ → Type 0) (old new : List ℕ) (wanted : ℕ) : Type 0 where
  pub text : List ℕ
  pub is_answer : Answers (Ok text)
  pub is_wanted : wanted ≡ length text
  pub is_longer : length old < wanted
  pub is_kept : new ≡ old

-- What a call gives, by its status, where these may be answered: texts, and the number of a bad line.
pub record IsTextGiven (Answers : Result (List ℕ) ℕ → Type 0) (old new : List ℕ) (wanted : ℕ) (status : ℤ) : Type 0 where
  pub known : IsStatus status
  pub given : status ≡ pos 0 → IsGiven Answers old new wanted
  pub short : status ≡ pos 1 → IsLonger Answers old new wanted
  pub bad_line : status ≡ pos 2 → Answers (Err wanted) × (new ≡ old)
  pub no_memory : status ≡ pos 3 → (wanted ≡ 0) × (new ≡ old)

-- A text stands at the front of the room that answers the request, and a command in it is read again.
pub record HoldsReadAgain (request old new : List ℕ) (wanted : ℕ) : Type 0 where
  pub text : List ℕ
  pub read_again : IsTextReadAgain request text
  pub is_wanted : wanted ≡ length text
  pub is_put : new ≡ text ++ drop (length text) old
