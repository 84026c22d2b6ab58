-- The answer to a request's bytes.
use Rattle.std.specs.Prelude.{◌≡◌, ℕ, List, Result, Ok, Err}
use Rattle.scl_description.specs.Lines.{lines_of}
use Rattle.scl_reader.specs.CommandLines.{Request}
use Rattle.scl_cl.specs.Requests.{request_in}
use Rattle.scl_cl.specs.AnswerTexts.{text_of}
use Rattle.scl_reader.specs.Answers.{answer_to, AnswerIsReadAgain}

abbrev pub text_for : Result Request ℕ → Result (List ℕ) ℕ
text_for (Ok request) = Ok (text_of (answer_to request))
text_for (Err n) = Err n

-- the text of the answer to the request in these bytes, or the number of their bad line
abbrev pub program_answer : List ℕ → Result (List ℕ) ℕ
program_answer bytes = text_for (request_in (lines_of bytes))

-- the text is that of the answer to the request in these bytes; if the answer is a command, its words are in the lines `arg`,
-- and it is read again
pub record IsTextReadAgain (bytes text : List ℕ) : Type 0 where
  pub request : Request
  pub request_is : request_in (lines_of bytes) ≡ Ok request
  pub text_is : text ≡ text_of (answer_to request)
  pub read_again : AnswerIsReadAgain request
