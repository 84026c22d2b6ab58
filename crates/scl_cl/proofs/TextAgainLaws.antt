-- A command in the text of an answer is read again.
use Rattle.std.proofs.Common.{◌≡◌, ℕ, List, Option, None, Some, Result, Ok, Err, refl, sym}
use Rattle.std.specs.Prelude.{IfSome}
use Rattle.scl_description.specs.Lines.{lines_of}
use Rattle.scl_reader.specs.CommandLines.{Request}
use Rattle.scl_reader.proofs.AgainLaws.{answers_again}
use Rattle.scl_cl.specs.Requests.{request_in}
use Rattle.scl_cl.specs.Program.{text_for, program_answer, IsTextReadAgain}

text-again : (bytes text : List ℕ) (r : Result Request ℕ) → request_in (lines_of bytes) ≡ r → text_for r ≡ Ok text → IsTextReadAgain bytes text
text-again bytes text (Ok request) e is = record { request = request; request_is = e; text_is = sym (cc); read_again = answers_again request }
text-again bytes text (Err n) e is = absurd (cc)

pub answer-again : (bytes text : List ℕ) → program_answer bytes ≡ Ok text → IsTextReadAgain bytes text
answer-again bytes text is = text-again bytes text (request_in (lines_of bytes)) refl is

-- if there are bytes, and the text of their answer is the right one, a command in it is read again
pub text-answers-again : (given : Option (List ℕ)) (IsWritten : List ℕ → Type 0) →
    IfSome given (λ bytes. (text : List ℕ) × (program_answer bytes ≡ Ok text) × IsWritten text) → IfSome given (λ bytes. (text : List ℕ) × IsTextReadAgain bytes text × IsWritten text)
text-answers-again None IsWritten h = tt
text-answers-again (Some bytes) IsWritten h = (h.0, answer-again bytes h.0 h.1, h.2)
