-- A text that answers a request is that of an answer that is read again.
use Rattle.std.proofs.Common.{◌≡◌, ℕ, ℤ, pos, List}
use Rattle.scl_cl.proofs.TextAgainLaws.{answer-again}
use Rattle.scl_cl.specs.Program.{program_answer}
use Rattle.scl_c.specs.Texts.{IsGiven, IsTextGiven, HoldsReadAgain}

again : (bytes old new : List ℕ) (wanted : ℕ) → IsGiven (λ said. program_answer bytes ≡ said) old new wanted → HoldsReadAgain bytes old new wanted
again bytes old new wanted h = record {
  text = h.text;
  read_again = answer-again bytes h.text h.is_answer;
  is_wanted = h.is_wanted;
  is_put = h.is_put;
}

-- where a text is given, a command in it is read again
pub again_told : (bytes old new : List ℕ) (wanted : ℕ) (status : ℤ) → IsTextGiven (λ said. program_answer bytes ≡ said) old new wanted status → status ≡ pos 0 → HoldsReadAgain bytes old new wanted
again_told bytes old new wanted status h is = again bytes old new wanted (h.given is)
