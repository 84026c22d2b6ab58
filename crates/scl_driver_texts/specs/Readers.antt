-- How the code stores words and contexts while it reads.
use Rattle.std.specs.Prelude.{ℕ, List, ◌++◌}
use Rattle.std.specs.Option.{option_map}
use Rattle.scl_values.specs.Words.{words_of}
use Rattle.scl_driver_texts.specs.Pieces.{Piece, joined}
use Rattle.scl_driver_texts.specs.GnuWords as gnu
use Rattle.scl_driver_texts.specs.declared.words.Words.{Words}
use Rattle.scl_driver_texts.specs.declared.gnu_words.Reader.{Reader}

-- all words, if these pieces are still to come
abbrev pub made : Words → List Piece → List (List ℕ)
made w ps = words_of w.whole.items ++ joined (option_map (λ word. word.items) w.begun) ps

-- all words, if these bytes are still to come
abbrev pub left : Reader → List ℕ → List (List ℕ)
left r bytes = made r.words (gnu.pieces r.dialect r.quote (gnu.items r.dialect r.is_taken bytes))
