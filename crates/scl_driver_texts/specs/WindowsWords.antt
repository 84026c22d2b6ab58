-- The words of a response file by the driver of clang-cl (`TokenizeWindowsCommandLine` of LLVM 14).
use Rattle.std.specs.Prelude.{ℕ, List, [], ◌∷◌, map, None}
use Rattle.scl_windows_words.specs.Parts as windows
use Rattle.scl_windows_words.specs.Parts.{Part, double_quote, text_parts}
use Rattle.scl_windows_words.specs.declared.reader.Gaps.TheVariants as gaps
use Rattle.scl_driver_texts.specs.Pieces.{Piece, gap, stands, lost, joined}

-- two quotes in a row inside quotes are one quote that is itself
abbrev pub piece_of : Part → Piece
piece_of windows.gap = gap
piece_of (windows.stands bytes) = stands bytes
piece_of windows.doubled = stands (double_quote ∷ [])
piece_of windows.open_end = lost

abbrev pub pieces : List Part → List Piece
pieces ps = map piece_of ps

unfoldable pub windows_words : List ℕ → List (List ℕ)
windows_words text = joined None (pieces (text_parts gaps.WhiteSpace text))
