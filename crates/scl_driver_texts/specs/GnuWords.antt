-- The words of a response file by gcc's driver (`buildargv` of libiberty) and by clang's (`TokenizeGNUCommandLine` of LLVM).
use Rattle.std.specs.Prelude.{ℕ, ◌==◌, ◌||◌, Bool, true, false, cond, List, [], ◌∷◌, map, filter, Option, None, Some}
use Rattle.scl_files.specs.Characters.{space, tab, line_feed, form_feed, carriage_return, backslash, single_quote, double_quote}
use Rattle.scl_files.specs.GnuText.{is_not_empty}
use Rattle.scl_driver_texts.specs.Pieces.{vertical_tab, Item, bare, taken, Piece, gap, stands, joined, before_nul}
use Rattle.scl_driver_texts.specs.declared.gnu_words.Dialect.{Dialect}
use Rattle.scl_driver_texts.specs.declared.gnu_words.Dialect.TheVariants as dialects

-- the white space of C, or that of LLVM
abbrev pub separates : Dialect → ℕ → Bool
separates dialects.Libiberty c = c == space || c == tab || c == line_feed || c == vertical_tab || c == form_feed || c == carriage_return
separates dialects.Llvm c = c == space || c == tab || c == line_feed || c == carriage_return

abbrev pub is_quote : ℕ → Bool
is_quote c = c == single_quote || c == double_quote

-- what a backslash at the end of the text becomes: nothing, or itself
abbrev pub at_end : Dialect → List ℕ
at_end dialects.Libiberty = []
at_end dialects.Llvm = backslash ∷ []

-- a backslash escapes the byte after it, in quotes of either kind too; the flag says whether there is a backslash before
-- these bytes
abbrev pub items : Dialect → Bool → List ℕ → List Item
items d true [] = taken (at_end d) ∷ []
items d false [] = []
items d true (c ∷ cs) = taken (c ∷ []) ∷ items d false cs
items d false (c ∷ cs) = cond (c == backslash) (items d true cs) (bare c ∷ items d false cs)

-- a bare quote opens, and the same one closes; outside quotes, bare white space is a gap
abbrev pub pieces : Dialect → Option ℕ → List Item → List Piece
pieces d quote [] = []
pieces d quote (taken bytes ∷ is) = stands bytes ∷ pieces d quote is
pieces d (Some quote) (bare c ∷ is) = cond (c == quote) (stands [] ∷ pieces d None is) (stands (c ∷ []) ∷ pieces d (Some quote) is)
pieces d None (bare c ∷ is) =
    cond (separates d c) (gap ∷ pieces d None is)
    (cond (is_quote c) (stands [] ∷ pieces d (Some c) is) (stands (c ∷ []) ∷ pieces d None is))

unfoldable pub gnu_words : Dialect → List ℕ → List (List ℕ)
gnu_words d text = joined None (pieces d None (items d false text))

-- gcc: the text ends at its first byte 0; empty quotes are an empty word
unfoldable pub libiberty_words : List ℕ → List (List ℕ)
libiberty_words text = gnu_words dialects.Libiberty (before_nul text)

-- clang: empty words are dropped; then each word ends at its first byte 0
unfoldable pub llvm_words : List ℕ → List (List ℕ)
llvm_words text = map before_nul (filter is_not_empty (gnu_words dialects.Llvm text))
