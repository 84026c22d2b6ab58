-- Rows of texts of response files, and of the words that they are cut into.
use Rattle.std.specs.Prelude.{◌≡◌, ℕ, List, [], ◌∷◌, ◌++◌, codes, map, encode_utf8_all, None, Some}
use Rattle.std.specs.List.{flat_map}
use Rattle.scl_files.specs.DiabText.{diab_arguments}
use Rattle.scl_files.specs.GnuText.{gnu_arguments}
use Rattle.scl_files.specs.MsvcText.{msvc_arguments}
use Rattle.scl_examples.specs.Written.{words}

-- a letter before each of these, and a last one
abbrev pub letters_before : List ℕ → List ℕ
letters_before separators = flat_map (λ separator. 97 ∷ separator ∷ []) separators ++ codes "z"

-- as many letters, and a last one
abbrev pub letters_of : List ℕ → List (List ℕ)
letters_of separators = map (λ separator. codes "a") separators ++ codes "z" ∷ []

-- tab, LF, FF, CR and space, and not VT
abbrev pub GnuTextsHaveSeparators : Type 0
GnuTextsHaveSeparators =
    (gnu_arguments (letters_before (0x9 ∷ 0xA ∷ 0xC ∷ 0xD ∷ 0x20 ∷ [])) ≡ letters_of (0x9 ∷ 0xA ∷ 0xC ∷ 0xD ∷ 0x20 ∷ []))
    × (gnu_arguments (codes "e" ++ 0xB ∷ codes "f g") ≡ (codes "e" ++ 0xB ∷ codes "f") ∷ codes "g" ∷ [])

-- tab, LF, CR and space, and not FF
abbrev pub MsvcTextsHaveSeparators : Type 0
MsvcTextsHaveSeparators =
    (msvc_arguments (letters_before (0x9 ∷ 0xA ∷ 0xD ∷ 0x20 ∷ [])) ≡ letters_of (0x9 ∷ 0xA ∷ 0xD ∷ 0x20 ∷ []))
    × (msvc_arguments (codes "d" ++ 0xC ∷ codes "e f") ≡ (codes "d" ++ 0xC ∷ codes "e") ∷ codes "f" ∷ [])

-- all white space of Unicode
abbrev pub white_space : List ℕ
white_space =
    0x9 ∷ 0xA ∷ 0xB ∷ 0xC ∷ 0xD ∷ 0x20 ∷ 0x85 ∷ 0xA0 ∷ 0x1680
    ∷ 0x2000 ∷ 0x2001 ∷ 0x2002 ∷ 0x2003 ∷ 0x2004 ∷ 0x2005 ∷ 0x2006 ∷ 0x2007 ∷ 0x2008 ∷ 0x2009 ∷ 0x200A
    ∷ 0x2028 ∷ 0x2029 ∷ 0x202F ∷ 0x205F ∷ 0x3000 ∷ []

-- characters that are none
abbrev pub no_white_space : List ℕ
no_white_space = 0x1C ∷ 0x180E ∷ 0x200B ∷ 0xFEFF ∷ []

abbrev pub DiabTextsHaveSeparators : Type 0
DiabTextsHaveSeparators =
    (diab_arguments (letters_before white_space) ≡ Some (letters_of white_space))
    × (diab_arguments no_white_space ≡ Some (encode_utf8_all no_white_space ∷ []))

-- white space around words gives no empty word
abbrev pub DiabTextsHaveNoEmptyWord : Type 0
DiabTextsHaveNoEmptyWord =
    (diab_arguments (codes " -c" ++ 0x3000 ∷ 0x85 ∷ codes "-@f" ++ 0xA ∷ []) ≡ Some (words "-c -@f"))
    × (diab_arguments [] ≡ Some [])

-- a quote refuses the text
abbrev pub DiabTextsHaveNoQuote : Type 0
DiabTextsHaveNoQuote = (diab_arguments (codes "a'b") ≡ None) × (diab_arguments (codes "-DA=\"x\"") ≡ None)

abbrev pub GnuTextsHaveQuotesAndEscapes : Type 0
GnuTextsHaveQuotesAndEscapes =
    (gnu_arguments (codes "a\"b\"c '' \\ d\\") ≡ codes "abc" ∷ codes " d" ∷ [])
    × (gnu_arguments (codes "'a\\b' \"a\\\"b\" x\"y z") ≡ codes "a\\b" ∷ codes "a\"b" ∷ codes "xy z" ∷ [])

-- backslashes before a quote are halved, and a doubled quote toggles twice
abbrev pub MsvcTextsHaveQuotes : Type 0
MsvcTextsHaveQuotes =
    (msvc_arguments (codes "a\\\\\"b c\" d \"\" \\\"x") ≡ codes "a\\b c" ∷ codes "d" ∷ [] ∷ codes "\"x" ∷ [])
    × (msvc_arguments (codes "\"a\"\"b\" a\\ b \\\\\"") ≡ codes "ab" ∷ codes "a\\" ∷ codes "b" ∷ codes "\\" ∷ [])
