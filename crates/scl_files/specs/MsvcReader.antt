-- What `SplitMsvcResponseFileArgs` does with one character.
use Rattle.std.specs.Prelude.{◌≡◌, ℕ, ◌+◌, ◌/◌, ◌==◌, ◌&&◌, not, Bool, true, false, cond, List, [], ◌∷◌, ◌++◌, replicate, encode_utf8}
use Rattle.std.specs.String.{string_bytes}
use Rattle.scl_files.specs.Characters.{backslash, double_quote}
use Rattle.scl_files.specs.MsvcText.{is_msvc_separator, is_even}
use Rattle.scl_files.specs.declared.msvc_text.Reader.{Reader}

abbrev pub backslashes : ℕ → List ℕ
backslashes n = replicate n backslash

-- the arguments from the front: whether one has begun, its bytes so far, the backslashes after them, and whether a quote is
-- open
abbrev pub read_on : Bool → List ℕ → ℕ → Bool → List ℕ → List (List ℕ)
read_on begun bytes n inside [] = cond begun ((bytes ++ backslashes n) ∷ []) []
read_on begun bytes n inside (c ∷ cs) =
    cond (c == backslash) (read_on true bytes (n + 1) inside cs)
    (cond (c == double_quote) (cond (is_even n) (read_on true (bytes ++ backslashes (n / 2)) 0 (not inside) cs) (read_on true ((bytes ++ backslashes (n / 2)) ++ double_quote ∷ []) 0 inside cs))
    (cond (is_msvc_separator c && not inside) (cond begun ((bytes ++ backslashes n) ∷ read_on false [] 0 false cs) (read_on false (bytes ++ backslashes n) 0 inside cs))
    (read_on true ((bytes ++ backslashes n) ++ encode_utf8 c) 0 inside cs)))

abbrev pub reads : Reader → List ℕ → List (List ℕ)
reads r cs = read_on r.begun (string_bytes r.argument) r.backslashes r.inside cs

-- whatever follows the character
abbrev pub TakesChar : Reader → ℕ → Bool → Reader → Type 0
TakesChar s c ends t = (cs : List ℕ) → reads s (c ∷ cs) ≡ cond ends (string_bytes t.argument ∷ read_on false [] 0 false cs) (reads t cs)
