-- The grammar of JSON (RFC 8259), as bytes, without white space between its marks.
use Rattle.std.specs.Prelude.{◌≡◌, ◌≢◌, ◌≤◌, ◌||◌, ℕ, Bool, true, codes, List, [], ◌∷◌, ◌++◌}
use Rattle.std.specs.Char.{encode_utf8}
use Rattle.std.specs.Str.{all_scalars}
use Rattle.scl_shell.specs.Quoted.{between}
use Rattle.scl_json.specs.Objects.{is_number}
use Rattle.scl_json.specs.Texts.{array, object, is_mark}

-- a hexadecimal digit, a letter in lower case
abbrev pub is_hex : ℕ → Bool
is_hex c = between 48 c 57 || between 97 c 102

-- what is between the quotes of a string: characters in UTF-8, of which a control, a quote or a backslash never is itself; a quote
-- or a backslash after a backslash; `\u` with four digits
pub data IsInside : List ℕ → Type 0 where
  nothing : IsInside []
  character : (c : ℕ) (s : List ℕ) → all_scalars (c ∷ []) ≡ true → 32 ≤ c → c ≢ 34 → c ≢ 92 → IsInside s → IsInside (encode_utf8 c ++ s)
  mark : (c : ℕ) (s : List ℕ) → is_mark c ≡ true → IsInside s → IsInside (92 ∷ c ∷ s)
  unit : (a b c d : ℕ) (s : List ℕ) → is_hex a ≡ true → is_hex b ≡ true → is_hex c ≡ true → is_hex d ≡ true → IsInside s → IsInside (92 ∷ 117 ∷ a ∷ b ∷ c ∷ d ∷ s)

pub data IsString : List ℕ → Type 0 where
  string : (s : List ℕ) → IsInside s → IsString (codes "\"" ++ s ++ codes "\"")

pub data Kind : Type 0 where
  value : Kind
  values : Kind
  members : Kind

-- the text is a value; the texts are values; the texts are members, each with a name and a value
pub data Are : Kind → List (List ℕ) → Type 0 where
  null : Are value (codes "null" ∷ [])
  yes : Are value (codes "true" ∷ [])
  no : Are value (codes "false" ∷ [])
  number : (digits : List ℕ) → is_number digits ≡ true → Are value (digits ∷ [])
  text : (s : List ℕ) → IsString s → Are value (s ∷ [])
  list : (items : List (List ℕ)) → Are values items → Are value (array items ∷ [])
  record_of : (ms : List (List ℕ)) → Are members ms → Are value (object ms ∷ [])
  no_values : Are values []
  more_values : (v : List ℕ) (vs : List (List ℕ)) → Are value (v ∷ []) → Are values vs → Are values (v ∷ vs)
  no_members : Are members []
  more_members : (name v : List ℕ) (ms : List (List ℕ)) → IsString name → Are value (v ∷ []) → Are members ms → Are members ((name ++ codes ":" ++ v) ∷ ms)

-- a text that is one value of JSON
abbrev pub IsJson : List ℕ → Type 0
IsJson written = Are value (written ∷ [])
