-- The name of what is kept.
use Rattle.std.specs.Prelude.{◌≡◌, ℕ, ◌/◌, ◌%◌, List, [], ◌∷◌, codes}
use Rattle.std.specs.List.{flat_map}
use Rattle.sha2.specs.Sha256.{sha256}
use Rattle.scl_values.specs.Escaped.{digit_of}
use Rattle.scl_lookup.specs.Keys.{CanBeHashed, Row, said, text_of}

-- the hexadecimal digits of a byte, and of bytes
abbrev pub digits_of : ℕ → List ℕ
digits_of byte = digit_of (byte / 16) ∷ digit_of (byte % 16) ∷ []

abbrev pub hex : List ℕ → List ℕ
hex bytes = flat_map digits_of bytes

-- which release answers
abbrev pub release : List ℕ
release = codes "1.0.0"

-- by the rules of which sccache
abbrev pub sccache_rules : List ℕ
sccache_rules = codes "0.19.0"

-- what answers
abbrev pub answering : (release rules : List ℕ) → Row
answering release rules = said (codes "made-by") ∷ said release ∷ said rules ∷ []

-- the text that is hashed by a release
abbrev pub text_by : (release rules : List ℕ) → List Row → List ℕ
text_by release rules rows = text_of (answering release rules ∷ rows)

-- the sum of all that decides
abbrev pub name_of : List Row → List ℕ
name_of rows = hex (sha256 (text_by release sccache_rules rows))

-- under which lists of answers stand: the sum of what is asked for, and at which directory
abbrev pub first_name : (place described : List ℕ) → List ℕ
first_name place described = name_of ((said (codes "first") ∷ said place ∷ said described ∷ []) ∷ [])

-- An update finds nothing that another release kept: where the text is one, so are the release, the rules and the rows of the key.
abbrev pub TextsAreOfOneRelease : Type 0
TextsAreOfOneRelease = (release rules other others : List ℕ) (a b : List Row) → CanBeHashed (answering release rules ∷ a) → CanBeHashed (answering other others ∷ b)
    → text_by release rules a ≡ text_by other others b → (release ≡ other) × (rules ≡ others) × (a ≡ b)
