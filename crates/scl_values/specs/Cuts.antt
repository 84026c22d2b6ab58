-- What words are cut into.
use Rattle.std.specs.Prelude.{ℕ, Bool, true, false, cond, ◌==◌, ◌&&◌, List, [], ◌∷◌, length, drop, map, Option, None, Some}
use Rattle.std.specs.Str.{bytes_eq}
use Rattle.scl_values.specs.declared.argument.ArgDisposition.{ArgDisposition}
use Rattle.scl_values.specs.declared.argument.ArgDisposition.TheVariants as how
use Rattle.scl_values.specs.Row.{Row, Shape, bare, apart, joined, either}

-- an option of a command line: a raw word, an unknown flag, a flag that takes no value, or a flag with its value
pub data Cut (K : Type 0) : Type 0 where
  raw : List ℕ → Cut K
  unknown : List ℕ → Cut K
  flag : Row K → Cut K
  with_value : Row K → List ℕ → ArgDisposition → Cut K

-- whether the last option has its value
pub data End : Type 0 where
  clean : End
  dangling : End

abbrev pub is_dangling : End → Bool
is_dangling clean = false
is_dangling dangling = true

-- what words are cut into
pub record Cutting (K : Type 0) : Type 0 where
  pub options : List (Cut K)
  pub end : End

-- What a word is cut into: an option; or a flag whose value is the next word, with its disposition, and that of an empty
-- value if there is no next word; or the mark. After the mark all words are raw.
pub data Piece (K : Type 0) : Type 0 where
  whole : Cut K → Piece K
  needs_value : Row K → ArgDisposition → Option ArgDisposition → Piece K
  ends_options : Piece K

-- the rest of a word without the delimiter that it begins with
abbrev pub after_delimiter : Option ℕ → List ℕ → List ℕ
after_delimiter None rest = rest
after_delimiter (Some d) [] = []
after_delimiter (Some d) (x ∷ xs) = cond (d == x) xs (x ∷ xs)

-- the disposition of the empty value of a flag that is the last word: only if there is no delimiter
abbrev pub without_value : Option ℕ → Option ArgDisposition
without_value None = Some (how.Concatenated None)
without_value (Some d) = None

-- a word that begins with the row's flag: by the row's shape and the rest of the word
abbrev pub piece_at : {K : Type 0} → Row K → Shape → List ℕ → Piece K
piece_at row bare rest = whole (flag row)
piece_at row apart rest = needs_value row how.Separated None
piece_at row (joined d) rest = whole (with_value row (after_delimiter d rest) (how.Concatenated d))
piece_at row (either d) [] = needs_value row (how.CanBeConcatenated d) (without_value d)
piece_at row (either d) (x ∷ xs) = whole (with_value row (after_delimiter d (x ∷ xs)) (how.CanBeSeparated d))

-- `-`
abbrev pub dash : ℕ
dash = 45

-- `--`, the mark after which all words are raw
abbrev pub mark : List ℕ
mark = dash ∷ (dash ∷ [])

abbrev pub starts_with_dash : List ℕ → Bool
starts_with_dash [] = false
starts_with_dash (x ∷ xs) = x == dash

-- a word, by its owner
abbrev pub owned_piece : {K : Type 0} → Option (Row K) → List ℕ → Piece K
owned_piece None word = whole (cond (starts_with_dash word) (unknown word) (raw word))
owned_piece (Some row) word = piece_at row row.shape (drop (length row.flag) word)

-- a word where an option may begin: `own` gives its owner; with dashes the mark ends the options
abbrev pub piece_of : {K : Type 0} → (List ℕ → Option (Row K)) → Bool → List ℕ → Piece K
piece_of own dashes word = cond (dashes && bytes_eq word mark) ends_options (owned_piece (own word) word)

-- the option before the others
abbrev pub before : {K : Type 0} → Cut K → Cutting K → Cutting K
before first others = record { options = first ∷ others.options; end = others.end }

-- what a last flag is cut into, after which there is no word
abbrev pub last_piece : {K : Type 0} → Row K → Option ArgDisposition → Cutting K
last_piece row None = record { options = []; end = dangling }
last_piece row (Some d) = record { options = with_value row [] d ∷ []; end = clean }

abbrev pub all_raw : {K : Type 0} → List (List ℕ) → Cutting K
all_raw words = record { options = map raw words; end = clean }

-- what the words are cut into
abbrev pub cut : {K : Type 0} → (List ℕ → Option (Row K)) → Bool → List (List ℕ) → Cutting K
cut own dashes [] = record { options = []; end = clean }
cut own dashes (word ∷ []) = elim (piece_of own dashes word) [
  | whole c ↦ record { options = c ∷ []; end = clean }
  | needs_value row d last ↦ last_piece row last
  | ends_options ↦ all_raw (word ∷ [])
]
cut own dashes (word ∷ (next ∷ words)) = elim (piece_of own dashes word) [
  | whole c ↦ before c (cut own dashes (next ∷ words))
  | needs_value row d last ↦ before (with_value row next d) (cut own dashes words)
  | ends_options ↦ all_raw (word ∷ (next ∷ words))
]
