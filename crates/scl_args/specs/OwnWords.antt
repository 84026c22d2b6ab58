-- The words that a builder adds, and what tables must satisfy so that they are read as intended. All of it can be computed.
use Rattle.std.specs.Prelude.{ℕ, Bool, true, false, ◌&&◌, ◌==◌, List, [], ◌∷◌, Option, None, Some}
use Rattle.std.specs.List.{list_any}
use Rattle.std.specs.Str.{bytes_eq}
use Rattle.scl_values.specs.Row.{Row, Shape, row, bare, apart, joined, either}
use Rattle.scl_values.specs.Tables.{owner_in}

-- ---- what a shape allows

abbrev pub is_bare : Shape → Bool
is_bare bare = true
is_bare apart = false
is_bare (joined d) = false
is_bare (either d) = false

abbrev pub may_stand_apart : Shape → Bool
may_stand_apart bare = false
may_stand_apart apart = true
may_stand_apart (joined d) = false
may_stand_apart (either d) = true

-- ---- rows that are the same

abbrev pub is_delimiter : Option ℕ → Option ℕ → Bool
is_delimiter None None = true
is_delimiter None (Some e) = false
is_delimiter (Some d) None = false
is_delimiter (Some d) (Some e) = d == e

abbrev pub is_shape : Shape → Shape → Bool
is_shape bare bare = true
is_shape apart apart = true
is_shape (joined d) (joined e) = is_delimiter d e
is_shape (either d) (either e) = is_delimiter d e
is_shape _ _ = false

-- ---- own words

-- a word that the builder adds, and the rows of which one must own it
pub record OwnWord (K : Type 0) : Type 0 where
  pub word : List ℕ
  pub rows : List (Row K)

-- one that takes the next word as its value, whether its row allows a joined value or not
abbrev pub apart_or_either : {K : Type 0} → List ℕ → K → OwnWord K
apart_or_either flag kind = record { word = flag; rows = row flag kind apart ∷ row flag kind (either None) ∷ [] }

module _ {K : Type 0} (is_kind : K → K → Bool) where
  -- whether both rows have the same flag, kind and shape
  abbrev pub is_row : Row K → Row K → Bool
  is_row a b = bytes_eq a.flag b.flag && (is_kind a.kind b.kind && is_shape a.shape b.shape)

  abbrev pub is_one_of : Option (Row K) → List (Row K) → Bool
  is_one_of None rows = false
  is_one_of (Some found) rows = list_any (is_row found) rows

  -- whether the word has an owner that is intended
  abbrev pub is_owned : List (List (Row K)) → OwnWord K → Bool
  is_owned tables own = is_one_of (owner_in tables own.word) own.rows
