-- Rows of a flag table, and which words they fit.
use Rattle.std.specs.Prelude.{ℕ, Bool, true, false, ◌==◌, ◌&&◌, List, [], ◌∷◌, length, drop, nat_eq, Option, None, Some}
use Rattle.std.specs.List.{starts_with}
use denote.Ref.{Bor}
use Rattle.scl_values.specs.declared.argument.ArgDisposition.{ArgDisposition}
use Rattle.scl_values.specs.declared.argument.ArgDisposition.TheVariants as how
use Rattle.scl_values.specs.declared.argument.ArgRow.{ArgRow}
use Rattle.scl_values.specs.declared.argument.ArgRow.TheVariants as info

-- how a row takes its value: not at all, from the next word, from the rest of the word, or from either
pub data Shape : Type 0 where
  bare : Shape
  apart : Shape
  joined : Option ℕ → Shape
  either : Option ℕ → Shape

-- a row of a table
pub record Row (K : Type 0) : Type 0 where
  pub flag : List ℕ
  pub kind : K
  pub shape : Shape

abbrev pub row : {K : Type 0} → List ℕ → K → Shape → Row K
row flag kind shape = record { flag = flag; kind = kind; shape = shape }

abbrev pub shape_of : ArgDisposition → Shape
shape_of how.Separated = apart
shape_of (how.CanBeConcatenated d) = either d
shape_of (how.CanBeSeparated d) = either d
shape_of (how.Concatenated d) = joined d

-- a row of the program, as a row of the definitions
abbrev pub row_of : {K : Type 0} → ArgRow K → Row K
row_of (info.Flag flag kind) = record { flag = flag.now; kind = kind; shape = bare }
row_of (info.TakeArg flag kind d) = record { flag = flag.now; kind = kind; shape = shape_of d }

-- the row that a search found
abbrev pub row_at : {K : Type 0} → Option (Bor (ArgRow K)) → Option (Row K)
row_at None = None
row_at (Some row) = Some (row_of row.now)

-- whether a delimiter allows this byte as the first of the rest of a word
abbrev pub allows : Option ℕ → ℕ → Bool
allows None byte = true
allows (Some d) byte = d == byte

-- whether a row of this shape accepts the rest of a word after its flag
abbrev pub joins : Shape → List ℕ → Bool
joins s [] = true
joins bare (x ∷ xs) = false
joins apart (x ∷ xs) = false
joins (joined d) (x ∷ xs) = allows d x
joins (either d) (x ∷ xs) = allows d x

-- whether the row fits the word: the word is its flag, or begins with it and the row accepts the rest
abbrev pub fits : {K : Type 0} → Row K → List ℕ → Bool
fits row word = starts_with nat_eq word row.flag && joins row.shape (drop (length row.flag) word)
