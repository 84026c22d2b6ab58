-- Where the value of a word's flag is, as the program has it.
use Rattle.std.specs.Prelude.{ℕ, Bool, true, ◌&&◌, ◌≤◌, List, length, drop, None, Some}
use Rattle.scl_cutting.specs.declared.piece.ValuePlace.{ValuePlace}
use Rattle.scl_cutting.specs.declared.piece.ValuePlace.TheVariants as place
use Rattle.scl_values.specs.Row.{Row, shape_of}
use Rattle.scl_values.specs.Tables.{has_ascii_delimiter}
use Rattle.scl_values.specs.Cuts.{flag, with_value, Piece, whole, needs_value}

-- what a word that the row fits is cut into, by the place of its value
abbrev pub piece_of_place : {K : Type 0} → Row K → List ℕ → ValuePlace → Piece K
piece_of_place row word place.Nowhere = whole (flag row)
piece_of_place row word (place.Joined start d) = whole (with_value row (drop start word) d)
piece_of_place row word (place.NextWord d last) = needs_value row d last

-- whether the option's delimiter is ASCII, in either disposition
abbrev pub has_ascii_delimiters : ValuePlace → Bool
has_ascii_delimiters place.Nowhere = true
has_ascii_delimiters (place.Joined start d) = has_ascii_delimiter (shape_of d)
has_ascii_delimiters (place.NextWord d None) = has_ascii_delimiter (shape_of d)
has_ascii_delimiters (place.NextWord d (Some last)) = has_ascii_delimiter (shape_of d) && has_ascii_delimiter (shape_of last)

-- the index where a value begins is in the word
abbrev pub IsPlaceIn : List ℕ → ValuePlace → Type 0
IsPlaceIn word place.Nowhere = Unit {0}
IsPlaceIn word (place.Joined start d) = start ≤ length word
IsPlaceIn word (place.NextWord d last) = Unit {0}
