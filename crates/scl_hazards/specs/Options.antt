-- Options of a command line that was read, as a catalogue's conditions see them.
use Rattle.std.specs.Prelude.{◌≡◌, ℕ, nat_eq, ◌==◌, Bool, true, false, ◌&&◌, List, [], ◌∷◌, length, drop, map, Option, None, Some, is_none}
use Rattle.std.specs.Borrow.{Bor}
use Rattle.std.specs.BTreeSet.{BTreeSet, contains}
use Rattle.std.specs.Cmp.Lexicographic.{slice_cmp}
use Rattle.std.specs.List.{list_any, starts_with}
use Rattle.std.specs.Ordering.{nat_cmp, ordering_then}
use Rattle.std.specs.Str.{bytes_eq}
use Rattle.std.specs.declared.cmp.Ordering.{Ordering}
use Rattle.scl_catalogue.specs.Found.{OptionSeen}
use Rattle.scl_catalogue.specs.declared.seen.Marks.{Marks}
use Rattle.scl_catalogue.specs.declared.seen.Standing.{Standing}
use Rattle.scl_catalogue.specs.declared.seen.Standing.TheVariants as standing
use Rattle.scl_files.specs.Paths.{extension, file_name}
use Rattle.scl_values.specs.Seen.{Seen, Raw, Unknown, Known}
use Rattle.scl_values.specs.declared.argument.ArgDisposition.{ArgDisposition}
use Rattle.scl_values.specs.declared.argument.ArgDisposition.TheVariants as how

abbrev pub begins_with_dot : Option (List ℕ) → Bool
begins_with_dot None = false
begins_with_dot (Some []) = false
begins_with_dot (Some (byte ∷ bytes)) = byte == 46

-- a path, of whose file name the first byte is the only dot
abbrev pub is_hidden : List ℕ → Bool
is_hidden path = begins_with_dot (file_name path) && is_none (extension path)

-- ---- how a value stands

-- it stands apart, and could have been joined
abbrev pub could_be_joined : Option ArgDisposition → Bool
could_be_joined None = false
could_be_joined (Some how.Separated) = false
could_be_joined (Some (how.CanBeConcatenated d)) = true
could_be_joined (Some (how.CanBeSeparated d)) = false
could_be_joined (Some (how.Concatenated d)) = false

-- it is joined, and could have stood apart
abbrev pub could_stand_apart : Option ArgDisposition → Bool
could_stand_apart None = false
could_stand_apart (Some how.Separated) = false
could_stand_apart (Some (how.CanBeConcatenated d)) = false
could_stand_apart (Some (how.CanBeSeparated d)) = true
could_stand_apart (Some (how.Concatenated d)) = false

-- the option stands in one word, and is printed as it stands
abbrev pub in_one_word : Option ArgDisposition → Bool
in_one_word None = true
in_one_word (Some how.Separated) = false
in_one_word (Some (how.CanBeConcatenated d)) = false
in_one_word (Some (how.CanBeSeparated d)) = false
in_one_word (Some (how.Concatenated d)) = true

-- ---- delimiters

-- the word is the flag and the delimiter
abbrev pub is_delimited : List ℕ → ℕ → List ℕ → Bool
is_delimited flag delimiter word = starts_with nat_eq word flag && bytes_eq (drop (length flag) word) (delimiter ∷ [])

abbrev pub stands_delimited : List (List ℕ) → List ℕ → Option ℕ → Bool
stands_delimited words flag None = false
stands_delimited words flag (Some delimiter) = list_any (is_delimited flag delimiter) words

abbrev pub delimiter_of : ArgDisposition → Option ℕ
delimiter_of how.Separated = None
delimiter_of (how.CanBeConcatenated d) = d
delimiter_of (how.CanBeSeparated d) = d
delimiter_of (how.Concatenated d) = d

-- the order of words' ends: by the last byte, then by the bytes before it
abbrev pub end_cmp : ℕ × Bor (List ℕ) → ℕ × Bor (List ℕ) → Ordering
end_cmp a b = ordering_then (nat_cmp a.0 b.0) (slice_cmp nat_cmp a.1.now b.1.now)

-- the set has the last byte of each word, with the bytes before it
abbrev pub HasEnds : BTreeSet (ℕ × Bor (List ℕ)) → List (List ℕ) → Type 0
HasEnds ends words = (end : ℕ × Bor (List ℕ)) → contains end_cmp ends end ≡ list_any (is_delimited end.1.now end.0) words

-- the value is empty, and one of the words has the delimiter
abbrev pub lacks_delimiter : List (List ℕ) → List ℕ → List ℕ → Option ArgDisposition → Bool
lacks_delimiter words flag value None = false
lacks_delimiter words flag value (Some h) = bytes_eq value [] && stands_delimited words flag (delimiter_of h)

-- ---- options

-- an option without a row
abbrev pub bare : Standing → List ℕ → (stays : Bool) → OptionSeen
bare s word stays = record {
  standing = s;
  name = word;
  kind = [];
  value = [];
  marks = record { stays = stays; is_apart = false; is_joined = false; is_delimiter_dropped = false; has_hidden_value = false };
}

-- what is known of an option with a row, whose words are among these
unfoldable pub marks_of : List (List ℕ) → List ℕ → List ℕ → Option ArgDisposition → (is_common : Bool) → Marks
marks_of words flag value how is_common = record {
  stays = in_one_word how && is_common;
  is_apart = could_be_joined how;
  is_joined = could_stand_apart how;
  is_delimiter_dropped = lacks_delimiter words flag value how;
  has_hidden_value = is_hidden value;
}

-- an option, whose words are among these, by the names of kinds and the options that go to the list of common words
abbrev pub option_seen : {K : Type 0} → (K → List ℕ) → (Seen K → Bool) → List (List ℕ) → Seen K → OptionSeen
option_seen text common words (Raw w) = bare standing.Raw w (common (Raw w))
option_seen text common words (Unknown w) = bare standing.Unknown w (common (Unknown w))
option_seen text common words (Known f k v h) = record { standing = standing.Known; name = f; kind = text k; value = v; marks = marks_of words f v h (common (Known f k v h)) }

abbrev pub options_seen : {K : Type 0} → (K → List ℕ) → (Seen K → Bool) → List (List ℕ) → List (Seen K) → List OptionSeen
options_seen text common words options = map (option_seen text common words) options
