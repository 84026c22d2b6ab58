-- Rows as an object of JSON.
use Rattle.std.specs.Prelude.{ℕ, ◌==◌, ◌&&◌, ◌||◌, nat_le, nat_eq, cond, not, Bool, true, false, length, map, codes, List, [], ◌∷◌, ◌++◌}
use Rattle.std.specs.List.{list_all, list_any, starts_with}
use Rattle.std.specs.Str.{bytes_eq}
use Rattle.scl_text.specs.Records.{distinct_words}
use Rattle.scl_description.specs.Records.{first_field}
use Rattle.scl_description.specs.Rows.{Entry, entry, rests_at}
use Rattle.scl_json.specs.declared.members.Form.{Form}
use Rattle.scl_json.specs.declared.members.Form.TheVariants.{Named, Number, Truth, Yes, One, Each, Rows, Objects}
use Rattle.scl_json.specs.Members.{Line, line_of}
use Rattle.scl_json.specs.Texts.{text, texts, array, object, member}

-- what follows a row's name: one field as a text, none or several as an array
abbrev pub value_of : List (List ℕ) → List ℕ
value_of [] = texts []
value_of (word ∷ []) = text word
value_of (word ∷ (other ∷ words)) = texts (word ∷ other ∷ words)

abbrev pub is_digit : ℕ → Bool
is_digit b = nat_le 48 b && nat_le b 57

-- digits, with no zero before others
abbrev pub is_number : List ℕ → Bool
is_number word = not (length word == 0) && list_all is_digit word && (length word == 1 || not (starts_with nat_eq word (codes "0")))

-- a number as it is
abbrev pub number_of : List (List ℕ) → List ℕ
number_of [] = texts []
number_of (word ∷ []) = cond (is_number word) word (text word)
number_of (word ∷ (other ∷ words)) = texts (word ∷ other ∷ words)

abbrev pub truth : Bool → List ℕ
truth true = codes "true"
truth false = codes "false"

abbrev pub says_yes : List (List ℕ) → Bool
says_yes fields = bytes_eq (first_field fields) (codes "yes")

abbrev pub are_rows : List (List (List ℕ)) → Bool
are_rows [] = false
are_rows (rest ∷ rests) = true

-- what is said of the first row, if there is one
abbrev pub first_by : (List (List ℕ) → List ℕ) → List (List (List ℕ)) → List ℕ
first_by value [] = codes "null"
first_by value (rest ∷ rests) = value rest

-- the fields of a row by their names, and those after them as `words`
abbrev pub members_by : List (List ℕ) → List (List ℕ) → List (List ℕ)
members_by [] [] = []
members_by [] (word ∷ words) = member (codes "words") (texts (word ∷ words)) ∷ []
members_by (name ∷ names) [] = []
members_by (name ∷ names) (word ∷ words) = member name (text word) ∷ members_by names words

abbrev pub object_by : List (List ℕ) → List (List ℕ) → List ℕ
object_by names words = object (members_by names words)

-- an item of an array, by the form of its member and the names of fields
abbrev pub item_of : Form → List (List ℕ) → List (List ℕ) → List ℕ
item_of Each names = value_of
item_of Objects names = object_by names
item_of Named names = texts
item_of Number names = texts
item_of Truth names = texts
item_of Yes names = texts
item_of One names = texts
item_of Rows names = texts

-- the value of a member, by its form, the names of fields, the row's name, and what follows that in each of its rows
abbrev pub value_in : Form → List (List ℕ) → List ℕ → List (List (List ℕ)) → List ℕ
value_in Named names name rests = text name
value_in Number names name rests = first_by number_of rests
value_in Truth names name rests = first_by (λ rest. truth (says_yes rest)) rests
value_in Yes names name rests = truth (are_rows rests)
value_in One names name rests = first_by value_of rests
value_in Each names name rests = array (map value_of rests)
value_in Rows names name rests = array (map texts rests)
value_in Objects names name rests = array (map (object_by names) rests)

-- the member of the rows of a name
abbrev pub member_by : Line → Entry → List ℕ
member_by line e = member line.name (value_in line.form line.fields e.name e.rests)

abbrev pub member_of : Entry → List ℕ
member_of e = member_by (line_of e.name) e

-- an object with a member for each entry, in order
abbrev pub json_of : List Entry → List ℕ
json_of entries = object (map member_of entries)

-- ---- the entries of rows

-- names, and one more if it is not among them
abbrev pub with_name : List (List ℕ) → List ℕ → List (List ℕ)
with_name names name = cond (list_any (bytes_eq name) names) names (names ++ name ∷ [])

-- some names, and then those of rows in the order of their first rows; each once
abbrev pub names_in : List (List ℕ) → List (List (List ℕ)) → List (List ℕ)
names_in firsts rows = distinct_words (firsts ++ map first_field rows)

-- the rows of a name
abbrev pub entry_at : List (List (List ℕ)) → List ℕ → Entry
entry_at rows name = entry name (rests_at rows name)

-- the rows of each name
abbrev pub entries_in : List (List ℕ) → List (List (List ℕ)) → List Entry
entries_in firsts rows = map (entry_at rows) (names_in firsts rows)
