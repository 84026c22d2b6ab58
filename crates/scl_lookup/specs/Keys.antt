-- A key over questions, its lookup, and the text that is hashed of it.
use Rattle.std.specs.Prelude.{◌≡◌, ℕ, nat_eq, cond, List, [], ◌∷◌, ◌++◌, map, codes, Option, None, Some}
use Rattle.std.specs.List.{flat_map}
use Rattle.std.specs.Option.{option_and_then, option_map, option_zip}
use Rattle.scl_values.specs.Each.{Each}
use Rattle.scl_lookup.specs.Framing.{framed, AreShort}
use Rattle.scl_lookup.specs.Lookups.{Lookup, found, value_on, IsWithin, asked, found_if, and_then, all_of}
use Rattle.scl_lookup.specs.Questions.{Standing, regular, folder, special, missing, Program, Written, env, program, file, run, Machine}

-- a part of a key
pub data Part : Type 0 where
  -- a fact of the command line
  is : (fields : List (List ℕ)) → Part
  -- the value of a variable
  variable : (name : List ℕ) → Part
  -- a program that is run
  tool : (name : List ℕ) → Part
  -- the bytes of a file
  read : (path : List ℕ) → Part
  -- what a run writes; its words are not hashed
  shown : (words : List (List ℕ)) → Part
  -- names and bytes of the files that the runs name
  sources : Part

-- ---- rows

-- a field of what is hashed: a text, or a sum of bytes
pub data Field : Type 0 where
  said : (text : List ℕ) → Field
  summed : (sum : List ℕ) → Field

-- what a part says, and its answer
abbrev pub Row : Type 0
Row = List Field

abbrev pub value_field : Option (List ℕ) → Field
value_field None = said (codes "-")
value_field (Some value) = said (codes "=" ++ value)

-- nothing that is no file and no folder is read
abbrev pub standing_field : Standing → Option Field
standing_field (regular sum) = Some (summed sum)
standing_field folder = Some (said (codes "/"))
standing_field special = None
standing_field missing = Some (said (codes "-"))

abbrev pub variable_row : List ℕ → Option (List ℕ) → Row
variable_row name value = said (codes "env") ∷ said name ∷ value_field value ∷ []

abbrev pub tool_row : List ℕ → Program → Row
tool_row name it = said (codes "program") ∷ said name ∷ summed it.sum ∷ map said it.links

abbrev pub file_row : List ℕ → Field → Row
file_row path field = said (codes "file") ∷ said path ∷ field ∷ []

abbrev pub run_row : Written → Row
run_row written = said (codes "run") ∷ said written.output ∷ said written.messages ∷ said written.own ∷ []

-- what a run wrote, if it did not fail
abbrev pub unfailed : Written → Option Written
unfailed written = cond (nat_eq written.status 0) (Some written) None

abbrev pub sources_row : List Row → Row
sources_row files = said (codes "sources") ∷ flat_map (λ row. row) files

-- ---- what a key says on a machine

-- the runs of a key
abbrev pub runs_of : Part → List (List (List ℕ))
runs_of (is fields) = []
runs_of (variable name) = []
runs_of (tool name) = []
runs_of (read path) = []
runs_of (shown words) = words ∷ []
runs_of sources = []

abbrev pub runs_among : List Part → List (List (List ℕ))
runs_among parts = flat_map runs_of parts

-- all values, if each is there
abbrev pub all_there : {A : Type 0} → List (Option A) → Option (List A)
all_there [] = Some []
all_there (first ∷ rest) = option_map (λ values. values.0 ∷ values.1) (option_zip first (all_there rest))

abbrev pub ran_on : Machine → List (List ℕ) → Option Written
ran_on m words = unfailed (m (run [] words))

abbrev pub file_on : Machine → List ℕ → Option Row
file_on m path = option_map (file_row path) (standing_field (m (file path)))

-- how names of sources are read from a text
abbrev pub Reader : Type 0
Reader = List ℕ → List (List ℕ)

abbrev pub names_shown : Reader → List Written → List (List ℕ)
names_shown reader runs = flat_map (λ written. reader written.output) runs

abbrev pub sources_on : Reader → Machine → List Written → Option Row
sources_on reader m runs = option_map sources_row (all_there (map (file_on m) (names_shown reader runs)))

abbrev pub row_on : Reader → Machine → List (List (List ℕ)) → Part → Option Row
row_on reader m runs (is fields) = Some (said (codes "is") ∷ map said fields)
row_on reader m runs (variable name) = Some (variable_row name (m (env name)))
row_on reader m runs (tool name) = option_map (tool_row name) (m (program name))
row_on reader m runs (read path) = file_on m path
row_on reader m runs (shown words) = option_map run_row (ran_on m words)
row_on reader m runs sources = option_and_then (sources_on reader m) (all_there (map (ran_on m) runs))

-- the rows of a key, if there is one
abbrev pub rows_on : Reader → Machine → List Part → Option (List Row)
rows_on reader m parts = all_there (map (row_on reader m (runs_among parts)) parts)

-- ---- the lookup

abbrev pub lookup_run : List (List ℕ) → Lookup Written
lookup_run words = and_then (asked (run [] words)) (λ written. found_if (unfailed written))

abbrev pub lookup_file : List ℕ → Lookup Row
lookup_file path = and_then (asked (file path)) (λ standing. found_if (option_map (file_row path) (standing_field standing)))

abbrev pub lookup_sources : Reader → List Written → Lookup Row
lookup_sources reader runs = and_then (all_of (map lookup_file (names_shown reader runs))) (λ files. found (sources_row files))

abbrev pub lookup_part : Reader → List (List (List ℕ)) → Part → Lookup Row
lookup_part reader runs (is fields) = found (said (codes "is") ∷ map said fields)
lookup_part reader runs (variable name) = and_then (asked (env name)) (λ value. found (variable_row name value))
lookup_part reader runs (tool name) = and_then (asked (program name)) (λ it. found_if (option_map (tool_row name) it))
lookup_part reader runs (read path) = lookup_file path
lookup_part reader runs (shown words) = and_then (lookup_run words) (λ written. found (run_row written))
lookup_part reader runs sources = and_then (all_of (map lookup_run runs)) (lookup_sources reader)

abbrev pub lookup_of : Reader → List Part → Lookup (List Row)
lookup_of reader parts = all_of (map (lookup_part reader (runs_among parts)) parts)

-- A lookup of a key gives its rows, and asks twice at most.
abbrev pub LookupsGiveKeys : Type 0
LookupsGiveKeys = (reader : Reader) (m : Machine) (parts : List Part) → value_on m (lookup_of reader parts) ≡ rows_on reader m parts

abbrev pub TwoRoundsSuffice : Type 0
TwoRoundsSuffice = (reader : Reader) (parts : List Part) → IsWithin 2 (lookup_of reader parts)

-- ---- the text that is hashed

abbrev pub field_text : Field → List ℕ
field_text (said text) = codes ":" ++ text
field_text (summed sum) = codes "=" ++ sum

abbrev pub row_text : Row → List ℕ
row_text row = framed (map field_text row)

abbrev pub text_of : List Row → List ℕ
text_of rows = framed (map row_text rows)

-- all lengths can be counted
pub record CanBeHashed (rows : List Row) : Type 0 where
  pub fields_can : Each (λ row. AreShort (map field_text row)) rows
  pub rows_can : AreShort (map row_text rows)

-- One text: each part says the same, and has the same answer.
abbrev pub TextsDecideAnswers : Type 0
TextsDecideAnswers = (a b : List Row) → CanBeHashed a → CanBeHashed b → text_of a ≡ text_of b → a ≡ b
