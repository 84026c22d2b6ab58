-- A preprocessed text told by base directories: what a request says, and what is answered.
use Rattle.std.specs.Prelude.{ℕ, ◌+◌, ◌==◌, Bool, true, false, List, [], ◌∷◌, ◌++◌, length, map, codes, Option, None, Some, Result, Err, if◌then◌else◌}
use Rattle.std.specs.List.{concat, filter_map, flat_map}
use Rattle.std.specs.Option.{ok_or, option_map, option_to_list}
use Rattle.std.specs.Str.{bytes_eq}
use Rattle.scl_files.specs.Characters.{space}
use Rattle.scl_base_dirs.specs.Bases.{quoted, trimmed}
use Rattle.scl_base_dirs.specs.Runs.{mapped_text}
use Rattle.scl_base_dirs.specs.declared.spelling.Quoting.{Quoting}
use Rattle.scl_base_dirs.specs.declared.spelling.Quoting.TheVariants as quoting
use Rattle.scl_describe.specs.Descriptions.{version_entry}
use Rattle.scl_describe.specs.Settings.{base_in}
use Rattle.scl_description.specs.Fields.{field_of}
use Rattle.scl_description.specs.Lines.{cut_at}
use Rattle.scl_description.specs.Rows.{Entry, entries_text, lone, row_entry}

-- ---- a line

-- what a line says: nothing, a base directory, how names are quoted in line markers, the next piece of the text
pub data Saying : Type 0 where
  Blank : Saying
  Base : (dir : List ℕ) → Saying
  Quotes : (quoting : Quoting) → Saying
  Text : (piece : List ℕ) → Saying

-- how the compilers of this name quote names
abbrev pub quoting_named : List ℕ → Option Quoting
quoting_named name =
    if bytes_eq name (codes "gcc") then Some quoting.Gcc
    else (if bytes_eq name (codes "clang") then Some quoting.Clang else None)

-- what a line says, by its keyword and the text after the keyword's space
abbrev pub said_with : List ℕ → List ℕ → Option Saying
said_with keyword text =
    if bytes_eq keyword (codes "text") then option_map Text (field_of text)
    else (if bytes_eq keyword (codes "base") then option_map Base (base_in text)
    else (if bytes_eq keyword (codes "quoting") then option_map Quotes (quoting_named text) else None))

abbrev pub said_in : List ℕ → Option (List ℕ × List ℕ) → Option Saying
said_in line None = if length line == 0 then Some Blank else None
said_in line (Some parts) = said_with parts.0 parts.1

-- what a line says, if anything
abbrev pub said : List ℕ → Option Saying
said line = said_in line (cut_at space line)

-- ---- all lines

abbrev pub quoting_in : Saying → List Quoting
quoting_in Blank = []
quoting_in (Base dir) = []
quoting_in (Quotes quoting) = quoting ∷ []
quoting_in (Text piece) = []

abbrev pub dir_in : Saying → List (List ℕ)
dir_in Blank = []
dir_in (Base dir) = dir ∷ []
dir_in (Quotes quoting) = []
dir_in (Text piece) = []

abbrev pub piece_in : Saying → List (List ℕ)
piece_in Blank = []
piece_in (Base dir) = []
piece_in (Quotes quoting) = []
piece_in (Text piece) = piece ∷ []

-- what lines say, in order
pub record Gathered : Type 0 where
  pub quotings : List Quoting
  pub dirs : List (List ℕ)
  pub pieces : List (List ℕ)

abbrev pub gathered : List Saying → Gathered
gathered all = record { quotings = flat_map quoting_in all; dirs = flat_map dir_in all; pieces = flat_map piece_in all }

abbrev pub is_given : List Quoting → Bool
is_given [] = false
is_given (_ ∷ _) = true

-- whether a line breaks a rule, given that the lines before it say this: it says nothing that is known, or it says once more
-- how names are quoted
abbrev pub breaks : Gathered → Option Saying → Bool
breaks g None = true
breaks g (Some Blank) = false
breaks g (Some (Base dir)) = false
breaks g (Some (Quotes quoting)) = is_given g.quotings
breaks g (Some (Text piece)) = false

-- the number of the first line that breaks a rule; the first of these lines has number n and follows lines that say this
abbrev pub first_broken : ℕ → List Saying → List (List ℕ) → Option ℕ
first_broken n earlier [] = None
first_broken n earlier (line ∷ lines) = if breaks (gathered earlier) (said line) then Some n else first_broken (n + 1) (earlier ++ option_to_list (said line)) lines

-- ---- the answer

-- the pieces as one text, told by the directories as bases
abbrev pub text_of : Quoting → Gathered → List ℕ
text_of quoting g = mapped_text (map (quoted quoting) (map trimmed g.dirs)) (concat g.pieces)

abbrev pub map_entries : List ℕ → List Entry
map_entries text = row_entry (codes "text") (lone text) ∷ version_entry ∷ []

abbrev pub answer_for : List Quoting → Gathered → Option (List ℕ)
answer_for [] g = None
answer_for (quoting ∷ _) g = Some (entries_text (map_entries (text_of quoting g)))

-- the rows of the mapped text, if a line says how names are quoted
abbrev pub answer_of : Gathered → Option (List ℕ)
answer_of g = answer_for g.quotings g

abbrev pub mapped_unless : Option ℕ → List (List ℕ) → Result (List ℕ) ℕ
mapped_unless (Some n) lines = Err n
mapped_unless None lines = ok_or (answer_of (gathered (filter_map said lines))) (length lines + 2)

-- what is answered to the lines after the first: rows, or the number of the bad line, which is the first that breaks a rule, or,
-- if none says how names are quoted, the last line's number plus one
abbrev pub mapped : List (List ℕ) → Result (List ℕ) ℕ
mapped lines = mapped_unless (first_broken 2 [] lines) lines
