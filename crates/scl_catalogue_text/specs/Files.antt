-- The file of an effect: names in braces stand for parts of a command line, and one of them for the value of an option.
use Rattle.std.specs.Prelude.{ℕ, ◌-◌, ◌==◌, slice_get, Bool, true, false, cond, not, ◌&&◌, ◌||◌, List, [], ◌∷◌, codes, Option, None, Result, Ok, Err}
use Rattle.std.specs.List.{list_any}
use Rattle.std.specs.Option.{option_map}
use Rattle.std.specs.Str.{bytes_eq}
use Rattle.scl_catalogue.specs.Form.{Question, Is, At, Given, Inner, Condition, Case, Tells, Hazard, Effect, Plain, Key, Run, Names, Brings}
use Rattle.scl_catalogue.specs.Found.{holds}
use Rattle.scl_catalogue_text.specs.Cutting.{first_word, from_mark, is_word, other_words, parts, until_mark}
use Rattle.scl_catalogue_text.specs.Outcome.{after}
use Rattle.scl_catalogue_text.specs.declared.mistake.BadLine.{BadLine}
use Rattle.scl_catalogue_text.specs.declared.mistake.Mistake.{Mistake}
use Rattle.scl_catalogue_text.specs.declared.mistake.Mistake.TheVariants as mistake
use Rattle.scl_catalogue_text.specs.contracts.mistake.MistakePartialEq.TheImpl as mistakes

-- what stands for a part of a command line
unfoldable pub is_part : List ℕ → Bool
is_part name = bytes_eq name (codes "value")
    || bytes_eq name (codes "object")
    || bytes_eq name (codes "object-stem")
    || bytes_eq name (codes "input-stem")
    || bytes_eq name (codes "dump")

abbrev pub is_closed : List ℕ → Bool
is_closed bs = is_word (from_mark 125 bs)

-- a name, and what stands from its closing brace on
abbrev pub name_by : List ℕ → List ℕ → Result (Unit {0}) Mistake
name_by name [] = Err mistake.WrongBraces
name_by name (brace ∷ text) = cond (is_closed text) (Err mistake.WrongBraces) (cond (is_part name) (Ok tt) (Err mistake.UnknownName))

-- what follows an opening brace
unfoldable pub name_read : List ℕ → Result (Unit {0}) Mistake
name_read bs = name_by (until_mark 125 bs) (from_mark 125 bs)

abbrev pub names_read : List (List ℕ) → Result (Unit {0}) Mistake
names_read [] = Ok tt
names_read (bs ∷ rest) = after (name_read bs) (λ _. names_read rest)

unfoldable pub file_of_parts : List (List ℕ) → Result (Unit {0}) Mistake
file_of_parts [] = Ok tt
file_of_parts (front ∷ names) = cond (is_closed front) (Err mistake.WrongBraces) (names_read names)

-- a file in which each brace that opens is closed before the next, and what stands between them is the name of a part
unfoldable pub file_read : List ℕ → Result (Unit {0}) Mistake
file_read file = file_of_parts (parts 123 file)

-- ---- values

abbrev pub has_value : Tells → Bool
has_value (Hazard d) = false
has_value (Effect v file) = holds file (codes "{value}")
has_value Plain = false
has_value (Key d) = false
has_value (Run d) = false
has_value (Names n) = false
has_value (Brings b) = false

abbrev pub is_of_options : Question → Bool
is_of_options (Is f) = false
is_of_options (At p text) = false
is_of_options (Given r) = true
is_of_options (Inner r) = true

-- a condition asks for options that stand there
abbrev pub asks_for_options : Condition → Bool
asks_for_options c = not c.is_denied && is_of_options c.question

-- what is reported has the value of an option only where the case asks for options
abbrev pub has_its_options : Tells → Case → Bool
has_its_options tells c = not (has_value tells) || list_any asks_for_options c.conditions

-- ---- the word that is wrong

abbrev pub is_in_file : Mistake → Bool
is_in_file m = mistakes.ghosts.eq m mistake.WrongBraces || mistakes.ghosts.eq m mistake.UnknownName

-- the file in the line of an effect
unfoldable pub file_in : List ℕ → List ℕ
file_in line = first_word (other_words (other_words (other_words line)))

-- the line of a number, of which the first is 1
abbrev pub line_of : (number : ℕ) → (lines : List (List ℕ)) → Option (List ℕ)
line_of number lines = cond (number == 0) None (slice_get lines (number - 1))

-- the word of a text that is wrong, where the mistake is in a file
abbrev pub wrong_word : BadLine → List ℕ → Option (List ℕ)
wrong_word bad text = cond (is_in_file bad.mistake) (option_map file_in (line_of bad.line (parts 10 text))) None
