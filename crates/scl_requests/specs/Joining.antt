-- What runs of the preprocessor for several architectures wrote, and what is answered of them.
use Rattle.std.specs.Prelude.{ℕ, ℤ, pos, ◌+◌, ◌^◌, ◌==◌, ◌||◌, Bool, List, [], ◌∷◌, length, codes, nat_lt, is_some, Option, None, Some, Result, Ok, Err, if◌then◌else◌, option_and_then}
use Rattle.std.specs.Fmt.{signed_decimal}
use Rattle.std.specs.List.{filter_map}
use Rattle.std.specs.Str.{bytes_eq}
use Rattle.scl_files.specs.Characters.{space, tab}
use Rattle.scl_describe.specs.Descriptions.{version_entry}
use Rattle.scl_describe.specs.Settings.{number_of}
use Rattle.scl_description.specs.Fields.{field_of, two_fields}
use Rattle.scl_description.specs.Lines.{cut_at}
use Rattle.scl_description.specs.Rows.{Entry, entries_text, lone, row_entry}
use Rattle.scl_gnu.specs.Runs.{ArchOutput, Output, join_passes}

abbrev pub status_by : ℕ → Option ℤ
status_by n = if nat_lt n (2 ^ 31) then Some (pos n) else None

-- the exit status, below 2^31, that decimal digits write
abbrev pub status_of : List ℕ → Option ℤ
status_of digits = option_and_then status_by (number_of digits)

-- the run of an architecture with a status, an output and an error output
abbrev pub run_by : List ℕ → ℤ → (List ℕ × List ℕ) → ArchOutput
run_by arch status texts = record { arch = arch; output = record { status = status; stdout = texts.0; stderr = texts.1 } }

abbrev pub run_with : List ℕ → Option (List ℕ × List ℕ) → Option ArchOutput
run_with arch None = None
run_with arch (Some parts) = option_and_then (λ status. option_and_then (λ texts. Some (run_by arch status texts)) (two_fields parts.1)) (status_of parts.0)

-- the run by the field of its architecture and the text after that
abbrev pub run_cut : List ℕ → List ℕ → Option ArchOutput
run_cut arch text = option_and_then (λ name. run_with name (cut_at tab text)) (field_of arch)

-- the run that four fields tell, with tabs between them: the architecture, the status, the output and the error output
abbrev pub run_in : List ℕ → Option ArchOutput
run_in text = option_and_then (λ parts. run_cut parts.0 parts.1) (cut_at tab text)

abbrev pub run_after : (List ℕ × List ℕ) → Option ArchOutput
run_after parts = if bytes_eq parts.0 (codes "ran") then run_in parts.1 else None

-- the run that a line tells
abbrev pub run_of : List ℕ → Option ArchOutput
run_of line = option_and_then run_after (cut_at space line)

-- whether a line tells a run, or is empty
abbrev pub is_told : List ℕ → Bool
is_told line = is_some (run_of line) || length line == 0

-- the number of the first line that tells no run and is not empty; the first of these lines has number n
abbrev pub first_untold : ℕ → List (List ℕ) → Option ℕ
first_untold n [] = None
first_untold n (line ∷ lines) = if is_told line then first_untold (n + 1) lines else Some n

-- the rows of what the joined runs gave
abbrev pub join_entries : Output → List Entry
join_entries made = row_entry (codes "status") (lone (signed_decimal made.status)) ∷ row_entry (codes "text") (lone made.stdout) ∷ row_entry (codes "messages") (lone made.stderr) ∷ version_entry ∷ []

abbrev pub joined_unless : Option ℕ → List (List ℕ) → Result (List ℕ) ℕ
joined_unless (Some n) lines = Err n
joined_unless None lines = Ok (entries_text (join_entries (join_passes (filter_map run_of lines))))

-- what is answered to the lines of runs, of which the first has the number 2
abbrev pub joined : List (List ℕ) → Result (List ℕ) ℕ
joined lines = joined_unless (first_untold 2 lines) lines
