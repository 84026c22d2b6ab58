-- The answers that lines of a request tell: `answer`, the name of a question, and fields.
use Rattle.std.specs.Prelude.{ℕ, ◌^◌, List, [], ◌∷◌, drop, codes, Option, None, Some, nat_eq, nat_lt, if◌then◌else◌, option_and_then}
use Rattle.std.specs.List.{starts_with}
use Rattle.std.specs.Option.{option_map}
use Rattle.std.specs.Str.{bytes_eq}
use Rattle.scl_files.specs.Characters.{space}
use Rattle.scl_description.specs.Lines.{cut_at}
use Rattle.scl_description.specs.Rows.{row_of}
use Rattle.scl_describe.specs.Settings.{number_of}
use Rattle.scl_lookup.specs.Questions.{Standing, regular, folder, special, missing, Program, Written}
use Rattle.scl_questions.specs.Answers.{Reply, value, tool, standing, content, listed, path, stamp, written}

-- the one field
abbrev pub lone_in : List (List ℕ) → Option (List ℕ)
lone_in (field ∷ []) = Some field
lone_in other = None

-- no field: there is nothing; one: this is there
abbrev pub perhaps_in : List (List ℕ) → Option (Option (List ℕ))
perhaps_in [] = Some None
perhaps_in (field ∷ []) = Some (Some field)
perhaps_in other = None

-- the sum of a program, and the names on the way of its links
abbrev pub program_in : List (List ℕ) → Option Program
program_in [] = None
program_in (sum ∷ links) = Some (record { sum = sum; links = links })

-- what stands at a path: `=` and a sum, `/`, `!` or `-`
abbrev pub standing_in : List ℕ → Option Standing
standing_in field =
    if starts_with nat_eq field (codes "=") then Some (regular (drop 1 field))
    else (if bytes_eq field (codes "/") then Some folder
    else (if bytes_eq field (codes "!") then Some special
    else (if bytes_eq field (codes "-") then Some missing else None)))

abbrev pub status_if : ℕ → Option ℕ
status_if status = if nat_lt status (2 ^ 32) then Some status else None

abbrev pub written_by : (output messages own : List ℕ) → ℕ → Written
written_by output messages own status = record { status = status; output = output; messages = messages; own = own }

-- a status, both outputs, and the bytes of the own file
abbrev pub written_in : List (List ℕ) → Option Written
written_in (status ∷ (output ∷ (messages ∷ (own ∷ [])))) = option_map (written_by output messages own) (option_and_then status_if (number_of status))
written_in other = None

-- an answer to a question of this name
abbrev pub reply_named : List ℕ → List (List ℕ) → Option Reply
reply_named name fields =
    if bytes_eq name (codes "env") then option_map value (perhaps_in fields)
    else (if bytes_eq name (codes "program") then Some (tool (program_in fields))
    else (if bytes_eq name (codes "file") then option_map standing (option_and_then standing_in (lone_in fields))
    else (if bytes_eq name (codes "bytes") then option_map content (perhaps_in fields)
    else (if bytes_eq name (codes "names") then Some (listed fields)
    else (if bytes_eq name (codes "real") then option_map path (lone_in fields)
    else (if bytes_eq name (codes "times") then option_map stamp (lone_in fields)
    else (if bytes_eq name (codes "run") then option_map written (written_in fields) else None)))))))

abbrev pub reply_of_fields : List (List ℕ) → Option Reply
reply_of_fields [] = None
reply_of_fields (name ∷ fields) = reply_named name fields

abbrev pub reply_behind : Option (List ℕ × List ℕ) → Option Reply
reply_behind None = None
reply_behind (Some parts) = if bytes_eq parts.0 (codes "answer") then option_and_then reply_of_fields (row_of parts.1) else None

-- the answer that a line tells, if it tells one
abbrev pub reply_in : List ℕ → Option Reply
reply_in line = reply_behind (cut_at space line)
