-- The object of JSON that is written of an answer.
use Rattle.std.specs.Prelude.{◌≡◌, ◌==◌, ℕ, Bool, false, List, [], ◌∷◌, ◌++◌, codes, length, map, Option, None, Some, is_some, if◌then◌else◌}
use Rattle.std.specs.Fmt.{decimal}
use Rattle.scl_values.specs.Words.{words_of}
use Rattle.scl_text.specs.declared.records.CompilerArguments.{CompilerArguments}
use Rattle.scl_text.specs.declared.records.CompilerArguments.TheVariants as outcomes
use Rattle.scl_hazards.specs.Hazards.{Hazard, danger_name}
use Rattle.scl_reader.specs.Compilers.{name_of}
use Rattle.scl_reader.specs.declared.compilation.Compilation.{Compilation}
use Rattle.scl_rows.specs.Rows.{told}
use Rattle.scl_description.specs.Rows.{Entry, entry, lone, maybe_entry, row_entry, rows_of, words_entry}
use Rattle.scl_describe.specs.Descriptions.{version_entry}
use Rattle.scl_describe.specs.DescriptionsGiven.{rows_given}
use Rattle.scl_explain.specs.Nuls.{some_hold_nul}
use Rattle.scl_explain.specs.declared.answered.Answered.{Answered}
use Rattle.scl_explain.specs.declared.case.Case.{Case}
use Rattle.scl_explain.specs.declared.reply.Form.{Form}
use Rattle.scl_explain.specs.declared.reply.Form.TheVariants as form
use Rattle.scl_json.specs.Objects.{entries_in, json_of}
use Rattle.scl_report.specs.Firsts.{firsts_by}
use Rattle.scl_report.specs.Nothing.{why_nothing}

-- ---- the rows of the program

abbrev pub danger_fields : Hazard → List (List ℕ)
danger_fields hazard = hazard.name ∷ danger_name hazard.danger ∷ hazard.consequence ∷ []

-- a row for each hazard
abbrev pub dangers_entry : List Hazard → Entry
dangers_entry hazards = entry (codes "danger") (map danger_fields hazards)

-- what was asked
abbrev pub asked_entries : Case → List Entry
asked_entries case =
    row_entry (codes "compiler") (lone (name_of case.compiler))
    ∷ row_entry (codes "program") (lone case.program.items)
    ∷ row_entry (codes "directory") (lone case.cwd.items)
    ∷ []

-- the files that were read, and the hazards
abbrev pub read_entries : Answered → List Entry
read_entries answered =
    words_entry (codes "response-file") (words_of answered.response_files.items)
    ∷ words_entry (codes "missing-file") (words_of answered.missing_files.items)
    ∷ dangers_entry answered.description.told.hazards.items
    ∷ []

-- a sentence for people: why no process can be given the command, or why nothing is compiled
abbrev pub sentence_entries : (unrunnable : Option (List ℕ)) → (nothing : List ℕ) → CompilerArguments Compilation → List Entry
sentence_entries unrunnable nothing (outcomes.Ok compilation) = maybe_entry (codes "unrunnable") unrunnable ∷ []
sentence_entries unrunnable nothing (outcomes.CannotCache reason text) = []
sentence_entries unrunnable nothing outcomes.NotCompilation = row_entry (codes "nothing") (lone nothing) ∷ []

abbrev pub own_entries : (unrunnable : Option (List ℕ)) → Case → Answered → List Entry
own_entries unrunnable case answered =
    asked_entries case ++ (read_entries answered ++ sentence_entries unrunnable (why_nothing (map told answered.description.options.items)) answered.description.answer)

-- the number of an entry of a database, and the file that it names, if it names one
abbrev pub named_entries : (number : ℕ) → (file : List ℕ) → List Entry
named_entries number file = row_entry (codes "entry") (lone (decimal number)) ∷ maybe_entry (codes "file") (if length file == 0 then None else Some file) ∷ []

-- why an entry of a database has no answer
abbrev pub refused_entries : (number : ℕ) → (file why : List ℕ) → List Entry
refused_entries number file why = version_entry ∷ named_entries number file ++ row_entry (codes "error") (lone why) ∷ []

-- ---- the object

-- no process can be given the command of this program
abbrev pub is_unrunnable : (program : List ℕ) → CompilerArguments Compilation → Bool
is_unrunnable program (outcomes.Ok compilation) = some_hold_nul (program ∷ words_of compilation.command.arguments.items)
is_unrunnable program (outcomes.CannotCache reason text) = false
is_unrunnable program outcomes.NotCompilation = false

-- the rows of a description, some in front of those of the program, and these
abbrev pub all_rows : (unrunnable : Option (List ℕ)) → (front : List (List (List ℕ))) → Case → Answered → List (List (List ℕ))
all_rows unrunnable front case answered = rows_given answered.description ++ (front ++ rows_of (own_entries unrunnable case answered))

-- the object of all rows; a sentence says why no process can be given the command, if none can
pub record IsObject (front : List (List (List ℕ))) (case : Case) (answered : Answered) (json : List ℕ) : Type 0 where
  pub unrunnable : Option (List ℕ)
  pub says_why : is_some unrunnable ≡ is_unrunnable case.program.items answered.description.answer
  pub written : json ≡ json_of (entries_in (firsts_by answered.description.answer) (all_rows unrunnable front case answered))

-- such an object, and LF
pub record IsLine (Holds : List ℕ → Type 0) (line : List ℕ) : Type 0 where
  pub json : List ℕ
  pub holds : Holds json
  pub written : line ≡ json ++ 10 ∷ []

-- what machines read of an answer: the line of its object; what is written for a person is no matter here
abbrev pub IsWritten : Form → Case → Answered → List ℕ → Type 0
IsWritten form.Json case answered written = IsLine (IsObject [] case answered) written
IsWritten (form.Text paint) case answered written = Unit {0}
