-- The dependency file that clang-cl does not write, from what it wrote on its error output.
use Rattle.std.specs.Prelude.{◌≡◌, ℕ, Bool, true, false, List, [], ◌∷◌, codes, string_bytes, Option, None, Some, Result, Ok, Err, if◌then◌else◌, option_and_then}
use Rattle.std.specs.Str.{bytes_eq}
use Rattle.scl_files.specs.Characters.{space, tab}
use Rattle.scl_files.specs.Decoding.{utf8_text}
use Rattle.scl_cl.specs.Requests.{request_from}
use Rattle.scl_describe.specs.Descriptions.{too_many_entries, version_entry}
use Rattle.scl_description.specs.Fields.{field_of}
use Rattle.scl_description.specs.Lines.{cut_at}
use Rattle.scl_description.specs.Rows.{Entry, entries_text, lone, lone_entry, row_entry}
use Rattle.scl_msvc.specs.Depfile.{IsDepfileAnswer, depfile_object}
use Rattle.scl_msvc.specs.declared.msvc.depfile.DepfileError.{DepfileError}
use Rattle.scl_msvc.specs.declared.msvc.depfile.DepfileError.TheVariants as errors
use Rattle.scl_msvc.specs.declared.msvc.depfile.DepfileText.{DepfileText}
use Rattle.scl_reader.specs.CommandLines.{Request}
use Rattle.scl_reader.specs.Reads.{outcome_in, read_of}
use Rattle.scl_files.specs.Within.{standard}
use Rattle.scl_reader.specs.Within.{has_at_most}
use Rattle.scl_reader.specs.declared.compiler.Compiler.{Compiler}
use Rattle.scl_reader.specs.declared.compiler.Compiler.TheVariants as compilers
use Rattle.scl_text.specs.Records.{Parsed, Verdict}
use Rattle.scl_requests.specs.declared.depfile.Shown.{Shown as Made}

-- ---- the line of the error output

-- the prefix of the lines that name files, and the error output
pub record Shown : Type 0 where
  pub prefix : List ℕ
  pub messages : List ℕ

abbrev pub shown_by : Made → Shown
shown_by made = record { prefix = string_bytes made.prefix; messages = made.messages.items }

-- what two fields tell, of which the first is text in UTF-8
abbrev pub shown_cut : List ℕ → List ℕ → Option Shown
shown_cut prefix messages = option_and_then (λ text. option_and_then (λ bytes. Some (record { prefix = text; messages = bytes })) (field_of messages)) (option_and_then utf8_text (field_of prefix))

abbrev pub shown_after : (List ℕ × List ℕ) → Option Shown
shown_after parts = if bytes_eq parts.0 (codes "shown") then option_and_then (λ fields. shown_cut fields.0 fields.1) (cut_at tab parts.1) else None

-- what a line tells of an error output
abbrev pub shown_in : List ℕ → Option Shown
shown_in line = option_and_then shown_after (cut_at space line)

-- ---- the rows

abbrev pub made_entries : DepfileText → List Entry
made_entries made = row_entry (codes "text") (lone made.text.items) ∷ row_entry (codes "kept") (lone made.kept.items) ∷ version_entry ∷ []

-- where no dependency file is to be made
abbrev pub nothing_entries : List Entry
nothing_entries = version_entry ∷ []

-- where the error output is not UTF-8
abbrev pub unread_entries : List Entry
unread_entries = lone_entry (codes "not-utf-8") ∷ version_entry ∷ []

-- the rows of what the library gives; none are told where memory was refused
abbrev pub told_of : Result (Option DepfileText) DepfileError → Option (List Entry)
told_of (Ok (Some made)) = Some (made_entries made)
told_of (Ok None) = Some nothing_entries
told_of (Err errors.NotUtf8) = Some unread_entries
told_of (Err errors.Memory) = None

-- ---- what may be answered

-- by a record: what the library may give for it
pub record IsDepfileSaid (is_clang : Bool) (parsed : Parsed) (shown : Shown) (text : List ℕ) : Type 0 where
  pub given : Result (Option DepfileText) DepfileError
  pub entries : List Entry
  pub is_given : IsDepfileAnswer parsed shown.prefix shown.messages (depfile_object is_clang parsed) given
  pub are_told : told_of given ≡ Some entries
  pub is_text : text ≡ entries_text entries

abbrev pub is_clang_cl : Compiler → Bool
is_clang_cl compilers.ClangCl = true
is_clang_cl compilers.Gcc = false
is_clang_cl compilers.Gxx = false
is_clang_cl compilers.Clang = false
is_clang_cl compilers.Clangxx = false
is_clang_cl compilers.Cl = false
is_clang_cl compilers.Diab = false
is_clang_cl compilers.Tasking = false

-- by what a compiler read: no dependency file without a record
abbrev pub IsReadingSaid : Compiler → Result Parsed Verdict → Shown → List ℕ → Type 0
IsReadingSaid compiler (Ok parsed) shown text = IsDepfileSaid (is_clang_cl compiler) parsed shown text
IsReadingSaid compiler (Err verdict) shown text = text ≡ entries_text nothing_entries

abbrev pub IsSaidWithin : Bool → Request → Shown → List ℕ → Type 0
IsSaidWithin true request shown text = IsReadingSaid request.compiler (outcome_in (read_of request)) shown text
IsSaidWithin false request shown text = text ≡ entries_text too_many_entries

-- to a request whose words are as many as a description takes where no line says otherwise
abbrev pub IsRequestSaid : Request → Shown → List ℕ → Type 0
IsRequestSaid request shown text = IsSaidWithin (has_at_most standard request) request shown text

abbrev pub IsSaidBy : Option Shown → Result Request ℕ → Result (List ℕ) ℕ → Type 0
IsSaidBy None request said = Err 2 ≡ said
IsSaidBy (Some shown) (Ok request) (Ok text) = IsRequestSaid request shown text
IsSaidBy (Some shown) (Ok request) (Err number) = ⊥
IsSaidBy (Some shown) (Err number) said = Err number ≡ said

-- to the lines after the first: one of the error output, and those of a request
abbrev pub IsSaid : List (List ℕ) → Result (List ℕ) ℕ → Type 0
IsSaid [] said = Err 2 ≡ said
IsSaid (line ∷ lines) said = IsSaidBy (shown_in line) (request_from 3 [] lines) said
