-- The description of the answer to a request: the answer's lines, and after them rows of what was read.
use Rattle.std.specs.Prelude.{◌≡◌, ℕ, true, List, [], ◌∷◌, ◌++◌, map, codes, Option, Result, Ok, Err, unwrap_or, if◌then◌else◌}
use Rattle.scl_catalogue.specs.Form.{Catalogue}
use Rattle.scl_catalogue.specs.Lookup.{Lexicon}
use Rattle.scl_values.specs.Each.{Each}
use Rattle.scl_text.specs.declared.records.Cacheable.{Cacheable}
use Rattle.scl_text.specs.declared.records.Cacheable.TheVariants as cacheable
use Rattle.scl_text.specs.Records.{Parsed, Verdict}
use Rattle.scl_reasons.specs.Explanations.{text_for}
use Rattle.scl_reasons.specs.Table.{other, table}
use Rattle.scl_hazards.specs.Hazards.{Hazard}
use Rattle.scl_hazards.specs.Told.{Told}
use Rattle.scl_rows.specs.Rows.{Told as RowTold, refused_at}
use Rattle.scl_description.specs.Lines.{lines_of}
use Rattle.scl_description.specs.Rows.{Entry, entry, row_entry, words_entry, maybe_entry, lone_entry, lone, IsRow, rows_of, entries_text}
use Rattle.scl_description.specs.Records.{record_entries, record_in}
use Rattle.scl_reader.specs.declared.compiler.Compiler.{Compiler}
use Rattle.scl_reader.specs.CommandLines.{Request}
use Rattle.scl_cl.specs.Requests.{request_in}
use Rattle.scl_cl.specs.AnswerTexts.{text_of}
use Rattle.scl_reader.specs.Answers.{Answer, compiled, cannot_cache, not_compilation, answer_to, reading_by, runs_with, environment_by}
use Rattle.scl_describe.specs.DependencyFiles.{writes_by}
use Rattle.scl_describe.specs.EffectRows.{effect_entries}
use Rattle.scl_describe.specs.OptionLines.{index_entry, options_entry}
use Rattle.scl_describe.specs.OptionRows.{rows_by}
use Rattle.scl_describe.specs.Hazards.{known_by, lexicon_by, told_by}
use Rattle.scl_describe.specs.Keepings.{Kept, nothing, kept_entries, kept_for, last_entries, run_words_by}
use Rattle.scl_reader.specs.Questions.{Questions, questions_of}
use Rattle.scl_describe.specs.Settings.{Settings, settings_in, request_lines, wanted}
use Rattle.scl_describe.specs.Wants.{if_wanted, questions_if, told_if}
use Rattle.scl_reader.specs.Within.{has_at_most}

-- the version of these rows
abbrev pub version_entry : Entry
version_entry = row_entry (codes "version") (lone (codes "1"))

-- ---- where there is a command

abbrev pub pair_fields : (List ℕ × List ℕ) → List (List ℕ)
pair_fields pair = pair.0 ∷ pair.1 ∷ []

-- the words of each run of the preprocessor
abbrev pub runs_entry : List (List (List ℕ)) → Entry
runs_entry runs = entry (codes "run") runs

abbrev pub environment_entry : List (List ℕ × List ℕ) → Entry
environment_entry pairs = entry (codes "environment") (map pair_fields pairs)

-- the record, the runs of the preprocessor, the environment of the command, and what is said of keeping its outcome
abbrev pub compiled_entries : (runs : List (List (List ℕ))) → (environment : List (List ℕ × List ℕ)) → (kept : List Entry) → Parsed → List Entry
compiled_entries runs environment kept p = record_entries p ++ (runs_entry runs ∷ environment_entry environment ∷ kept)

-- ---- where there is none

-- the sentence for people of a reason
abbrev pub sentence_of : List ℕ → List ℕ
sentence_of reason = unwrap_or (text_for reason table) other

-- the reason, the text beside it if there is one, the index of the given word that is refused, if one is, and the reason's sentence
abbrev pub refused_entries : (reason : List ℕ) → (because : Option (List ℕ)) → (at : Option ℕ) → List Entry
refused_entries reason because at =
    row_entry (codes "reason") (lone reason) ∷ maybe_entry (codes "because") because ∷ index_entry (codes "at") at ∷ row_entry (codes "sentence") (lone (sentence_of reason)) ∷ []

-- the index of the given word by which nothing is compiled, if one says so
abbrev pub undone_entries : Option ℕ → List Entry
undone_entries at = index_entry (codes "at") at ∷ []

-- ---- what a real compiler may do differently

-- the names of hazards
abbrev pub hazards_entry : List Hazard → Entry
hazards_entry found = words_entry (codes "hazard") (map (λ hazard. hazard.name) found)

-- the dependency file that is written and the record does not name, if there is one
abbrev pub writes_entry : Option (List ℕ) → Entry
writes_entry path = maybe_entry (codes "writes") path

-- ---- the questions of the answer

abbrev pub kind_fields : List ℕ → List ℕ → List (List ℕ)
kind_fields kind path = kind ∷ path ∷ []

abbrev pub wants_entry : List ℕ → List (List ℕ) → Entry
wants_entry kind paths = entry (codes "wants") (map (kind_fields kind) paths)

abbrev pub question_entries : Questions → List Entry
question_entries q = wants_entry (codes "file") q.files ∷ wants_entry (codes "dir") q.directories ∷ wants_entry (codes "exists") q.existing ∷ []

-- ---- all of it

-- what is reported of the options, by the catalogue, and of the view, as far as it is wanted
abbrev pub rows_for : Settings → Request → List RowTold
rows_for s request = if_wanted (wanted s).options (rows_by request)

abbrev pub told_for : Catalogue → Settings → Request → Told
told_for catalogue s request = told_if (wanted s) (told_by (known_by catalogue s.version) request)

abbrev pub writes_for : Settings → Request → Option (List ℕ)
writes_for s request = writes_by s request.compiler (reading_by request.compiler request)

abbrev pub questions_for : Settings → Request → Questions
questions_for s request = questions_if (wanted s) (questions_of request)

abbrev pub runs_for : Settings → Compiler → Parsed → List (List (List ℕ))
runs_for s compiler p = if_wanted (wanted s).runs (runs_with s.version compiler s.runs.may_dist s.runs.rewrite_includes_only s.runs.cache_mode p)

-- what is said of keeping the outcome of a command
abbrev pub kept_with : Lexicon → Settings → Request → Told → Answer → Result Parsed Verdict → Kept
kept_with l s request told (compiled words may_be_kept) (Ok p) =
    kept_for l s may_be_kept request.compiler (run_words_by request.words told.hazards) told (environment_by request.compiler request.environment) p
kept_with l s request told (compiled words may_be_kept) (Err v) = nothing
kept_with l s request told (cannot_cache reason beside) r = nothing
kept_with l s request told not_compilation r = nothing

-- the rows of a record that a request's line is read as, if this is said of keeping its outcome
abbrev pub record_rows : Settings → Request → Kept → Parsed → List Entry
record_rows s request kept p = compiled_entries (runs_for s request.compiler p) (environment_by request.compiler request.environment) (kept_entries kept) p

abbrev pub outcome_entries : Settings → Request → Kept → Answer → Result Parsed Verdict → List Entry
outcome_entries s request kept (compiled words may_be_kept) (Ok p) = record_rows s request kept p
outcome_entries s request kept (compiled words may_be_kept) (Err v) = []
outcome_entries s request kept (cannot_cache reason beside) r = refused_entries reason beside (refused_at (rows_for s request))
outcome_entries s request kept not_compilation r = undone_entries (refused_at (rows_for s request))

-- the rows of what is reported: of hazards, and of what is read, written, asked and loaded
abbrev pub told_entries : Told → List Entry
told_entries told = hazards_entry told.hazards ∷ effect_entries told.effects

-- the rows after the answer's lines, with what is reported, if this is said of keeping
abbrev pub entries_kept : Settings → Request → Told → Kept → List Entry
entries_kept s request told kept =
    version_entry ∷ []
    ++ outcome_entries s request kept (answer_to request) (reading_by request.compiler request)
    ++ (options_entry (rows_for s request) ∷ told_entries told ++ (writes_entry (writes_for s request) ∷ question_entries (questions_for s request) ++ last_entries kept))

abbrev pub entries_with : Lexicon → Settings → Request → Told → List Entry
entries_with l s request told = entries_kept s request told (kept_with l s request told (answer_to request) (reading_by request.compiler request))

abbrev pub entries_for : Catalogue → Settings → Request → List Entry
entries_for catalogue s request = entries_with (lexicon_by catalogue s.version request.compiler) s request (told_for catalogue s request)

-- where a command line has more words than the limit
abbrev pub too_many_entries : List Entry
too_many_entries = lone_entry (codes "too-many-words") ∷ version_entry ∷ []

abbrev pub description : Catalogue → Settings → Request → List ℕ
description catalogue s request =
    if has_at_most s.limits request then text_of (answer_to request) ++ entries_text (entries_for catalogue s request) else entries_text too_many_entries

-- what a description of the request may be, or the number of its bad line
abbrev pub IsDescriptionOf : Catalogue → Settings → Result Request ℕ → Result (List ℕ) ℕ → Type 0
IsDescriptionOf catalogue s (Ok request) (Ok text) = text ≡ description catalogue s request
IsDescriptionOf catalogue s (Err n) (Err m) = n ≡ m
IsDescriptionOf catalogue s (Ok request) (Err m) = ⊥
IsDescriptionOf catalogue s (Err n) (Ok text) = ⊥

-- what may be answered to the bytes of a description's request: their settings and the request of their other lines
abbrev pub DescribesBytes : Catalogue → List ℕ → Result (List ℕ) ℕ → Type 0
DescribesBytes catalogue bytes said = IsDescriptionOf catalogue (settings_in (lines_of bytes)) (request_in (request_lines (lines_of bytes))) said

-- ---- the answer as rows

abbrev pub cacheable_name : Cacheable → List ℕ
cacheable_name cacheable.Yes = codes "yes"
cacheable_name cacheable.No = codes "no"

-- the lines of a command's answer
abbrev pub command_entries : List (List ℕ) → Cacheable → List Entry
command_entries words kept = lone_entry (codes "ok") ∷ words_entry (codes "arg") words ∷ row_entry (codes "cacheable") (lone (cacheable_name kept)) ∷ []

-- the lines of an answer; a reason is one field
abbrev pub answer_entries : Answer → List Entry
answer_entries (compiled words kept) = command_entries words kept
answer_entries (cannot_cache reason beside) = row_entry (codes "cannot-cache") (lone reason) ∷ []
answer_entries not_compilation = lone_entry (codes "not-compilation") ∷ []

-- ---- a law

-- A description of a command gives the record that was read.
abbrev pub DescriptionsReadBack : Type 0
DescriptionsReadBack = (catalogue : Catalogue) (s : Settings) (request : Request) (words : List (List ℕ)) (kept : Cacheable) (p : Parsed)
    → has_at_most s.limits request ≡ true → answer_to request ≡ compiled words kept → reading_by request.compiler request ≡ Ok p
    → Each IsRow (rows_of (command_entries words kept ++ entries_for catalogue s request))
    → record_in (description catalogue s request) ≡ p
