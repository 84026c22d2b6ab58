-- What is described, as the code gives it, and its text.
use Rattle.std.specs.Prelude.{◌≡◌, ℕ, List, [], ◌∷◌, ◌++◌, map, Option, Result, string_bytes}
use Rattle.std.specs.Option.{option_map}
use Rattle.scl_catalogue.specs.Form.{Catalogue}
use Rattle.scl_catalogue.specs.Lookup.{Lexicon}
use Rattle.scl_rows.specs.Rows.{refused_at, told}
use Rattle.scl_text.specs.Commands.{pairs_of}
use Rattle.scl_text.specs.Records.{Parsed, Verdict, parsed_of, path_of}
use Rattle.scl_text.specs.Runs.{runs_of}
use Rattle.scl_text.specs.declared.records.CompilerArguments.{CompilerArguments}
use Rattle.scl_text.specs.declared.records.CompilerArguments.TheVariants as outcomes
use Rattle.scl_cl.specs.AnswerTexts.{text_of}
use Rattle.scl_description.specs.Rows.{Entry, entries_text, rows_of}
use Rattle.scl_hazards.specs.Told.{Told, given as given_told}
use Rattle.scl_key.specs.Views.{no_keys_of}
use Rattle.scl_delivered.specs.Views.{delivered_of}
use Rattle.scl_reader.specs.declared.compiler.Compiler.{Compiler}
use Rattle.scl_reader.specs.declared.compilation.Compilation.{Compilation}
use Rattle.scl_describe.specs.declared.described.Description.{Description}
use Rattle.scl_reader.specs.Answers.{answer_to, environment_by, reading_by}
use Rattle.scl_reader.specs.AnswersGiven.{answer_of, AnswersReading, HasParts}
use Rattle.scl_reader.specs.Definitions.{definitions_of}
use Rattle.scl_reader.specs.Reads.{compiler_of, outcome_in, runs_for}
use Rattle.scl_reader.specs.declared.reading.Reading.{Reading}
use Rattle.scl_describe.specs.DependencyFiles.{writes_by}
use Rattle.scl_describe.specs.Hazards.{known_by, lexicon_by, told_in}
use Rattle.scl_describe.specs.OptionLines.{options_given}
use Rattle.scl_describe.specs.OptionRows.{rows_in}
use Rattle.scl_reader.specs.Questions.{questions_in}
use Rattle.scl_reader.specs.QuestionsGiven.{given}
use Rattle.scl_reader.specs.CommandLines.{Given, Request}
use Rattle.scl_describe.specs.declared.keeping.Kept as declared_keeping
use Rattle.scl_describe.specs.declared.keeping.Kept.TheVariants as kepts
use Rattle.scl_describe.specs.Keepings.{Kept, nothing, under_key, unknown, under_none, kept_entries, kept_for, last_entries, run_words_by}
use Rattle.scl_describe.specs.Settings.{Settings, wanted}
use Rattle.scl_describe.specs.Wants.{if_wanted, questions_if, told_if}
use Rattle.scl_describe.specs.Descriptions.{answer_entries, compiled_entries, kept_with, questions_for, rows_for, told_for, question_entries, refused_entries, told_entries, undone_entries, version_entry, writes_entry, writes_for}

abbrev pub kept_told : declared_keeping.Kept → Kept
kept_told kepts.Nothing = nothing
kept_told (kepts.Under key) = under_key (delivered_of key)
kept_told (kepts.Unknown word) = unknown word.items
kept_told (kepts.Not why) = under_none (no_keys_of why.items)

-- the runs of the preprocessor for what was read, by a compiler, if they are wanted
abbrev pub runs_given : Settings → Compiler → Result Parsed Verdict → List (List (List ℕ))
runs_given s compiler outcome = if_wanted (wanted s).runs (runs_for s.version compiler s.runs.may_dist s.runs.rewrite_includes_only s.runs.cache_mode outcome)

-- what is said of keeping the outcome of an answer to a line of these words
abbrev pub kept_given : Lexicon → Settings → Compiler → (words : List (List ℕ)) → Told → CompilerArguments Compilation → Kept
kept_given l s compiler words told (outcomes.Ok compilation) =
    kept_for l s compilation.cacheable compiler (run_words_by words told.hazards) told (pairs_of compilation.command.env_vars.items) (parsed_of compilation.parsed)
kept_given l s compiler words told (outcomes.CannotCache reason text) = nothing
kept_given l s compiler words told outcomes.NotCompilation = nothing

-- ---- its rows, and its text

abbrev pub compilation_entries : (runs : List (List (List ℕ))) → Kept → Compilation → List Entry
compilation_entries runs kept compilation = compiled_entries runs (pairs_of compilation.command.env_vars.items) (kept_entries kept) (parsed_of compilation.parsed)

abbrev pub outcome_rows : (runs : List (List (List ℕ))) → Kept → Option ℕ → CompilerArguments Compilation → List Entry
outcome_rows runs kept at (outcomes.Ok compilation) = compilation_entries runs kept compilation
outcome_rows runs kept at (outcomes.CannotCache reason text) = refused_entries reason.now (option_map string_bytes text) at
outcome_rows runs kept at outcomes.NotCompilation = undone_entries at

-- the rows of what was read, or of why nothing was
abbrev pub outcome_given : Description → List Entry
outcome_given made = outcome_rows (runs_of made.runs.items) (kept_told made.kept) (refused_at (map told made.options.items)) made.answer

-- the rows after the answer's lines
abbrev pub entries_given : Description → List Entry
entries_given made =
    version_entry ∷ []
    ++ outcome_given made
    ++ (options_given made.options.items ∷ told_entries (given_told made.told) ++ (writes_entry (path_of made.writes) ∷ question_entries (given made.questions) ++ last_entries (kept_told made.kept)))

-- all of them, with those of the answer in front
abbrev pub rows_given : Description → List (List (List ℕ))
rows_given made = rows_of (answer_entries (answer_of made.answer) ++ entries_given made)

abbrev pub text_given : Description → List ℕ
text_given made = text_of (answer_of made.answer) ++ entries_text (entries_given made)

-- ---- what is described

-- it is described of a reading of a line whose program has the empty name, by a catalogue and as settings request it
pub record IsDescribed (catalogue : Catalogue) (s : Settings) (reading : Reading) (line : Given) (made : Description) : Type 0 where
  pub answer : AnswersReading (definitions_of (compiler_of reading)) [] (outcome_in reading) line.directory line.environment line.view made.answer
  pub runs : runs_of made.runs.items ≡ runs_given s (compiler_of reading) (outcome_in reading)
  pub kept : kept_told made.kept ≡ kept_given (lexicon_by catalogue s.version (compiler_of reading)) s (compiler_of reading) line.words (given_told made.told) made.answer
  pub options : map told made.options.items ≡ if_wanted (wanted s).options (rows_in reading)
  pub told : given_told made.told ≡ told_if (wanted s) (told_in (known_by catalogue s.version) line reading)
  pub writes : path_of made.writes ≡ writes_by s (compiler_of reading) (outcome_in reading)
  pub questions : given made.questions ≡ questions_if (wanted s) (questions_in line reading)

-- its parts are of a request whose program has the empty name, by a catalogue and as settings request them
pub record AreOf (catalogue : Catalogue) (s : Settings) (request : Request) (made : Description) : Type 0 where
  pub answer : answer_of made.answer ≡ answer_to request
  pub parts : HasParts (reading_by request.compiler request) [] (environment_by request.compiler request.environment) request.directory made.answer
  pub runs : runs_of made.runs.items ≡ runs_given s request.compiler (reading_by request.compiler request)
  pub kept : kept_told made.kept ≡ kept_with (lexicon_by catalogue s.version request.compiler) s request (told_for catalogue s request) (answer_to request) (reading_by request.compiler request)
  pub options : map told made.options.items ≡ rows_for s request
  pub told : given_told made.told ≡ told_for catalogue s request
  pub writes : path_of made.writes ≡ writes_for s request
  pub questions : given made.questions ≡ questions_for s request
