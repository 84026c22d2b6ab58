-- Descriptions: what the code gives is what is defined, and a record is read back from its description.
use Rattle.std.proofs.Common.{◌≡◌, ℕ, true, false, cond, List, [], ◌∷◌, ◌++◌, map, codes, Option, refl, ap, sym, subst, ◌∙◌, append-nil, append_assoc}
use Rattle.std.specs.List.{flat_map}
use Rattle.std.proofs.lemmas.Grind.{flat_map-append}
use Rattle.scl_catalogue.specs.Form.{Catalogue}
use Rattle.scl_catalogue.specs.Lookup.{Lexicon}
use Rattle.scl_values.specs.Each.{Each}
use Rattle.scl_values.specs.Escaped.{escaped}
use Rattle.scl_text.specs.Commands.{pairs_of}
use Rattle.scl_text.specs.Records.{Parsed, parsed_of, path_of}
use Rattle.scl_text.specs.Runs.{runs_of}
use Rattle.scl_text.specs.declared.records.Cacheable.{Cacheable}
use Rattle.scl_text.specs.declared.records.Cacheable.TheVariants as cacheable
use Rattle.scl_text.specs.declared.records.CompilerArguments.{CompilerArguments}
use Rattle.scl_text.specs.declared.records.CompilerArguments.TheVariants as outcomes
use Rattle.scl_description.specs.Laws.{IsBeside}
use Rattle.scl_description.specs.Lines.{line}
use Rattle.scl_description.specs.Rows.{Entry, IsRow, lone, row_text, rows_text, rows_of, entry, entry_text, entries_text}
use Rattle.scl_description.specs.Records.{record_entries, record_in}
use Rattle.scl_description.proofs.RecordLaws.{description-back-among}
use Rattle.scl_hazards.specs.Told.{Told, given as given_told}
use Rattle.scl_rows.specs.Rows.{refused_at, told}
use Rattle.scl_rows.specs.declared.row.Row.{Row}
use Rattle.scl_describe.specs.Hazards.{lexicon_by}
use Rattle.scl_describe.specs.declared.described.Description.{Description}
use Rattle.scl_reader.specs.declared.compilation.Compilation.{Compilation}
use Rattle.scl_describe.specs.OptionLines.{fields_given, option_fields, options_entry, options_given}
use Rattle.scl_reader.specs.QuestionsGiven.{given}
use Rattle.scl_reader.specs.CommandLines.{Request}
use Rattle.scl_cl.specs.AnswerTexts.{arg_line, text_of}
use Rattle.scl_reader.specs.Answers.{compiled, answer_to, reading_by, environment_by}
use Rattle.scl_reader.specs.AnswersGiven.{answer_of, HasParts}
use Rattle.scl_reader.specs.Questions.{Questions}
use Rattle.scl_describe.specs.Settings.{Settings}
use Rattle.scl_reader.specs.Within.{has_at_most}
use Rattle.scl_describe.specs.Keepings.{Kept, kept_entries, kept_for, last_entries, run_words_by}
use Rattle.scl_describe.proofs.KeepingLaws.{each-both, effects-beside, kept-beside, last-beside}
use Rattle.scl_describe.specs.Descriptions.{version_entry, runs_entry, environment_entry, told_entries, compiled_entries, kept_with, questions_for, rows_for, runs_for, told_for, writes_entry, writes_for, outcome_entries, question_entries, entries_for, description, too_many_entries, command_entries, DescriptionsReadBack}
use Rattle.scl_describe.specs.DescriptionsGiven.{AreOf, entries_given, kept_given, kept_told, outcome_given, outcome_rows, runs_given, text_given}

-- ---- what the code gives

outcome-is : (s : Settings) (r : Request) (runs : List (List (List ℕ))) (kept : Kept) (answer : CompilerArguments Compilation) → answer_of answer ≡ answer_to r
    → HasParts (reading_by r.compiler r) [] (environment_by r.compiler r.environment) r.directory answer → runs ≡ runs_given s r.compiler (reading_by r.compiler r)
    → outcome_rows runs kept (refused_at (rows_for s r)) answer ≡ outcome_entries s r kept (answer_to r) (reading_by r.compiler r)
outcome-is s r runs kept (outcomes.Ok compilation) e parts are =
    let p : Parsed = parsed_of compilation.parsed in
    ap (λ them. compiled_entries them (pairs_of compilation.command.env_vars.items) (kept_entries kept) p) (are ∙ ap (runs_given s r.compiler) parts.0)
    ∙ ap (λ env. compiled_entries (runs_for s r.compiler p) env (kept_entries kept) p) parts.1.env_vars_are
    ∙ ap (λ said. outcome_entries s r kept (answer_of (outcomes.Ok compilation)) said) (sym parts.0)
    ∙ ap (λ a. outcome_entries s r kept a (reading_by r.compiler r)) e
outcome-is s r runs kept (outcomes.CannotCache reason text) e parts are = ap (λ a. outcome_entries s r kept a (reading_by r.compiler r)) e
outcome-is s r runs kept outcomes.NotCompilation e parts are = ap (λ a. outcome_entries s r kept a (reading_by r.compiler r)) e

pub kept-is : (l : Lexicon) (s : Settings) (r : Request) (telling : Told) (answer : CompilerArguments Compilation) → answer_of answer ≡ answer_to r
    → HasParts (reading_by r.compiler r) [] (environment_by r.compiler r.environment) r.directory answer
    → kept_given l s r.compiler r.words telling answer ≡ kept_with l s r telling (answer_to r) (reading_by r.compiler r)
kept-is l s r telling (outcomes.Ok compilation) e parts =
    ap (λ env. kept_for l s compilation.cacheable r.compiler (run_words_by r.words telling.hazards) telling env (parsed_of compilation.parsed)) parts.1.env_vars_are
    ∙ ap (λ said. kept_with l s r telling (answer_of (outcomes.Ok compilation)) said) (sym parts.0)
    ∙ ap (λ a. kept_with l s r telling a (reading_by r.compiler r)) e
kept-is l s r telling (outcomes.CannotCache reason text) e parts = ap (λ a. kept_with l s r telling a (reading_by r.compiler r)) e
kept-is l s r telling outcomes.NotCompilation e parts = ap (λ a. kept_with l s r telling a (reading_by r.compiler r)) e

options-are : (rows : List Row) → map fields_given rows ≡ map option_fields (map told rows)
options-are [] = refl
options-are (row ∷ rows) = ap (λ rests. option_fields (told row) ∷ rests) (options-are rows)

abbrev all_entries : List Entry → Entry → Told → Option (List ℕ) → Questions → Kept → List Entry
all_entries outcome options telling writes asks kept =
    version_entry ∷ [] ++ outcome ++ (options ∷ told_entries telling ++ (writes_entry writes ∷ question_entries asks ++ last_entries kept))

entries-are : (catalogue : Catalogue) (s : Settings) (r : Request) (made : Description) → AreOf catalogue s r made → entries_given made ≡ entries_for catalogue s r
entries-are catalogue s r made are =
    let runs : List (List (List ℕ)) = runs_of made.runs.items in
    let kept : Kept = kept_with (lexicon_by catalogue s.version r.compiler) s r (told_for catalogue s r) (answer_to r) (reading_by r.compiler r) in
    let outcome : outcome_given made ≡ outcome_entries s r kept (answer_to r) (reading_by r.compiler r) =
    ap (λ k. outcome_rows runs k (refused_at (map told made.options.items)) made.answer) are.kept
    ∙ ap (λ rows. outcome_rows runs kept (refused_at rows) made.answer) are.options
    ∙ outcome-is s r runs kept made.answer are.answer are.parts are.runs in
    let options : options_given made.options.items ≡ options_entry (rows_for s r) = ap (entry (codes "option")) (options-are made.options.items) ∙ ap options_entry are.options in
    let there : List Entry = outcome_entries s r kept (answer_to r) (reading_by r.compiler r) in
    ap (λ es. all_entries es (options_given made.options.items) (given_told made.told) (path_of made.writes) (given made.questions) (kept_told made.kept)) outcome
    ∙ ap (λ e. all_entries there e (given_told made.told) (path_of made.writes) (given made.questions) (kept_told made.kept)) options
    ∙ ap (λ is. all_entries there (options_entry (rows_for s r)) is (path_of made.writes) (given made.questions) (kept_told made.kept)) are.told
    ∙ ap (λ path. all_entries there (options_entry (rows_for s r)) (told_for catalogue s r) path (given made.questions) (kept_told made.kept)) are.writes
    ∙ ap (λ asks. all_entries there (options_entry (rows_for s r)) (told_for catalogue s r) (writes_for s r) asks (kept_told made.kept)) are.questions
    ∙ ap (λ k. all_entries there (options_entry (rows_for s r)) (told_for catalogue s r) (writes_for s r) (questions_for s r) k) are.kept

-- the text of what is described of a request is its description
pub is-description : (catalogue : Catalogue) (s : Settings) (r : Request) (text : List ℕ) (made : Description) → has_at_most s.limits r ≡ true → AreOf catalogue s r made
    → text ≡ text_given made → text ≡ description catalogue s r
is-description catalogue s r text made within are is =
    is
    ∙ ap (λ a. text_of a ++ entries_text (entries_given made)) are.answer
    ∙ ap (λ es. text_of (answer_to r) ++ entries_text es) (entries-are catalogue s r made are)
    ∙ ap (λ b. cond b (text_of (answer_to r) ++ entries_text (entries_for catalogue s r)) (entries_text too_many_entries)) (sym within)

pub too-long : (catalogue : Catalogue) (s : Settings) (r : Request) (text : List ℕ) → has_at_most s.limits r ≡ false → text ≡ entries_text too_many_entries → text ≡ description catalogue s r
too-long catalogue s r text within is = is ∙ ap (λ b. cond b (text_of (answer_to r) ++ entries_text (entries_for catalogue s r)) (entries_text too_many_entries)) (sym within)

-- ---- a record is read back

arg-row : (word : List ℕ) → line (row_text (codes "arg" ∷ lone word)) ≡ arg_line word
arg-row word = ap (λ w. codes "arg " ++ (w ++ 10 ∷ [])) (append-nil (escaped word))

args-rows : (words : List (List ℕ)) → rows_text (map (λ rest. codes "arg" ∷ rest) (map lone words)) ≡ flat_map arg_line words
args-rows [] = refl
args-rows (word ∷ words) =
    ap (λ t. t ++ rows_text (map (λ rest. codes "arg" ∷ rest) (map lone words))) (arg-row word) ∙ ap (λ t. arg_line word ++ t) (args-rows words)

command-rows : (words : List (List ℕ)) (kept : Cacheable) → text_of (compiled words kept) ≡ entries_text (command_entries words kept)
unfolding entry_text
command-rows words cacheable.Yes =
    append_assoc (line (codes "ok")) (flat_map arg_line words) (line (codes "cacheable yes")) ∙ ap (λ t. line (codes "ok") ++ (t ++ line (codes "cacheable yes"))) (sym (args-rows words))
command-rows words cacheable.No =
    append_assoc (line (codes "ok")) (flat_map arg_line words) (line (codes "cacheable no")) ∙ ap (λ t. line (codes "ok") ++ (t ++ line (codes "cacheable no"))) (sym (args-rows words))

command-beside : (words : List (List ℕ)) (kept : Cacheable) → Each IsBeside (command_entries words kept ++ version_entry ∷ [])
command-beside words cacheable.Yes = (refl, (refl, (refl, (refl, tt))))
command-beside words cacheable.No = (refl, (refl, (refl, (refl, tt))))

-- the rows before a record's, the record's, and those after
abbrev in_order : (before after : List Entry) → Parsed → List Entry
in_order before after p = before ++ record_entries p ++ after

pub descriptions-back : DescriptionsReadBack
descriptions-back catalogue s r words kept p within compiles reads are =
    let environment : List (List ℕ × List ℕ) = environment_by r.compiler r.environment in
    let telling : Told = told_for catalogue s r in
    let keeping : Kept = kept_with (lexicon_by catalogue s.version r.compiler) s r telling (answer_to r) (reading_by r.compiler r) in
    let after : List Entry = runs_entry (runs_for s r.compiler p) ∷ environment_entry environment ∷ kept_entries keeping in
    let last : List Entry = writes_entry (writes_for s r) ∷ question_entries (questions_for s r) ++ last_entries keeping in
    let asks : List Entry = options_entry (rows_for s r) ∷ told_entries telling ++ last in
    let before : List Entry = command_entries words kept ++ version_entry ∷ [] in
    let outcome : outcome_entries s r keeping (answer_to r) (reading_by r.compiler r) ≡ record_entries p ++ after =
    ap (λ a. outcome_entries s r keeping a (reading_by r.compiler r)) compiles ∙ ap (outcome_entries s r keeping (compiled words kept)) reads in
    let beside : Each IsBeside (after ++ asks) =
    each-both IsBeside after asks (refl, (refl, kept-beside keeping)) (refl, each-both IsBeside (told_entries telling) last (refl, effects-beside telling.effects) (refl, (refl, (refl, (refl, last-beside keeping))))) in
    let entries : command_entries words kept ++ entries_for catalogue s r ≡ in_order before (after ++ asks) p =
    ap (λ es. command_entries words kept ++ (version_entry ∷ [] ++ es ++ asks)) outcome
    ∙ ap (λ es. command_entries words kept ++ (version_entry ∷ es)) (append_assoc (record_entries p) after asks)
    ∙ sym (append_assoc (command_entries words kept) (version_entry ∷ []) (record_entries p ++ (after ++ asks)))
    ∙ sym (append_assoc before (record_entries p) (after ++ asks)) in
    let text : description catalogue s r ≡ entries_text (in_order before (after ++ asks) p) =
    ap (λ b. cond b (text_of (answer_to r) ++ entries_text (entries_for catalogue s r)) (entries_text too_many_entries)) within
    ∙ ap (λ a. text_of a ++ entries_text (entries_for catalogue s r)) compiles
    ∙ ap (λ t. t ++ entries_text (entries_for catalogue s r)) (command-rows words kept)
    ∙ sym (flat_map-append entry_text (command_entries words kept) (entries_for catalogue s r))
    ∙ ap entries_text entries in
    ap record_in text
    ∙ description-back-among before (after ++ asks) p (command-beside words kept) beside (subst (λ es. Each IsRow (rows_of es)) entries are)
