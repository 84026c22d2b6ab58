-- Each round, and the rows, depend on nothing but what was asked.
use Rattle.std.proofs.Common.{◌≡◌, ◌==◌, length, if◌then◌else◌, ◌&&◌, ◌||◌, is_none, not, Bool, true, false, cond, ℕ, List, [], ◌∷◌, ◌++◌, map, codes, Option, None, Some, refl, sym, ap, subst, ◌∙◌}
use Rattle.std.proofs.lemmas.Bool.{and_parts}
use Rattle.std.specs.List.{cons_option, filter_map, flat_map, list_any}
use Rattle.std.specs.Option.{option_and_then, option_map, option_zip, unwrap_or}
use Rattle.std.specs.Str.{bytes_eq}
use Rattle.scl_files.specs.Paths.{begins_with_slash, join}
use Rattle.scl_key.specs.declared.part.Ask.{Ask}
use Rattle.scl_key.specs.declared.part.Ask.TheVariants as asks
use Rattle.scl_key.specs.Parts.{Part, is, output, directory, compiler, plan, asked, run, run_else, pch, sources, times}
use Rattle.scl_lookup.specs.Keys.{Row, said, all_there, ran_on, unfailed}
use Rattle.scl_lookup.specs.Lists.{Agree}
use Rattle.scl_lookup.specs.Questions.{Question, env, program, file, bytes, names as names_in, real, run as run_asked, Standing, regular, folder, special, missing, Written, Machine}
use Rattle.scl_questions.specs.Rounds.{joined, was_asked, with_one}
use Rattle.scl_questions.specs.Same.{same}
use Rattle.scl_questions.specs.Talks.{AreDecided, ends, value_on}
use Rattle.scl_questions.specs.Told.{value_told, unset_told, file_told, maybe_told, regular_told, program_told}
use Rattle.scl_questions.proofs.SameLaws.{same_one}
use Rattle.scl_questions.proofs.TalkLaws.{talks_end}
use Rattle.scl_rounds.specs.Answers.{answer_asked, answer_on, directory_by, directory_on, outcome_by, outcome_on, row_by, refused_told, row_on, rows_on, said_directory, told_if, Outcome}
use Rattle.scl_rounds.specs.declared.question.Detail.{Detail}
use Rattle.scl_rounds.specs.declared.question.Detail.TheVariants as details
use Rattle.scl_rounds.specs.declared.question.Phase.TheVariants as phases
use Rattle.scl_rounds.specs.declared.file.Flaw.{Flaw}
use Rattle.scl_rounds.specs.declared.file.Flaw.TheVariants as flaws
use Rattle.scl_rounds.specs.Files.{any_flawed, file_row, files_told, has_flaw, in_one, is_regular, times_by, times_row, times_told}
use Rattle.scl_rounds.specs.Headers.{all_inside, any_there, folder_of, folders_by, folders_in, headers_told, included_as, inside, is_folder, is_there, leading_in, named, places, places_by, words_told}
use Rattle.scl_rounds.specs.Keys.{Key, asks_early, headers_named, is_early, is_made, searches, variables}
use Rattle.scl_rounds.specs.Listings.{all_regular, any_hides, beside_by, beside_on, candidates, candidates_by, candidates_from, has_loose, hides_by as hides_name, is_searched, names_by, names_on, naming}
use Rattle.scl_patterns.specs.Patterns.{is_shown}
use Rattle.scl_rounds.specs.Plans.{asked_plan, called_in, cleaned, files_in_plan, plan_told, planned_on, program_row, programs_told, there_by, there_row, there_told}
use Rattle.scl_patterns.specs.Refusals.{is_refused}
use Rattle.scl_rounds.specs.declared.question.Phase.{Phase}
use Rattle.scl_rounds.specs.Rounds.{asked_in, asked_run, behind_said, called, called_by_plan, detail_asked, detail_by, details_asked, fifth, fifth_asked, first, first_asked, fourth, listed_files, listed_in, needed, needed_asked, needed_by, needed_if, read_by, rounds, second, sixth, stage, third, RoundsGiveRows}
use Rattle.scl_rounds.specs.Runs.{entered_in, fails, has_failed, is_fleeting, is_sound, loaded_in, marked_in, may_fail, names_sources, no_text, outputs_told, run_told}
use Rattle.scl_rounds.specs.Searches.{all_folders_on, are_all_named, asked_search, folders_on, folders_written, names_all}
use Rattle.scl_rounds.specs.Shown.{all_sources, content_at, each_once, input_of, marked, searched, shown, shown_by, text_on, unmarked}
use Rattle.scl_rounds.specs.Vain.{forbids, hides, hides_by, hides_else, is_forbidden, is_hidden, is_hidden_else}

-- ---- what both answer alike

agree_both : (w m : Machine) (a b : List Question) → Agree w m (a ++ b) → Agree w m a × Agree w m b
agree_both w m [] b h = (tt, h)
agree_both w m (q ∷ a) b h = let rest = agree_both w m a b h.1 in ((h.0, rest.0), rest.1)

asked_by : (w m : Machine) (first q : Question) (before : List Question) (b : Bool) → same first q ≡ b → w first ≡ m first → (was_asked q before ≡ true → w q ≡ m q) → (b || was_asked q before) ≡ true → w q ≡ m q
asked_by w m first q before true one e rest h = subst (λ it. w it ≡ m it) (same_one first q one) e
asked_by w m first q before false one e rest h = rest h

agree_asked : (w m : Machine) (q : Question) (before : List Question) → Agree w m before → was_asked q before ≡ true → w q ≡ m q
agree_asked w m q [] agree h = absurd (let no : false ≡ true = h in cc)
agree_asked w m q (first ∷ before) agree h = asked_by w m first q before (same first q) refl agree.0 (agree_asked w m q before agree.1) h

agree_one : (w m : Machine) (q : Question) (before : List Question) (b : Bool) → was_asked q before ≡ b → Agree w m (cond b before (before ++ q ∷ [])) → Agree w m before × (w q ≡ m q)
agree_one w m q before true one h = (h, agree_asked w m q before h one)
agree_one w m q before false one h = let it = agree_both w m before (q ∷ []) h in (it.0, it.1.0)

agree_joined : (w m : Machine) (before qs : List Question) → Agree w m (joined before qs) → Agree w m before × Agree w m qs
agree_joined w m before [] h = (h, tt)
agree_joined w m before (q ∷ qs) h =
    let rest = agree_joined w m (with_one before q) qs h in let it = agree_one w m q before (was_asked q before) refl rest.0 in (it.0, (it.1, rest.1))

-- ---- the directory

name_one : (w m : Machine) (place name : List ℕ) (b : Bool) → Agree w m (cond b (real name ∷ real place ∷ []) [])
    → cond (b && bytes_eq (w (real name)) (w (real place))) name place ≡ cond (b && bytes_eq (m (real name)) (m (real place))) name place
name_one w m place name true h = ap (λ it. cond (bytes_eq it (w (real place))) name place) h.0 ∙ ap (λ it. cond (bytes_eq (m (real name)) it) name place) h.1.0
name_one w m place name false h = refl

directory_by_one : (w m : Machine) (place : List ℕ) (o : Option (List ℕ)) → Agree w m (behind_said place o) → directory_by place w o ≡ directory_by place m o
directory_by_one w m place None h = refl
directory_by_one w m place (Some name) h = name_one w m place name (begins_with_slash name) h

directory_one : (w m : Machine) (place : List ℕ) → w said_directory ≡ m said_directory → Agree w m (behind_said place (m said_directory)) → directory_on place w ≡ directory_on place m
directory_one w m place e h = ap (directory_by place w) e ∙ directory_by_one w m place (m said_directory) h

-- ---- all parts

any_one : (w m : Machine) (asks : Part → List Question) (one other : Part → Bool) (parts : List Part) → ((part : Part) → Agree w m (asks part) → one part ≡ other part)
    → Agree w m (flat_map asks parts) → list_any one parts ≡ list_any other parts
any_one w m asks one other [] each h = refl
any_one w m asks one other (part ∷ parts) each h =
    let it = agree_both w m (asks part) (flat_map asks parts) h in
    ap (λ b. b || list_any one parts) (each part it.0) ∙ ap (λ b. other part || b) (any_one w m asks one other parts each it.1)

all_one : {A B : Type 0} (w m : Machine) (asks : A → List Question) (one other : A → List B) (list : List A) → ((each : A) → Agree w m (asks each) → one each ≡ other each)
    → Agree w m (flat_map asks list) → flat_map one list ≡ flat_map other list
all_one w m asks one other [] each h = refl
all_one w m asks one other (first ∷ list) each h =
    let it = agree_both w m (asks first) (flat_map asks list) h in
    ap (λ qs. qs ++ flat_map one list) (each first it.0) ∙ ap (λ qs. other first ++ qs) (all_one w m asks one other list each it.1)

all_by_four : (w m : Machine) (asks others more last : Part → List Question) (one other : Part → List Question) (parts : List Part)
    → ((part : Part) → Agree w m (asks part) → Agree w m (others part) → Agree w m (more part) → Agree w m (last part) → one part ≡ other part)
    → Agree w m (flat_map asks parts) → Agree w m (flat_map others parts) → Agree w m (flat_map more parts) → Agree w m (flat_map last parts) → flat_map one parts ≡ flat_map other parts
all_by_four w m asks others more last one other [] each h k l n = refl
all_by_four w m asks others more last one other (part ∷ parts) each h k l n =
    let a = agree_both w m (asks part) (flat_map asks parts) h in
    let b = agree_both w m (others part) (flat_map others parts) k in
    let c = agree_both w m (more part) (flat_map more parts) l in
    let d = agree_both w m (last part) (flat_map last parts) n in
    ap (λ qs. qs ++ flat_map one parts) (each part a.0 b.0 c.0 d.0) ∙ ap (λ qs. other part ++ qs) (all_by_four w m asks others more last one other parts each a.1 b.1 c.1 d.1)

each_one : (one other : Part → List Question) (parts : List Part) → ((part : Part) → one part ≡ other part) → flat_map one parts ≡ flat_map other parts
each_one one other [] each = refl
each_one one other (part ∷ parts) each = ap (λ qs. qs ++ flat_map one parts) (each part) ∙ ap (λ qs. other part ++ qs) (each_one one other parts each)

-- ---- what the first round answers

maybe_one : (w m : Machine) (path : List ℕ) (b : Bool) → Agree w m (cond b [] (file path ∷ [])) → cond b (Some []) (maybe_told (w (file path))) ≡ cond b (Some []) (maybe_told (m (file path)))
maybe_one w m path true h = refl
maybe_one w m path false h = ap maybe_told h.0

forbids_asked_one : (key : Key) (w m : Machine) (ask : Ask) (name : List ℕ) → Agree w m (first_asked key ask name)
    → (asks_early ask && is_none (answer_asked key w ask name)) ≡ (asks_early ask && is_none (answer_asked key m ask name))
forbids_asked_one key w m asks.Env name h = refl
forbids_asked_one key w m asks.Unset name h = ap (λ it. is_none (unset_told it)) h.0
forbids_asked_one key w m asks.File name h = ap (λ it. is_none (file_told it)) h.0
forbids_asked_one key w m asks.Maybe name h = ap is_none (maybe_one w m name (is_made key name) h)
forbids_asked_one key w m asks.Regular name h = ap (λ it. is_none (regular_told it)) h.0
forbids_asked_one key w m asks.SourcesIfShown name h = refl
forbids_asked_one key w m asks.RefuseIfShown name h = refl

forbids_one : (key : Key) (w m : Machine) (part : Part) → Agree w m (first key part) → forbids key w part ≡ forbids key m part
forbids_one key w m (is row) h = refl
forbids_one key w m (output made) h = refl
forbids_one key w m directory h = refl
forbids_one key w m compiler h = ap (λ it. is_none (program_told it)) h.0
forbids_one key w m (plan words) h = refl
forbids_one key w m (asked ask name) h = forbids_asked_one key w m ask name h
forbids_one key w m (run words) h = refl
forbids_one key w m (run_else words) h = refl
forbids_one key w m (pch searched) h = refl
forbids_one key w m sources h = refl
forbids_one key w m times h = refl

-- ---- what each round asks

second_one : (key : Key) (w m : Machine) (part : Part) → Agree w m (first key part) → second key w part ≡ second key m part
second_one key w m (is row) h = refl
second_one key w m (output made) h = refl
second_one key w m directory h = ap (behind_said key.place) h.0
second_one key w m compiler h = refl
second_one key w m (plan words) h = refl
second_one key w m (asked ask name) h = refl
second_one key w m (run words) h = refl
second_one key w m (run_else words) h = refl
second_one key w m (pch searched) h = refl
second_one key w m sources h = refl
second_one key w m times h = refl

fails_one : (key : Key) (w m : Machine) (part : Part) → Agree w m (second key m part) → fails w part ≡ fails m part
fails_one key w m (is row) h = refl
fails_one key w m (output made) h = refl
fails_one key w m directory h = refl
fails_one key w m compiler h = refl
fails_one key w m (plan words) h = refl
fails_one key w m (asked ask name) h = refl
fails_one key w m (run words) h = ap (λ it. is_none (unfailed it)) h.0
fails_one key w m (run_else words) h = refl
fails_one key w m (pch searched) h = refl
fails_one key w m sources h = refl
fails_one key w m times h = refl

third_one : (key : Key) (w m : Machine) → has_failed key w ≡ has_failed key m → (part : Part) → third key w part ≡ third key m part
third_one key w m e (is row) = refl
third_one key w m e (output made) = refl
third_one key w m e directory = refl
third_one key w m e compiler = refl
third_one key w m e (plan words) = refl
third_one key w m e (asked ask name) = refl
third_one key w m e (run words) = refl
third_one key w m e (run_else words) = ap (λ b. cond b (asked_run words) []) e
third_one key w m e (pch searched) = refl
third_one key w m e sources = refl
third_one key w m e times = refl

-- ---- where a run hides something

hides_by_one : (key : Key) (w m : Machine) (part : Part) → Agree w m (second key m part) → hides_by key w part ≡ hides_by key m part
hides_by_one key w m (is row) h = refl
hides_by_one key w m (output made) h = refl
hides_by_one key w m directory h = refl
hides_by_one key w m compiler h = refl
hides_by_one key w m (plan words) h = ap (λ it. is_none (unfailed it)) h.0
hides_by_one key w m (asked ask name) h = refl
hides_by_one key w m (run words) h = ap (λ it. hides (may_fail key) (unfailed it)) h.0
hides_by_one key w m (run_else words) h = refl
hides_by_one key w m (pch searched) h = refl
hides_by_one key w m sources h = refl
hides_by_one key w m times h = refl

else_hides : (w m : Machine) (words : List (List ℕ)) (b : Bool) → Agree w m (cond b (asked_run words) []) → (b && hides false (ran_on w words)) ≡ (b && hides false (ran_on m words))
else_hides w m words true h = ap (λ it. hides false (unfailed it)) h.0
else_hides w m words false h = refl

hides_else_one : (key : Key) (w m : Machine) → has_failed key w ≡ has_failed key m → (part : Part) → Agree w m (third key m part) → hides_else key w part ≡ hides_else key m part
hides_else_one key w m e (is row) h = refl
hides_else_one key w m e (output made) h = refl
hides_else_one key w m e directory h = refl
hides_else_one key w m e compiler h = refl
hides_else_one key w m e (plan words) h = refl
hides_else_one key w m e (asked ask name) h = refl
hides_else_one key w m e (run words) h = refl
hides_else_one key w m e (run_else words) h = ap (λ b. b && hides false (ran_on w words)) e ∙ else_hides w m words (has_failed key m) h
hides_else_one key w m e (pch searched) h = refl
hides_else_one key w m e sources h = refl
hides_else_one key w m e times h = refl

-- ---- what the runs show

else_shown : (w m : Machine) (words : List (List ℕ)) (b : Bool) → Agree w m (cond b (asked_run words) []) → cond b (text_on w words) None ≡ cond b (text_on m words) None
else_shown w m words true h = ap (λ it. option_map (λ it. it.output) (unfailed it)) h.0
else_shown w m words false h = refl

shown_by_one : (key : Key) (w m : Machine) → has_failed key w ≡ has_failed key m → (part : Part) → Agree w m (second key m part) → Agree w m (third key m part)
    → shown_by key w part ≡ shown_by key m part
shown_by_one key w m e (is row) k l = refl
shown_by_one key w m e (output made) k l = refl
shown_by_one key w m e directory k l = refl
shown_by_one key w m e compiler k l = refl
shown_by_one key w m e (plan words) k l = refl
shown_by_one key w m e (asked ask name) k l = refl
shown_by_one key w m e (run words) k l = ap (λ it. option_map (λ it. it.output) (unfailed it)) k.0
shown_by_one key w m e (run_else words) k l = ap (λ b. cond b (text_on w words) None) e ∙ else_shown w m words (has_failed key m) l
shown_by_one key w m e (pch searched) k l = refl
shown_by_one key w m e sources k l = refl
shown_by_one key w m e times k l = refl

shown_one : (key : Key) (w m : Machine) (parts : List Part) → has_failed key w ≡ has_failed key m → Agree w m (flat_map (second key m) parts) → Agree w m (flat_map (third key m) parts)
    → filter_map (shown_by key w) parts ≡ filter_map (shown_by key m) parts
shown_one key w m [] e k l = refl
shown_one key w m (part ∷ parts) e k l =
    let two = agree_both w m (second key m part) (flat_map (second key m) parts) k in
    let three = agree_both w m (third key m part) (flat_map (third key m) parts) l in
    ap (λ it. cons_option it (filter_map (shown_by key w) parts)) (shown_by_one key w m e part two.0 three.0)
    ∙ ap (cons_option (shown_by key m part)) (shown_one key w m parts e two.1 three.1)

-- ---- where precompiled headers may stand

folders_by_one : (w m : Machine) (variables : List (List ℕ)) → Agree w m (map env variables) → folders_by w variables ≡ folders_by m variables
folders_by_one w m [] h = refl
folders_by_one w m (name ∷ variables) h =
    ap (λ value. folders_in value ++ folders_by w variables) h.0 ∙ ap (λ folders. folders_in (m (env name)) ++ folders) (folders_by_one w m variables h.1)

searches_one : (w m : Machine) (searches : List (List (List ℕ))) → Agree w m (map asked_search searches) → all_folders_on w searches ≡ all_folders_on m searches
searches_one w m [] h = refl
searches_one w m (words ∷ searches) h =
    ap (λ it. folders_written (unfailed it) ++ all_folders_on w searches) h.0 ∙ ap (λ folders. folders_on m words ++ folders) (searches_one w m searches h.1)

-- the places, by the texts of the runs and by the folders that variables and the compiler name
abbrev places_from : Key → (texts folders others searched : List (List ℕ)) → List (List ℕ)
places_from key texts folders others searched =
    let them = flat_map leading_in texts ++ named (codes "header") searched in
    places_by key
    (each_once (named (codes "folder") searched ++ map folder_of them ++ map folder_of (named (codes "beside") searched) ++ folders ++ others))
    (each_once (flat_map included_as them)) (them ++ each_once (flat_map marked_in texts))

places_one : (key : Key) (w m : Machine) (searched : List (List ℕ)) → shown key w ≡ shown key m → Agree w m (map env (named (codes "variable") searched)) → Agree w m (map asked_search (searches key))
    → places key w searched ≡ places key m searched
places_one key w m searched e h k =
    ap (λ texts. places_from key texts (folders_by w (named (codes "variable") searched)) (all_folders_on w (searches key)) searched) e
    ∙ ap (λ folders. places_from key (shown key m) folders (all_folders_on w (searches key)) searched) (folders_by_one w m (named (codes "variable") searched) h)
    ∙ ap (λ others. places_from key (shown key m) (folders_by m (named (codes "variable") searched)) others searched) (searches_one w m (searches key) k)

-- ---- what the runs name

needed_asked_one : (key : Key) (w m : Machine) → shown key w ≡ shown key m → (ask : Ask) (name : List ℕ) → needed_asked key w ask name ≡ needed_asked key m ask name
needed_asked_one key w m e asks.Env name = refl
needed_asked_one key w m e asks.Unset name = refl
needed_asked_one key w m e asks.File name = refl
needed_asked_one key w m e asks.Maybe name = refl
needed_asked_one key w m e asks.Regular name = refl
needed_asked_one key w m e asks.SourcesIfShown name = ap (λ texts. needed_if (is_shown name texts) (each_once (flat_map marked_in texts ++ filter_map input_of key.parts))) e
needed_asked_one key w m e asks.RefuseIfShown name = ap (λ texts. if length (each_once (flat_map marked_in texts)) == 0 then filter_map input_of key.parts else []) e

needed_one : (key : Key) (w m : Machine) → shown key w ≡ shown key m → (part : Part) → shown_by key w part ≡ shown_by key m part → Agree w m (first key part) → Agree w m (second key m part) → needed key w part ≡ needed key m part
needed_one key w m e (is row) own h k = refl
needed_one key w m e (output made) own h k = refl
needed_one key w m e directory own h k = refl
needed_one key w m e compiler own h k = refl
needed_one key w m e (plan words) own h k = ap (λ it. needed_by key (unfailed it)) k.0
needed_one key w m e (asked ask name) own h k = needed_asked_one key w m e ask name
needed_one key w m e (run words) own h k = ap read_by own
needed_one key w m e (run_else words) own h k = ap read_by own
needed_one key w m e (pch searched) own h k = places_one key w m searched e h k
needed_one key w m e sources own h k = ap (λ texts. each_once (flat_map marked_in texts ++ filter_map input_of key.parts)) e
needed_one key w m e times own h k = ap (λ texts. each_once (flat_map marked_in texts)) e

called_one : (key : Key) (w m : Machine) (part : Part) → Agree w m (second key m part) → called w part ≡ called m part
called_one key w m (is row) k = refl
called_one key w m (output made) k = refl
called_one key w m directory k = refl
called_one key w m compiler k = refl
called_one key w m (plan words) k = ap (λ it. called_by_plan (unfailed it)) k.0
called_one key w m (asked ask name) k = refl
called_one key w m (run words) k = refl
called_one key w m (run_else words) k = refl
called_one key w m (pch searched) k = refl
called_one key w m sources k = refl
called_one key w m times k = refl

fourth_one : (key : Key) (w m : Machine) (part : Part) → has_failed key w ≡ has_failed key m → shown key w ≡ shown key m → Agree w m (first key part)
    → Agree w m (second key m part) → Agree w m (third key m part) → fourth key w part ≡ fourth key m part
fourth_one key w m part e texts h k l =
    ap (λ names. map program names ++ map file (needed key w part)) (called_one key w m part k)
    ∙ ap (λ names. map program (called m part) ++ map file names) (needed_one key w m texts part (shown_by_one key w m e part k l) h k)

-- ---- what is asked of files that are there

details_one : (detail : Detail) (w m : Machine) (paths : List (List ℕ)) → Agree w m (map file paths) → details_asked detail w paths ≡ details_asked detail m paths
details_one detail w m [] h = refl
details_one detail w m (path ∷ paths) h =
    ap (λ it. detail_by detail path it ++ details_asked detail w paths) h.0 ∙ ap (λ qs. detail_asked detail m path ++ qs) (details_one detail w m paths h.1)

fifth_asked_one : (key : Key) (w m : Machine) → shown key w ≡ shown key m → (ask : Ask) (name : List ℕ) → Agree w m (map file (needed_asked key m ask name)) → fifth_asked key w ask ≡ fifth_asked key m ask
fifth_asked_one key w m e asks.Env name h = refl
fifth_asked_one key w m e asks.Unset name h = refl
fifth_asked_one key w m e asks.File name h = refl
fifth_asked_one key w m e asks.Maybe name h = refl
fifth_asked_one key w m e asks.Regular name h = refl
fifth_asked_one key w m e asks.SourcesIfShown name h = refl
fifth_asked_one key w m e asks.RefuseIfShown name h =
    ap (λ texts. details_asked details.Content w (if length (each_once (flat_map marked_in texts)) == 0 then filter_map input_of key.parts else [])) e
    ∙ details_one details.Content w m (unmarked key m) h

fifth_one : (key : Key) (w m : Machine) → shown key w ≡ shown key m → (part : Part) → Agree w m (first key part) → Agree w m (second key m part) → Agree w m (fourth key m part) → fifth key w part ≡ fifth key m part
fifth_one key w m e (is row) h k n = refl
fifth_one key w m e (output made) h k n = refl
fifth_one key w m e directory h k n = refl
fifth_one key w m e compiler h k n = refl
fifth_one key w m e (plan words) h k n = refl
fifth_one key w m e (asked ask name) h k n = fifth_asked_one key w m e ask name n
fifth_one key w m e (run words) h k n = refl
fifth_one key w m e (run_else words) h k n = refl
fifth_one key w m e (pch searched) h k n = ap (details_asked details.Names w) (places_one key w m searched e h k) ∙ details_one details.Names w m (places key m searched) n
fifth_one key w m e sources h k n = refl
fifth_one key w m e times h k n = ap (λ texts. details_asked details.Times w (each_once (flat_map marked_in texts))) e ∙ details_one details.Times w m (marked key m) n

-- ---- what is asked of what is in folders

inside_by_one : (w m : Machine) (path : List ℕ) (it : Standing) → Agree w m (detail_by details.Names path it)
    → cond (is_folder it) (map (join path) (w (names_in path))) [] ≡ cond (is_folder it) (map (join path) (m (names_in path))) []
inside_by_one w m path (regular sum) h = refl
inside_by_one w m path folder h = ap (map (join path)) h.0
inside_by_one w m path special h = refl
inside_by_one w m path missing h = refl

insides_one : (w m : Machine) (paths : List (List ℕ)) → Agree w m (map file paths) → Agree w m (details_asked details.Names m paths) → all_inside w paths ≡ all_inside m paths
insides_one w m [] n o = refl
insides_one w m (path ∷ paths) n o =
    let it = agree_both w m (detail_asked details.Names m path) (details_asked details.Names m paths) o in
    ap (λ them. them ++ all_inside w paths) (ap (λ it. cond (is_folder it) (map (join path) (w (names_in path))) []) n.0 ∙ inside_by_one w m path (m (file path)) it.0)
    ∙ ap (λ them. inside m path ++ them) (insides_one w m paths n.1 it.1)

sixth_one : (key : Key) (w m : Machine) → shown key w ≡ shown key m → (part : Part) → Agree w m (first key part) → Agree w m (second key m part) → Agree w m (fourth key m part) → Agree w m (fifth key m part)
    → sixth key w part ≡ sixth key m part
sixth_one key w m e (is row) h k n o = refl
sixth_one key w m e (output made) h k n o = refl
sixth_one key w m e directory h k n o = refl
sixth_one key w m e compiler h k n o = refl
sixth_one key w m e (plan words) h k n o = refl
sixth_one key w m e (asked ask name) h k n o = refl
sixth_one key w m e (run words) h k n o = refl
sixth_one key w m e (run_else words) h k n o = refl
sixth_one key w m e (pch searched) h k n o =
    ap (λ paths. map file (all_inside w paths)) (places_one key w m searched e h k) ∙ ap (map file) (insides_one w m (places key m searched) n o)
sixth_one key w m e sources h k n o = refl
sixth_one key w m e times h k n o = refl

-- ---- answers

files_one : (w m : Machine) (names : List (List ℕ)) → Agree w m (map file names) → all_there (map (file_row w) names) ≡ all_there (map (file_row m) names)
files_one w m [] h = refl
files_one w m (name ∷ names) h =
    ap (λ it. option_map (λ values. values.0 ∷ values.1) (option_zip (option_map (λ answer. said name ∷ answer) (maybe_told it)) (all_there (map (file_row w) names)))) h.0
    ∙ ap (λ rows. option_map (λ values. values.0 ∷ values.1) (option_zip (file_row m name) rows)) (files_one w m names h.1)

times_by_one : (w m : Machine) (name : List ℕ) (it : Standing) → Agree w m (detail_by details.Times name it) → times_by w name it ≡ times_by m name it
times_by_one w m name (regular sum) h = ap (λ stamp. Some (said name ∷ said stamp ∷ [])) h.0
times_by_one w m name folder h = refl
times_by_one w m name special h = refl
times_by_one w m name missing h = refl

times_one : (w m : Machine) (names : List (List ℕ)) → Agree w m (map file names) → Agree w m (details_asked details.Times m names) → all_there (map (times_row w) names) ≡ all_there (map (times_row m) names)
times_one w m [] h k = refl
times_one w m (name ∷ names) h k =
    let it = agree_both w m (detail_asked details.Times m name) (details_asked details.Times m names) k in
    ap (λ row. option_map (λ values. values.0 ∷ values.1) (option_zip row (all_there (map (times_row w) names)))) (ap (times_by w name) h.0 ∙ times_by_one w m name (m (file name)) it.0)
    ∙ ap (λ rows. option_map (λ values. values.0 ∷ values.1) (option_zip (times_row m name) rows)) (times_one w m names h.1 it.1)

agree_apart : (w m : Machine) (paths more : List (List ℕ)) → Agree w m (map file (paths ++ more)) → Agree w m (map file paths) × Agree w m (map file more)
agree_apart w m [] more h = (tt, h)
agree_apart w m (path ∷ paths) more h = let rest = agree_apart w m paths more h.1 in ((h.0, rest.0), rest.1)

flaws_one : (flaw : Flaw) (w m : Machine) (names : List (List ℕ)) → Agree w m (map file names) → any_flawed flaw w names ≡ any_flawed flaw m names
flaws_one flaw w m [] h = refl
flaws_one flaw w m (name ∷ names) h = ap (λ it. has_flaw flaw it || any_flawed flaw w names) h.0 ∙ ap (λ b. has_flaw flaw (m (file name)) || b) (flaws_one flaw w m names h.1)

sound_one : (w m : Machine) (text : List ℕ) → Agree w m (map file (marked_in text)) → Agree w m (map file (entered_in text)) → is_sound w text ≡ is_sound m text
sound_one w m text h k =
    ap (λ b. names_sources text && not (b || any_flawed flaws.Gone w (entered_in text))) (flaws_one flaws.Special w m (marked_in text) h)
    ∙ ap (λ b. names_sources text && not (any_flawed flaws.Special m (marked_in text) || b)) (flaws_one flaws.Gone w m (entered_in text) k)

reads_one : (w m : Machine) (may : Bool) (it : Option Written) → Agree w m (map file (read_by (option_map (λ it. it.output) it))) → run_told w may it ≡ run_told m may it
reads_one w m may None h = refl
reads_one w m may (Some it) h =
    let both = agree_apart w m (loaded_in it.output ++ marked_in it.output) (entered_in it.output) h in
    let named = agree_apart w m (loaded_in it.output) (marked_in it.output) both.0 in
    ap (λ b. cond b (option_map (λ headers. outputs_told it ++ headers) (files_told w (loaded_in it.output))) None) (sound_one w m it.output named.1 both.1)
    ∙ ap (λ rows. cond (is_sound m it.output) (option_map (λ headers. outputs_told it ++ headers) (option_map in_one rows)) None) (files_one w m (loaded_in it.output) named.0)

run_one : (w m : Machine) (words : List (List ℕ)) (may : Bool) → w (run_asked [] words) ≡ m (run_asked [] words) → Agree w m (map file (read_by (text_on m words)))
    → run_told w may (ran_on w words) ≡ run_told m may (ran_on m words)
run_one w m words may h k = ap (λ it. run_told w may (unfailed it)) h ∙ reads_one w m may (ran_on m words) k

else_one : (w m : Machine) (words : List (List ℕ)) (b : Bool) → Agree w m (cond b (asked_run words) []) → Agree w m (map file (read_by (cond b (text_on m words) None)))
    → cond b (run_told w false (ran_on w words)) (Some no_text) ≡ cond b (run_told m false (ran_on m words)) (Some no_text)
else_one w m words true h k = run_one w m words false h.0 k
else_one w m words false h k = refl

there_one : (w m : Machine) (names : List (List ℕ)) → Agree w m (map file names) → all_there (map (there_row w) names) ≡ all_there (map (there_row m) names)
there_one w m [] h = refl
there_one w m (name ∷ names) h =
    ap (λ it. option_map (λ values. values.0 ∷ values.1) (option_zip (there_by name it) (all_there (map (there_row w) names)))) h.0
    ∙ ap (λ rows. option_map (λ values. values.0 ∷ values.1) (option_zip (there_row m name) rows)) (there_one w m names h.1)

programs_one : (w m : Machine) (names : List (List ℕ)) → Agree w m (map program names) → programs_told w names ≡ programs_told m names
programs_one w m [] h = refl
programs_one w m (name ∷ names) h = ap (λ it. program_row name it ++ programs_told w names) h.0 ∙ ap (λ row. program_row name (m (program name)) ++ row) (programs_one w m names h.1)

plan_told_one : (key : Key) (w m : Machine) (it : Option Written) → Agree w m (map program (called_by_plan it) ++ map file (needed_by key it))
    → option_and_then (λ it. plan_told key w it.messages) it ≡ option_and_then (λ it. plan_told key m it.messages) it
plan_told_one key w m None n = refl
plan_told_one key w m (Some it) n =
    let both = agree_both w m (map program (called_in it.messages)) (map file (files_in_plan key it.messages)) n in
    ap (λ rows. option_map (λ files. said (cleaned it.messages) ∷ files ++ programs_told w (called_in it.messages)) (option_map in_one rows)) (there_one w m (files_in_plan key it.messages) both.1)
    ∙ ap (λ programs. option_map (λ files. said (cleaned it.messages) ∷ files ++ programs) (there_told m (files_in_plan key it.messages))) (programs_one w m (called_in it.messages) both.0)

plan_one : (key : Key) (w m : Machine) (words : List (List ℕ)) → w (asked_plan words) ≡ m (asked_plan words) → Agree w m (fourth key m (plan words)) → answer_on key w (plan words) ≡ answer_on key m (plan words)
plan_one key w m words k n = ap (λ it. option_and_then (λ it. plan_told key w it.messages) (unfailed it)) k ∙ plan_told_one key w m (planned_on m words) n

told_if_one : (w m : Machine) (names : List (List ℕ)) (is_there : Option Bool) → Agree w m (map file (needed_if is_there names)) → told_if w is_there names ≡ told_if m is_there names
told_if_one w m names None h = refl
told_if_one w m names (Some true) h = ap (option_map in_one) (files_one w m names h)
told_if_one w m names (Some false) h = refl

content_by_one : (w m : Machine) (name : List ℕ) (it : Standing) → Agree w m (detail_by details.Content name it) → cond (is_regular it) (w (bytes name)) None ≡ cond (is_regular it) (m (bytes name)) None
content_by_one w m name (regular sum) h = h.0
content_by_one w m name folder h = refl
content_by_one w m name special h = refl
content_by_one w m name missing h = refl

contents_one : (w m : Machine) (names : List (List ℕ)) → Agree w m (map file names) → Agree w m (details_asked details.Content m names) → filter_map (content_at w) names ≡ filter_map (content_at m) names
contents_one w m [] h k = refl
contents_one w m (name ∷ names) h k =
    let it = agree_both w m (detail_asked details.Content m name) (details_asked details.Content m names) k in
    ap (λ text. cons_option text (filter_map (content_at w) names)) (ap (λ it. cond (is_regular it) (w (bytes name)) None) h.0 ∙ content_by_one w m name (m (file name)) it.0)
    ∙ ap (cons_option (content_at m name)) (contents_one w m names h.1 it.1)

searched_one : (key : Key) (w m : Machine) → shown key w ≡ shown key m → Agree w m (map file (unmarked key m)) → Agree w m (details_asked details.Content m (unmarked key m)) → searched key w ≡ searched key m
searched_one key w m t n o =
    ap (λ texts. texts ++ filter_map (content_at w) (if length (each_once (flat_map marked_in texts)) == 0 then filter_map input_of key.parts else [])) t
    ∙ ap (λ more. shown key m ++ more) (contents_one w m (unmarked key m) n o)

asked_one : (key : Key) (w m : Machine) → shown key w ≡ shown key m → (ask : Ask) (name : List ℕ) → Agree w m (first_asked key ask name) → Agree w m (map file (needed_asked key m ask name))
    → Agree w m (fifth_asked key m ask) → answer_asked key w ask name ≡ answer_asked key m ask name
asked_one key w m t asks.Env name h n o = ap (λ it. Some (value_told it)) h.0
asked_one key w m t asks.Unset name h n o = ap unset_told h.0
asked_one key w m t asks.File name h n o = ap file_told h.0
asked_one key w m t asks.Maybe name h n o = maybe_one w m name (is_made key name) h
asked_one key w m t asks.Regular name h n o = ap regular_told h.0
asked_one key w m t asks.SourcesIfShown name h n o =
    ap (λ texts. told_if w (is_shown name texts) (each_once (flat_map marked_in texts ++ filter_map input_of key.parts))) t
    ∙ told_if_one w m (all_sources key m) (is_shown name (shown key m)) n
asked_one key w m t asks.RefuseIfShown name h n o = ap (λ texts. refused_told (is_refused name texts)) (searched_one key w m t n o)

-- ---- precompiled headers

any_there_one : (w m : Machine) (paths : List (List ℕ)) → Agree w m (map file paths) → any_there w paths ≡ any_there m paths
any_there_one w m [] h = refl
any_there_one w m (path ∷ paths) h = ap (λ it. is_there it || any_there w paths) h.0 ∙ ap (λ b. is_there (m (file path)) || b) (any_there_one w m paths h.1)

agree_more : (w m : Machine) (paths more : List (List ℕ)) → Agree w m (map file paths) → Agree w m (map file more) → Agree w m (map file (paths ++ more))
agree_more w m [] more h k = k
agree_more w m (path ∷ paths) more h k = (h.0, agree_more w m paths more h.1 k)

headers_one : (key : Key) (w m : Machine) (paths : List (List ℕ)) → Agree w m (map file paths) → Agree w m (details_asked details.Names m paths) → Agree w m (map file (all_inside m paths))
    → headers_told key w paths ≡ headers_told key m paths
headers_one key w m paths n o p =
    ap (λ b. cond b (option_map (λ files. words_told key ∷ files) (files_told w (paths ++ all_inside w paths))) (Some [])) (any_there_one w m paths n)
    ∙ ap (λ more. cond (any_there m paths) (option_map (λ files. words_told key ∷ files) (files_told w (paths ++ more))) (Some [])) (insides_one w m paths n o)
    ∙ ap (λ rows. cond (any_there m paths) (option_map (λ files. words_told key ∷ files) (option_map in_one rows)) (Some []))
    (files_one w m (paths ++ all_inside m paths) (agree_more w m paths (all_inside m paths) n p))

-- ---- lists

naming_one : (key : Key) (w m : Machine) → shown key w ≡ shown key m → naming key w ≡ naming key m
naming_one key w m t = ap (λ texts. each_once (each_once (flat_map marked_in texts ++ filter_map input_of key.parts) ++ headers_named key)) t

content_one : (w m : Machine) (name : List ℕ) → w (file name) ≡ m (file name) → Agree w m (detail_asked details.Content m name) → content_at w name ≡ content_at m name
content_one w m name h k = ap (λ it. cond (is_regular it) (w (bytes name)) None) h ∙ content_by_one w m name (m (file name)) k

by_content_one : (f : List ℕ → Option (List ℕ) → List (List ℕ)) (w m : Machine) (names : List (List ℕ)) → Agree w m (map file names) → Agree w m (details_asked details.Content m names)
    → flat_map (λ name. f name (content_at w name)) names ≡ flat_map (λ name. f name (content_at m name)) names
by_content_one f w m [] h k = refl
by_content_one f w m (name ∷ names) h k =
    let it = agree_both w m (detail_asked details.Content m name) (details_asked details.Content m names) k in
    ap (λ text. f name text ++ flat_map (λ name. f name (content_at w name)) names) (content_one w m name h.0 it.0)
    ∙ ap (λ rest. f name (content_at m name) ++ rest) (by_content_one f w m names h.1 it.1)

candidates_one : (key : Key) (w m : Machine) → shown key w ≡ shown key m → Agree w m (map asked_search (searches key)) → Agree w m (map file (naming key m)) → Agree w m (details_asked details.Content m (naming key m))
    → candidates key w ≡ candidates key m
candidates_one key w m t k n o =
    let files = naming key m in
    let headers = headers_named key in
    ap (candidates_from key w) (naming_one key w m t)
    ∙ ap (λ folders. candidates_by folders (headers ++ flat_map (names_on w) files) (flat_map (beside_on w) files)) (searches_one w m (searches key) k)
    ∙ ap (λ names. candidates_by (all_folders_on m (searches key)) (headers ++ names) (flat_map (beside_on w) files)) (by_content_one (λ name text. names_by text) w m files n o)
    ∙ ap (candidates_by (all_folders_on m (searches key)) (headers ++ flat_map (names_on m) files)) (by_content_one beside_by w m files n o)

files_listed_one : (key : Key) (w m : Machine) (b : Bool) → shown key w ≡ shown key m → cond b (listed_files key phases.Files w) [] ≡ cond b (listed_files key phases.Files m) []
files_listed_one key w m b t =
    ap (λ texts. let files = each_once (flat_map marked_in texts ++ filter_map input_of key.parts) in cond b (map file files ++ map file (each_once (files ++ headers_named key))) []) t

-- where the files that name others are answered alike
record AreNamed (key : Key) (w m : Machine) : Type 0 where
  files : Agree w m (map file (all_sources key m))
  names : Agree w m (map file (naming key m))

are_named : (key : Key) (w m : Machine) → Agree w m (listed_files key phases.Files m) → AreNamed key w m
are_named key w m n = let it = agree_both w m (map file (all_sources key m)) (map file (naming key m)) n in record { files = it.0; names = it.1 }

details_listed_one : (key : Key) (w m : Machine) (b : Bool) → shown key w ≡ shown key m → Agree w m (cond b (listed_files key phases.Files m) [])
    → cond b (listed_files key phases.Details w) [] ≡ cond b (listed_files key phases.Details m) []
details_listed_one key w m true t n = ap (details_asked details.Content w) (naming_one key w m t) ∙ details_one details.Content w m (naming key m) (are_named key w m n).names
details_listed_one key w m false t n = refl

inside_listed_one : (key : Key) (w m : Machine) (b : Bool) → shown key w ≡ shown key m → Agree w m (map asked_search (searches key)) → Agree w m (cond b (listed_files key phases.Files m) [])
    → Agree w m (cond b (listed_files key phases.Details m) []) → cond b (listed_files key phases.Inside w) [] ≡ cond b (listed_files key phases.Inside m) []
inside_listed_one key w m true t k n o =
    ap (λ folders. map real folders ++ map file (candidates key w)) (searches_one w m (searches key) k)
    ∙ ap (λ paths. map real (all_folders_on m (searches key)) ++ map file paths) (candidates_one key w m t k (are_named key w m n).names o)
inside_listed_one key w m false t k n o = refl

regular_one : (w m : Machine) (names : List (List ℕ)) → Agree w m (map file names) → all_regular w names ≡ all_regular m names
regular_one w m [] h = refl
regular_one w m (name ∷ names) h = ap (λ it. is_regular it && all_regular w names) h.0 ∙ ap (λ b. is_regular (m (file name)) && b) (regular_one w m names h.1)

any_hides_one : (w m : Machine) (names : List (List ℕ)) → Agree w m (map file names) → Agree w m (details_asked details.Content m names) → any_hides w names ≡ any_hides m names
any_hides_one w m [] h k = refl
any_hides_one w m (name ∷ names) h k =
    let it = agree_both w m (detail_asked details.Content m name) (details_asked details.Content m names) k in
    ap (λ text. hides_name text || any_hides w names) (content_one w m name h.0 it.0) ∙ ap (λ b. hides_name (content_at m name) || b) (any_hides_one w m names h.1 it.1)

all_named_one : (w m : Machine) (searches : List (List (List ℕ))) → Agree w m (map asked_search searches) → are_all_named w searches ≡ are_all_named m searches
all_named_one w m [] h = refl
all_named_one w m (words ∷ searches) h = ap (λ it. names_all (unfailed it) && are_all_named w searches) h.0 ∙ ap (λ b. names_all (unfailed (m (asked_search words))) && b) (all_named_one w m searches h.1)

-- what is left of `is_listed` where the compiler names the folders
abbrev listed_rest : Key → (are_named are_regular hides : Bool) → Bool
listed_rest key are_named are_regular hides = not (list_any has_loose key.parts) && (are_named && (are_regular && not hides))

abbrev listed_on : Key → Machine → (files names : List (List ℕ)) → Bool
listed_on key m files names = listed_rest key (are_all_named m (searches key)) (all_regular m files) (any_hides m names)

listed_one : (key : Key) (w m : Machine) (b : Bool) → shown key w ≡ shown key m → Agree w m (map asked_search (searches key)) → Agree w m (cond b (listed_files key phases.Files m) [])
    → Agree w m (cond b (listed_files key phases.Details m) []) → (b && listed_on key w (all_sources key w) (naming key w)) ≡ (b && listed_on key m (all_sources key m) (naming key m))
listed_one key w m true t k n o =
    let it = are_named key w m n in
    ap (λ texts. let files = each_once (flat_map marked_in texts ++ filter_map input_of key.parts) in listed_on key w files (each_once (files ++ headers_named key))) t
    ∙ ap (λ b. listed_rest key b (all_regular w (all_sources key m)) (any_hides w (naming key m))) (all_named_one w m (searches key) k)
    ∙ ap (λ b. listed_rest key (are_all_named m (searches key)) b (any_hides w (naming key m))) (regular_one w m (all_sources key m) it.files)
    ∙ ap (listed_rest key (are_all_named m (searches key)) (all_regular m (all_sources key m))) (any_hides_one w m (naming key m) it.names o)
listed_one key w m false t k n o = refl

-- ---- all answers

-- both answer alike what each round asks for these parts
record AreAlike (key : Key) (w m : Machine) (parts : List Part) : Type 0 where
  one : Agree w m (flat_map (first key) parts)
  two : Agree w m (flat_map (second key m) parts)
  three : Agree w m (flat_map (third key m) parts)
  four : Agree w m (flat_map (fourth key m) parts)
  five : Agree w m (flat_map (fifth key m) parts)
  six : Agree w m (flat_map (sixth key m) parts)

answer_one : (key : Key) (w m : Machine) → has_failed key w ≡ has_failed key m → shown key w ≡ shown key m → (part : Part) → Agree w m (first key part) → Agree w m (second key m part)
    → Agree w m (third key m part) → Agree w m (fourth key m part) → Agree w m (fifth key m part) → Agree w m (sixth key m part) → answer_on key w part ≡ answer_on key m part
answer_one key w m e t (is row) h k l n o p = refl
answer_one key w m e t (output made) h k l n o p = refl
answer_one key w m e t directory h k l n o p = ap (λ it. Some (said it ∷ [])) (directory_one w m key.place h.0 k)
answer_one key w m e t compiler h k l n o p = ap program_told h.0
answer_one key w m e t (plan words) h k l n o p = plan_one key w m words k.0 n
answer_one key w m e t (asked ask name) h k l n o p = asked_one key w m t ask name h n o
answer_one key w m e t (run words) h k l n o p = run_one w m words (may_fail key) k.0 n
answer_one key w m e t (run_else words) h k l n o p =
    ap (λ b. cond b (run_told w false (ran_on w words)) (Some no_text)) e ∙ else_one w m words (has_failed key m) l n
answer_one key w m e t (pch searched) h k l n o p = ap (headers_told key w) (places_one key w m searched t h k) ∙ headers_one key w m (places key m searched) n o p
answer_one key w m e t sources h k l n o p =
    ap (λ texts. files_told w (each_once (flat_map marked_in texts ++ filter_map input_of key.parts))) t ∙ ap (option_map in_one) (files_one w m (all_sources key m) n)
answer_one key w m e t times h k l n o p =
    ap (λ texts. times_told w (each_once (flat_map marked_in texts))) t ∙ ap (option_map in_one) (times_one w m (marked key m) n o)

-- ---- rows

rows_one : (key : Key) (w m : Machine) (parts : List Part) → has_failed key w ≡ has_failed key m → shown key w ≡ shown key m → AreAlike key w m parts
    → all_there (map (row_on key w) parts) ≡ all_there (map (row_on key m) parts)
rows_one key w m [] e t alike = refl
rows_one key w m (part ∷ parts) e t alike =
    let one = agree_both w m (first key part) (flat_map (first key) parts) alike.one in
    let two = agree_both w m (second key m part) (flat_map (second key m) parts) alike.two in
    let three = agree_both w m (third key m part) (flat_map (third key m) parts) alike.three in
    let four = agree_both w m (fourth key m part) (flat_map (fourth key m) parts) alike.four in
    let five = agree_both w m (fifth key m part) (flat_map (fifth key m) parts) alike.five in
    let six = agree_both w m (sixth key m part) (flat_map (sixth key m) parts) alike.six in
    let rest : AreAlike key w m parts = record { one = one.1; two = two.1; three = three.1; four = four.1; five = five.1; six = six.1 } in
    ap (λ row. option_map (λ values. values.0 ∷ values.1) (option_zip row (all_there (map (row_on key w) parts))))
    (ap (option_map (row_by part)) (answer_one key w m e t part one.0 two.0 three.0 four.0 five.0 six.0))
    ∙ ap (λ rows. option_map (λ values. values.0 ∷ values.1) (option_zip (row_on key m part) rows)) (rows_one key w m parts e t rest)

-- ---- keys

same_some : {A : Type 0} (a b : List A) → Some a ≡ Some b → a ≡ b
same_some a b e = ap (λ o. unwrap_or o []) e

some_by : {A : Type 0} (b : Bool) (questions others : List A) → cond b None (Some questions) ≡ Some others → questions ≡ others
some_by true questions others e = absurd (cc)
some_by false questions others e = same_some questions others e

-- both answer alike what a round asked, and what was asked before it
agree_round : (w m : Machine) (before questions others : List Question) → questions ≡ others → Agree w m (joined before others) → Agree w m before × Agree w m questions
agree_round w m before questions others e h = let it = agree_joined w m before others h in (it.0, subst (Agree w m) (sym e) it.1)

is_forbidden_one : (key : Key) (w m : Machine) → Agree w m (flat_map (first key) key.parts) → is_forbidden key w ≡ is_forbidden key m
is_forbidden_one key w m h = any_one w m (first key) (forbids key w) (forbids key m) key.parts (forbids_one key w m) h

has_failed_one : (key : Key) (w m : Machine) → Agree w m (flat_map (second key m) key.parts) → has_failed key w ≡ has_failed key m
has_failed_one key w m h = any_one w m (second key m) (fails w) (fails m) key.parts (fails_one key w m) h

-- where all that three rounds asked is answered alike, so do the runs
has_shown_one : (key : Key) (w m : Machine) → Agree w m (flat_map (second key m) key.parts) → Agree w m (flat_map (third key m) key.parts) → shown key w ≡ shown key m
has_shown_one key w m k l = shown_one key w m key.parts (has_failed_one key w m k) k l

is_hidden_one : (key : Key) (w m : Machine) → Agree w m (flat_map (second key m) key.parts) → is_hidden key w ≡ is_hidden key m
is_hidden_one key w m k = any_one w m (second key m) (hides_by key w) (hides_by key m) key.parts (hides_by_one key w m) k

is_hidden_else_one : (key : Key) (w m : Machine) → Agree w m (flat_map (second key m) key.parts) → Agree w m (flat_map (third key m) key.parts) → is_hidden_else key w ≡ is_hidden_else key m
is_hidden_else_one key w m k l = any_one w m (third key m) (hides_else key w) (hides_else key m) key.parts (hides_else_one key w m (has_failed_one key w m k)) l

-- ---- what was asked before a round, and is answered alike

-- all that a round asks
abbrev all_asked : Key → Phase → Machine → List Question
all_asked key phase m = flat_map (asked_in key phase m) key.parts ++ listed_in key phase m

-- in three rounds
record AfterThree (key : Key) (w m : Machine) : Type 0 where
  ones : Agree w m (flat_map (first key) key.parts)
  twos : Agree w m (flat_map (second key m) key.parts)
  named : Agree w m (map asked_search (searches key))
  threes : Agree w m (flat_map (third key m) key.parts)

after_three : (key : Key) (w m : Machine) (ones twos threes : List Question) → all_asked key phases.First m ≡ ones → all_asked key phases.Runs m ≡ twos → all_asked key phases.RunsElse m ≡ threes
    → Agree w m (joined (joined (joined [] ones) twos) threes) → AfterThree key w m
after_three key w m ones twos threes one two three agree =
    let l = agree_round w m (joined (joined [] ones) twos) (all_asked key phases.RunsElse m) threes three agree in
    let k = agree_round w m (joined [] ones) (all_asked key phases.Runs m) twos two l.0 in
    let h = agree_round w m [] (all_asked key phases.First m) ones one k.0 in
    let third_parts = agree_both w m (flat_map (third key m) key.parts) [] l.1 in
    let second_parts = agree_both w m (flat_map (second key m) key.parts) (map asked_search (searches key)) k.1 in
    let first_parts = agree_both w m (flat_map (first key) key.parts) (map env (variables key)) h.1 in
    record { ones = first_parts.0; twos = second_parts.0; named = second_parts.1; threes = third_parts.0 }

-- what each round of files asks

fourths_one : (key : Key) (w m : Machine) → AfterThree key w m → all_asked key phases.Files w ≡ all_asked key phases.Files m
fourths_one key w m it =
    let t = has_shown_one key w m it.twos it.threes in
    ap (λ qs. qs ++ listed_in key phases.Files w)
    (all_by_four w m (first key) (second key m) (third key m) (third key m) (fourth key w) (fourth key m) key.parts
    (λ part h k l again. fourth_one key w m part (has_failed_one key w m it.twos) t h k l)
    it.ones it.twos it.threes it.threes)
    ∙ ap (λ qs. flat_map (fourth key m) key.parts ++ qs) (files_listed_one key w m (is_searched key) t)

-- in four, and for a list
record AfterFour (key : Key) (w m : Machine) : Type 0 where
  fours : Agree w m (flat_map (fourth key m) key.parts)
  files : Agree w m (listed_in key phases.Files m)

after_four : (key : Key) (w m : Machine) → Agree w m (all_asked key phases.Files m) → AfterFour key w m
after_four key w m n = let it = agree_both w m (flat_map (fourth key m) key.parts) (listed_in key phases.Files m) n in record { fours = it.0; files = it.1 }

fifths_one : (key : Key) (w m : Machine) → AfterThree key w m → AfterFour key w m → all_asked key phases.Details w ≡ all_asked key phases.Details m
fifths_one key w m it n =
    let t = has_shown_one key w m it.twos it.threes in
    ap (λ qs. qs ++ listed_in key phases.Details w)
    (all_by_four w m (first key) (second key m) (fourth key m) (fourth key m) (fifth key w) (fifth key m) key.parts
    (λ part h k n again. fifth_one key w m t part h k n)
    it.ones it.twos n.fours n.fours)
    ∙ ap (λ qs. flat_map (fifth key m) key.parts ++ qs) (details_listed_one key w m (is_searched key) t n.files)

-- in five
record AfterFive (key : Key) (w m : Machine) : Type 0 where
  fives : Agree w m (flat_map (fifth key m) key.parts)
  details : Agree w m (listed_in key phases.Details m)

after_five : (key : Key) (w m : Machine) → Agree w m (all_asked key phases.Details m) → AfterFive key w m
after_five key w m o = let it = agree_both w m (flat_map (fifth key m) key.parts) (listed_in key phases.Details m) o in record { fives = it.0; details = it.1 }

sixths_one : (key : Key) (w m : Machine) → AfterThree key w m → AfterFour key w m → AfterFive key w m → all_asked key phases.Inside w ≡ all_asked key phases.Inside m
sixths_one key w m it n o =
    let t = has_shown_one key w m it.twos it.threes in
    ap (λ qs. qs ++ listed_in key phases.Inside w)
    (all_by_four w m (first key) (second key m) (fourth key m) (fifth key m) (sixth key w) (sixth key m) key.parts
    (λ part h k n o. sixth_one key w m t part h k n o)
    it.ones it.twos n.fours o.fives)
    ∙ ap (λ qs. flat_map (sixth key m) key.parts ++ qs) (inside_listed_one key w m (is_searched key) t it.named n.files o.details)

all_rows_one : (key : Key) (w m : Machine) → AfterThree key w m → AfterFour key w m → AfterFive key w m → Agree w m (all_asked key phases.Inside m) → outcome_on key w ≡ outcome_on key m
all_rows_one key w m it n o p =
    let t = has_shown_one key w m it.twos it.threes in
    let sixes = agree_both w m (flat_map (sixth key m) key.parts) (listed_in key phases.Inside m) p in
    ap (option_map (outcome_by key w))
    (rows_one key w m key.parts (has_failed_one key w m it.twos) t
    (record { one = it.ones; two = it.twos; three = it.threes; four = n.fours; five = o.fives; six = sixes.0 }))
    ∙ ap (λ b. let outcome : List Row → Outcome = λ rows. record { rows = rows; is_listed = b } in option_map outcome (rows_on key m)) (listed_one key w m (is_searched key) t it.named n.files o.details)

-- ---- the rounds of files, and the rows

decided_behind : (key : Key) (m : Machine) (ones twos threes : List Question) → all_asked key phases.First m ≡ ones → all_asked key phases.Runs m ≡ twos → all_asked key phases.RunsElse m ≡ threes
    → AreDecided m (outcome_on key) (stage key phases.Files ∷ stage key phases.Details ∷ stage key phases.Inside ∷ []) (joined (joined (joined [] ones) twos) threes)
decided_behind key m ones twos threes one two three = (
  λ w agree.
      let it = after_three key w m ones twos threes one two three agree in
      ap (λ b. cond b None (Some (all_asked key phases.Files w))) (is_hidden_else_one key w m it.twos it.threes)
      ∙ ap (λ qs. cond (is_hidden_else key m) None (Some qs)) (fourths_one key w m it),
  λ fours is_fourth.
      let four : all_asked key phases.Files m ≡ fours = some_by (is_hidden_else key m) (all_asked key phases.Files m) fours is_fourth in (
        λ w agree.
            let n = agree_round w m (joined (joined (joined [] ones) twos) threes) (all_asked key phases.Files m) fours four agree in
            ap Some (fifths_one key w m (after_three key w m ones twos threes one two three n.0) (after_four key w m n.1)),
        λ fives is_fifth.
            let five : all_asked key phases.Details m ≡ fives = same_some (all_asked key phases.Details m) fives is_fifth in (
              λ w agree.
                  let o = agree_round w m (joined (joined (joined (joined [] ones) twos) threes) fours) (all_asked key phases.Details m) fives five agree in
                  let n = agree_round w m (joined (joined (joined [] ones) twos) threes) (all_asked key phases.Files m) fours four o.0 in
                  ap Some (sixths_one key w m (after_three key w m ones twos threes one two three n.0) (after_four key w m n.1) (after_five key w m o.1)),
              λ sixes is_sixth w agree.
                  let six : all_asked key phases.Inside m ≡ sixes = same_some (all_asked key phases.Inside m) sixes is_sixth in
                  let p = agree_round w m (joined (joined (joined (joined (joined [] ones) twos) threes) fours) fives) (all_asked key phases.Inside m) sixes six agree in
                  let o = agree_round w m (joined (joined (joined (joined [] ones) twos) threes) fours) (all_asked key phases.Details m) fives five p.0 in
                  let n = agree_round w m (joined (joined (joined [] ones) twos) threes) (all_asked key phases.Files m) fours four o.0 in
                  all_rows_one key w m (after_three key w m ones twos threes one two three n.0) (after_four key w m n.1) (after_five key w m o.1) p.1,
            ),
      ),
)

decided : (key : Key) (m : Machine) → AreDecided m (outcome_on key) (rounds key) []
decided key m = (
  λ w agree. refl,
  λ ones is_first.
      let one : all_asked key phases.First m ≡ ones = same_some (all_asked key phases.First m) ones is_first in (
        λ w agree.
            let h = agree_round w m [] (all_asked key phases.First m) ones one agree in
            let firsts = agree_both w m (flat_map (first key) key.parts) (map env (variables key)) h.1 in
            ap (λ b. cond b None (Some (all_asked key phases.Runs w))) (is_forbidden_one key w m firsts.0)
            ∙ ap (λ qs. cond (is_forbidden key m) None (Some (qs ++ map asked_search (searches key)))) (all_one w m (first key) (second key w) (second key m) key.parts (second_one key w m) firsts.0),
        λ twos is_second.
            let two : all_asked key phases.Runs m ≡ twos = some_by (is_forbidden key m) (all_asked key phases.Runs m) twos is_second in (
              λ w agree.
                  let k = agree_round w m (joined [] ones) (all_asked key phases.Runs m) twos two agree in
                  let seconds = agree_both w m (flat_map (second key m) key.parts) (map asked_search (searches key)) k.1 in
                  ap (λ b. cond b None (Some (all_asked key phases.RunsElse w))) (is_hidden_one key w m seconds.0)
                  ∙ ap (λ qs. cond (is_hidden key m) None (Some (qs ++ []))) (each_one (third key w) (third key m) key.parts (third_one key w m (has_failed_one key w m seconds.0))),
              λ threes is_third. decided_behind key m ones twos threes one two (some_by (is_hidden key m) (all_asked key phases.RunsElse m) threes is_third),
            ),
      ),
)

-- ---- where a round is in vain, there are no rows

no_row : {A B : Type 0} (f : A → B) (o : Option A) → is_none o ≡ true → option_map f o ≡ None
no_row f None e = refl
no_row f (Some it) e = absurd (cc)

none_zipped : (row : Option Row) → option_map (λ values. values.0 ∷ values.1) (option_zip row None) ≡ None
none_zipped None = refl
none_zipped (Some row) = refl

-- a judge finds nothing but parts without an answer
abbrev Judges : Key → Machine → (Part → Bool) → Type 0
Judges key m judge = (part : Part) → judge part ≡ true → is_none (answer_on key m part) ≡ true

no_rows_by : (key : Key) (m : Machine) (judge : Part → Bool) → Judges key m judge → (part : Part) (parts : List Part) (b : Bool) → judge part ≡ b → (b || list_any judge parts) ≡ true
    → (list_any judge parts ≡ true → all_there (map (row_on key m) parts) ≡ None)
    → all_there (map (row_on key m) (part ∷ parts)) ≡ None
no_rows_by key m judge judges part parts true judged any rest =
    ap (λ row. option_map (λ values. values.0 ∷ values.1) (option_zip row (all_there (map (row_on key m) parts)))) (no_row (row_by part) (answer_on key m part) (judges part judged))
no_rows_by key m judge judges part parts false judged any rest =
    ap (λ rows. option_map (λ values. values.0 ∷ values.1) (option_zip (row_on key m part) rows)) (rest any) ∙ none_zipped (row_on key m part)

no_rows : (key : Key) (m : Machine) (judge : Part → Bool) → Judges key m judge → (parts : List Part) → list_any judge parts ≡ true → all_there (map (row_on key m) parts) ≡ None
no_rows key m judge judges [] e = absurd (let no : false ≡ true = e in cc)
no_rows key m judge judges (part ∷ parts) e = no_rows_by key m judge judges part parts (judge part) refl e (no_rows key m judge judges parts)

forbids_judges : (key : Key) (m : Machine) → Judges key m (forbids key m)
forbids_judges key m part judged = (and_parts (is_early part) (is_none (answer_on key m part)) judged).1

-- what hides something has no answer

hidden_text : (m : Machine) (it : Written) (b : Bool) → not b ≡ true → is_none (cond (b && not (is_fleeting m it.output)) (option_map (λ headers. outputs_told it ++ headers) (files_told m (loaded_in it.output))) None) ≡ true
hidden_text m it true e = absurd (let no : false ≡ true = e in cc)
hidden_text m it false e = refl

no_plan : (key : Key) (m : Machine) (it : Option Written) → is_none it ≡ true → is_none (option_and_then (λ it. plan_told key m it.messages) it) ≡ true
no_plan key m None e = refl
no_plan key m (Some it) e = absurd (let no : false ≡ true = e in cc)

hides_judges : (m : Machine) (may : Bool) (ran : Option Written) → hides may ran ≡ true → is_none (run_told m may ran) ≡ true
hides_judges m true None e = absurd (let no : false ≡ true = e in cc)
hides_judges m false None e = refl
hides_judges m may (Some it) e = hidden_text m it (names_sources it.output) e

hides_by_judges : (key : Key) (m : Machine) → Judges key m (hides_by key m)
hides_by_judges key m (is row) e = absurd (let no : false ≡ true = e in cc)
hides_by_judges key m (output made) e = absurd (let no : false ≡ true = e in cc)
hides_by_judges key m directory e = absurd (let no : false ≡ true = e in cc)
hides_by_judges key m compiler e = absurd (let no : false ≡ true = e in cc)
hides_by_judges key m (plan words) e = no_plan key m (planned_on m words) e
hides_by_judges key m (asked ask name) e = absurd (let no : false ≡ true = e in cc)
hides_by_judges key m (run words) e = hides_judges m (may_fail key) (ran_on m words) e
hides_by_judges key m (run_else words) e = absurd (let no : false ≡ true = e in cc)
hides_by_judges key m (pch searched) e = absurd (let no : false ≡ true = e in cc)
hides_by_judges key m sources e = absurd (let no : false ≡ true = e in cc)
hides_by_judges key m times e = absurd (let no : false ≡ true = e in cc)

else_hidden : (m : Machine) (words : List (List ℕ)) (b : Bool) → (b && hides false (ran_on m words)) ≡ true → is_none (cond b (run_told m false (ran_on m words)) (Some no_text)) ≡ true
else_hidden m words true e = hides_judges m false (ran_on m words) e
else_hidden m words false e = absurd (let no : false ≡ true = e in cc)

hides_else_judges : (key : Key) (m : Machine) → Judges key m (hides_else key m)
hides_else_judges key m (is row) e = absurd (let no : false ≡ true = e in cc)
hides_else_judges key m (output made) e = absurd (let no : false ≡ true = e in cc)
hides_else_judges key m directory e = absurd (let no : false ≡ true = e in cc)
hides_else_judges key m compiler e = absurd (let no : false ≡ true = e in cc)
hides_else_judges key m (plan words) e = absurd (let no : false ≡ true = e in cc)
hides_else_judges key m (asked ask name) e = absurd (let no : false ≡ true = e in cc)
hides_else_judges key m (run words) e = absurd (let no : false ≡ true = e in cc)
hides_else_judges key m (run_else words) e = else_hidden m words (has_failed key m) e
hides_else_judges key m (pch searched) e = absurd (let no : false ≡ true = e in cc)
hides_else_judges key m sources e = absurd (let no : false ≡ true = e in cc)
hides_else_judges key m times e = absurd (let no : false ≡ true = e in cc)

ends_in : {A : Type 0} (rest rows : Option A) (questions : List Question) (b : Bool) → (b ≡ true → rows ≡ None) → rest ≡ rows → option_and_then (λ questions. rest) (cond b None (Some questions)) ≡ rows
ends_in rest rows questions true none e = sym (none refl)
ends_in rest rows questions false none e = e

no_outcome : (key : Key) (m : Machine) (judge : Part → Bool) → Judges key m judge → list_any judge key.parts ≡ true → outcome_on key m ≡ None
no_outcome key m judge judges any = ap (option_map (outcome_by key m)) (no_rows key m judge judges key.parts any)

outcome_in : (key : Key) (m : Machine) → value_on m (outcome_on key) (rounds key) ≡ outcome_on key m
outcome_in key m =
    let outcome = outcome_on key m in
    let files : Option Outcome = value_on m (outcome_on key) (stage key phases.Files ∷ stage key phases.Details ∷ stage key phases.Inside ∷ []) in
    let others : Option Outcome = value_on m (outcome_on key) (stage key phases.RunsElse ∷ stage key phases.Files ∷ stage key phases.Details ∷ stage key phases.Inside ∷ []) in
    ends_in others outcome (all_asked key phases.Runs m) (is_forbidden key m) (no_outcome key m (forbids key m) (forbids_judges key m))
    (ends_in files outcome (all_asked key phases.RunsElse m) (is_hidden key m) (no_outcome key m (hides_by key m) (hides_by_judges key m))
    (ends_in outcome outcome (all_asked key phases.Files m) (is_hidden_else key m) (no_outcome key m (hides_else key m) (hides_else_judges key m)) refl))

pub rounds_give_rows : RoundsGiveRows
rounds_give_rows key m = talks_end m (outcome_on key) (rounds key) (decided key m) ∙ ap ends (outcome_in key m)
