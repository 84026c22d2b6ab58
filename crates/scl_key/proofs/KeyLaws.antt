-- A key is read back from its rows, and decides the command.
use Rattle.std.proofs.Common.{◌≡◌, ℕ, Bool, true, false, cond, List, [], ◌∷◌, ◌++◌, map, codes, Option, Some, None, unwrap_or, refl, ap, sym, ◌∙◌}
use Rattle.std.specs.List.{flat_map}
use Rattle.std.specs.Str.{bytes_eq}
use Rattle.std.proofs.lemmas.Grind.{flat_map-append}
use Rattle.scl_text.specs.Records.{Parsed}
use Rattle.scl_description.specs.Rows.{Entry, entry_rows, rows_of, rests_at}
use Rattle.scl_description.specs.Records.{record_entries, record_by}
use Rattle.scl_description.proofs.RowLaws.{rows-back}
use Rattle.scl_description.proofs.RecordLaws.{rests-found, output-given, record-found, entries-rows}
use Rattle.scl_reader.specs.declared.compiler.Compiler.{Compiler}
use Rattle.scl_reader.specs.declared.compiler.Compiler.TheVariants as compilers
use Rattle.scl_reader.specs.Answers.{command_by}
use Rattle.scl_reader.specs.Compilers.{name_of, compiler_named}
use Rattle.scl_catalogue.specs.Lookup.{Lexicon}
use Rattle.scl_key.specs.declared.part.Ask.{Ask}
use Rattle.scl_key.specs.declared.part.Ask.TheVariants as asks
use Rattle.scl_key.specs.Known.{shows}
use Rattle.scl_key.specs.Parts.{Part, is, output, directory, compiler, plan, asked, run, run_else, pch, sources, times, fields, key_entries}
use Rattle.scl_key.specs.Told.{RunWords, built, given, hazardous, flat_pairs, key_record, record_told, run_words_fields, yes_or_no, told_entry, told_entries, told, told_by}
use Rattle.scl_key.specs.Laws.{part_back, key_in, KeysReadBack, with_shown_of, ran_with, AreOne, KeysDecideCommands}

-- ---- rows are read back

asked-back : (ask : Ask) (name : List ℕ) → part_back (fields (asked ask name)) ≡ asked ask name
asked-back ask name = elim ask as (λ a. part_back (fields (asked a name)) ≡ asked a name) [
  | asks.Env ↦ refl
  | asks.Unset ↦ refl
  | asks.File ↦ refl
  | asks.Maybe ↦ refl
  | asks.Regular ↦ refl
  | asks.SourcesIfShown ↦ refl
  | asks.RefuseIfShown ↦ refl
]

pub part-back : (part : Part) → part_back (fields part) ≡ part
part-back (is row) = refl
part-back (output made) = ap output (output-given made)
part-back directory = refl
part-back compiler = refl
part-back (plan words) = refl
part-back (asked ask name) = asked-back ask name
part-back (run words) = refl
part-back (run_else words) = refl
part-back (pch searched) = refl
part-back sources = refl
part-back times = refl

rests-fields : (key : List Part) → rests_at (rows_of (key_entries key)) (codes "key") ≡ map fields key
rests-fields [] = refl
rests-fields (part ∷ key) = ap (λ rests. fields part ∷ rests) (rests-fields key)

parts-back : (key : List Part) → map part_back (map fields key) ≡ key
parts-back [] = refl
parts-back (part ∷ key) = ap (λ p. p ∷ map part_back (map fields key)) (part-back part) ∙ ap (λ parts. part ∷ parts) (parts-back key)

pub keys-back : KeysReadBack
keys-back key are =
    ap key_in (entries-rows (key_entries key))
    ∙ ap (λ rows. map part_back (rests_at rows (codes "key"))) (rows-back (rows_of (key_entries key)) are)
    ∙ ap (map part_back) (rests-fields key)
    ∙ parts-back key

-- ---- the facts of a key

-- the fact that a part is
abbrev pub fact_of : Part → List (List (List ℕ))
fact_of (is row) = row ∷ []
fact_of (output made) = []
fact_of directory = []
fact_of compiler = []
fact_of (plan words) = []
fact_of (asked ask name) = []
fact_of (run words) = []
fact_of (run_else words) = []
fact_of (pch searched) = []
fact_of sources = []
fact_of times = []

abbrev pub facts_in : List Part → List (List (List ℕ))
facts_in parts = flat_map fact_of parts

facts-entry : (rows : List (List (List ℕ))) → facts_in (map is rows) ≡ rows
facts-entry [] = refl
facts-entry (row ∷ rows) = ap (λ rs. row ∷ rs) (facts-entry rows)

pub facts-entries : (es : List Entry) → facts_in (told_entries es) ≡ rows_of es
unfolding told_entry
facts-entries [] = refl
facts-entries (e ∷ es) =
    flat_map-append fact_of (told_entry e) (told_entries es)
    ∙ ap (λ rows. rows ++ facts_in (told_entries es)) (facts-entry (entry_rows e))
    ∙ ap (λ rows. entry_rows e ++ rows) (facts-entries es)

abbrev tail_of : List (List (List ℕ)) → List (List (List ℕ))
tail_of [] = []
tail_of (row ∷ rows) = rows

abbrev head_of : List (List (List ℕ)) → List (List ℕ)
head_of [] = []
head_of (row ∷ rows) = row

abbrev behind_first : List (List ℕ) → List (List ℕ)
behind_first [] = []
behind_first (field ∷ fields) = fields

abbrev first_of : List (List ℕ) → List ℕ
first_of [] = []
first_of (field ∷ fields) = field

abbrev compiler_told : List (List (List ℕ)) → List ℕ
compiler_told rows = first_of (behind_first (head_of (tail_of rows)))

abbrev shown_told : List (List (List ℕ)) → List ℕ
shown_told rows = first_of (behind_first (head_of (tail_of (tail_of rows))))

abbrev words_told : List (List (List ℕ)) → List (List ℕ)
words_told rows = behind_first (head_of (tail_of (tail_of (tail_of rows))))

abbrev environment_told : List (List (List ℕ)) → List (List ℕ)
environment_told rows = behind_first (head_of (tail_of (tail_of (tail_of (tail_of rows)))))

abbrev record_in : List (List (List ℕ)) → Parsed
record_in rows = record_by (rests_at (tail_of (tail_of (tail_of (tail_of (tail_of rows))))))

-- the facts beside the record
abbrev pub first_rows : Compiler → List (List ℕ × List ℕ) → RunWords → Bool → List (List (List ℕ))
first_rows c e r is_shown =
    (codes "version" ∷ codes "1" ∷ [])
    ∷ (codes "compiler" ∷ name_of c ∷ [])
    ∷ (codes "shown" ∷ yes_or_no is_shown ∷ [])
    ∷ (codes "run-words" ∷ run_words_fields r)
    ∷ (codes "environment" ∷ flat_pairs e)
    ∷ []

-- the facts of a command line with this record
abbrev pub rows_told : Compiler → List (List ℕ × List ℕ) → RunWords → Bool → Parsed → List (List (List ℕ))
rows_told c e r is_shown p = first_rows c e r is_shown ++ rows_of (record_entries p)

pub facts-told : (is_shown : Bool) (c : Compiler) (e : List (List ℕ × List ℕ)) (r : RunWords) (p : Parsed) → facts_in (told_by is_shown c e r p) ≡ rows_told c e r is_shown (record_told is_shown p)
facts-told is_shown c e r p = ap (λ rows. first_rows c e r is_shown ++ rows) (facts-entries (record_entries (record_told is_shown p)))

record-back : (p : Parsed) → record_by (rests_at (rows_of (record_entries p))) ≡ p
record-back p = ap record_by (λ i name. rests-found (record_entries p) name i) ∙ record-found p

-- ---- one command

name-back : (c : Compiler) → compiler_named (name_of c) ≡ Some c
name-back c = elim c as (λ d. compiler_named (name_of d) ≡ Some d) [
  | compilers.Gcc ↦ refl
  | compilers.Gxx ↦ refl
  | compilers.Clang ↦ refl
  | compilers.Clangxx ↦ refl
  | compilers.Cl ↦ refl
  | compilers.ClangCl ↦ refl
  | compilers.Diab ↦ refl
  | compilers.Tasking ↦ refl
]

one-compiler : (a b : Compiler) → name_of a ≡ name_of b → a ≡ b
one-compiler a b e = ap (λ o. unwrap_or o a) (sym (name-back a) ∙ ap compiler_named e ∙ name-back b)

abbrev is_yes : List ℕ → Bool
is_yes text = bytes_eq text (codes "yes")

said-back : (b : Bool) → is_yes (yes_or_no b) ≡ b
said-back true = refl
said-back false = refl

-- two command lines of which the same is told
pub record AreToldAlike (a b : Compiler) (e f : List (List ℕ × List ℕ)) (r s : RunWords) (x y : Bool) (p q : Parsed) : Type 0 where
  pub compiler_is : a ≡ b
  pub shows_is : x ≡ y
  pub run_words_are : run_words_fields r ≡ run_words_fields s
  pub environment_is : flat_pairs e ≡ flat_pairs f
  pub record_is : p ≡ q

pub rows-decide : (a b : Compiler) (e f : List (List ℕ × List ℕ)) (r s : RunWords) (x y : Bool) (p q : Parsed) → rows_told a e r x p ≡ rows_told b f s y q → AreToldAlike a b e f r s x y p q
rows-decide a b e f r s x y p q h = record {
  compiler_is = one-compiler a b (ap compiler_told h);
  shows_is = sym (said-back x) ∙ ap (λ rows. is_yes (shown_told rows)) h ∙ said-back y;
  run_words_are = ap words_told h;
  environment_is = ap environment_told h;
  record_is = sym (record-back p) ∙ ap record_in h ∙ record-back q;
}

-- the command of a record is that of what is stated of it, with the words of the preprocessor put back
command-told : (g : Compiler → Lexicon) (c : Compiler) (p : Parsed) → command_by c (with_shown_of p (key_record (g c) c p)) ≡ command_by c p
command-told g c p = elim c as (λ d. command_by d (with_shown_of p (key_record (g d) d p)) ≡ command_by d p) [
  | compilers.Gcc ↦ refl
  | compilers.Gxx ↦ refl
  | compilers.Clang ↦ refl
  | compilers.Clangxx ↦ refl
  | compilers.Cl ↦ refl
  | compilers.ClangCl ↦ refl
  | compilers.Diab ↦ refl
  | compilers.Tasking ↦ refl
]

command-of-told : (g : Compiler → Lexicon) (c : Compiler) (p q : Parsed) → command_by c (with_shown_of p (key_record (g c) c q)) ≡ command_by c (with_shown_of p q)
command-of-told g c p q = command-told g c (with_shown_of p q)

same-command : (g : Compiler → Lexicon) (c : Compiler) (p q : Parsed) → key_record (g c) c p ≡ key_record (g c) c q → command_by c p ≡ command_by c (with_shown_of p q)
same-command g c p q e = sym (command-told g c p) ∙ ap (λ r. command_by c (with_shown_of p r)) e ∙ command-of-told g c p q

words-unless : (b d : Bool) (x y : List (List ℕ)) → b ≡ false → d ≡ false → cond b [] x ≡ cond d [] y → x ≡ y
words-unless b d x y n m h = sym (ap (λ t. cond t [] x) n) ∙ h ∙ ap (λ t. cond t [] y) m

-- what is run, by the fact that states it
abbrev ran_told : List (List ℕ) → Option (List (List ℕ)) → Option (List (List ℕ))
ran_told fields command = cond (bytes_eq (first_of fields) (codes "built")) command (cond (bytes_eq (first_of fields) (codes "given")) (Some (behind_first fields)) None)

ran-told : (words : RunWords) (command : Option (List (List ℕ))) → ran_told (run_words_fields words) command ≡ ran_with words command
ran-told built command = refl
ran-told (given words files) command = refl
ran-told (hazardous hazard) command = refl

pub same-ran : (r s : RunWords) (a b : Option (List (List ℕ))) → run_words_fields r ≡ run_words_fields s → a ≡ b → ran_with r a ≡ ran_with s b
same-ran r s a b e h = sym (ran-told r a) ∙ ap (λ fields. ran_told fields a) e ∙ ap (ran_told (run_words_fields s)) h ∙ ran-told s b

pub facts-decide : (g : Compiler → Lexicon) (a b : Compiler) (e f : List (List ℕ × List ℕ)) (r s : RunWords) (p q : Parsed) → facts_in (told (g a) a e r p) ≡ facts_in (told (g b) b f s q) → AreOne g a b e f r s p q
facts-decide g a b e f r s p q h =
    let alike : AreToldAlike a b e f r s (shows (g a) a p) (shows (g b) b q) (key_record (g a) a p) (key_record (g b) b q) =
    rows-decide a b e f r s (shows (g a) a p) (shows (g b) b q) (key_record (g a) a p) (key_record (g b) b q)
    (sym (facts-told (shows (g a) a p) a e r p) ∙ h ∙ facts-told (shows (g b) b q) b f s q) in
    let same : key_record (g a) a p ≡ key_record (g a) a q = alike.record_is ∙ ap (λ c. key_record (g c) c q) (sym alike.compiler_is) in
    record {
      compiler_is = alike.compiler_is;
      environment_is = alike.environment_is;
      run_words_are = alike.run_words_are;
      record_is = same;
      outputs_are = ap (λ r. r.outputs) same;
      hash_files_are = ap (λ r. r.extra_hash_files) same;
      shows_is = alike.shows_is;
      command_is = same-command g a p q same;
      what_runs_is = same-ran r s (command_by a p) (command_by a (with_shown_of p q)) alike.run_words_are (same-command g a p q same);
      words_are_unless_shown = λ n. words-unless (shows (g a) a p) (shows (g b) b q) p.preprocessor_args q.preprocessor_args n (sym alike.shows_is ∙ n) (ap (λ r. r.preprocessor_args) alike.record_is);
    }

pub keys-decide : KeysDecideCommands
keys-decide g a b e f r s p q h = facts-decide g a b e f r s p q (ap facts_in h)
