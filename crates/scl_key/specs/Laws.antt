-- What a key is worth.
use Rattle.std.specs.Prelude.{◌≡◌, ℕ, Bool, true, false, List, [], ◌∷◌, map, codes, find, Option, None, Some, unwrap_or, if◌then◌else◌}
use Rattle.std.specs.List.{flat_map}
use Rattle.std.specs.Str.{bytes_eq}
use Rattle.scl_text.specs.Records.{Parsed}
use Rattle.scl_values.specs.Each.{Each}
use Rattle.scl_description.specs.Rows.{IsRow, row_text, rows_in, rows_of, rests_at, entries_text}
use Rattle.scl_description.specs.Records.{first_field, output_back}
use Rattle.scl_reader.specs.declared.compiler.Compiler.{Compiler}
use Rattle.scl_reader.specs.Answers.{command_by}
use Rattle.scl_catalogue.specs.Lookup.{Lexicon}
use Rattle.scl_key.specs.declared.part.Ask.{Ask}
use Rattle.scl_key.specs.declared.part.Ask.TheVariants as asks
use Rattle.scl_key.specs.Directs.{Direct, env, search, first, named, refuse_if_read, direct_fields, directs, may_direct}
use Rattle.scl_key.specs.Known.{shows}
use Rattle.scl_key.specs.Keys.{key_of}
use Rattle.scl_key.specs.Parts.{Part, is, output, directory, compiler, plan, asked, run, run_else, pch, sources, times, ask_name, fields, hashed, is_asked, key_entries}
use Rattle.scl_key.specs.Told.{RunWords, built, given, hazardous, flat_pairs, key_record, run_words_fields, told}

-- ---- rows are read back

abbrev pub all_asks : List Ask
all_asks = asks.Env ∷ asks.Unset ∷ asks.File ∷ asks.Maybe ∷ asks.Regular ∷ asks.SourcesIfShown ∷ asks.RefuseIfShown ∷ []

abbrev pub ask_back : List ℕ → Ask
ask_back name = unwrap_or (find (λ ask. bytes_eq (ask_name ask) name) all_asks) asks.Env

-- the part of a name and of what stands after it
abbrev pub part_named : List ℕ → List (List ℕ) → Part
part_named name rest =
    if bytes_eq name (codes "is") then is rest
    else (if bytes_eq name (codes "output") then output (output_back rest)
    else (if bytes_eq name (codes "directory") then directory
    else (if bytes_eq name (codes "compiler") then compiler
    else (if bytes_eq name (codes "plan") then plan rest
    else (if bytes_eq name (codes "run") then run rest
    else (if bytes_eq name (codes "run-else") then run_else rest
    else (if bytes_eq name (codes "pch") then pch rest
    else (if bytes_eq name (codes "sources") then sources
    else (if bytes_eq name (codes "times") then times
    else asked (ask_back name) (first_field rest))))))))))

abbrev pub part_back : List (List ℕ) → Part
part_back [] = directory
part_back (name ∷ rest) = part_named name rest

-- the key that the rows of a text are of
abbrev pub key_in : List ℕ → List Part
key_in text = map part_back (rests_at (rows_in text) (codes "key"))

-- A key is read back from its rows: so two keys of one text are one.
abbrev pub KeysReadBack : Type 0
KeysReadBack = (key : List Part) → Each IsRow (rows_of (key_entries key)) → key_in (entries_text (key_entries key)) ≡ key

-- Each compiler's words are judged by a lexicon, `g`. The laws hold for any.

-- ---- keys decide commands

-- a record with the words of the preprocessor of another
abbrev pub with_shown_of : Parsed → Parsed → Parsed
with_shown_of p q = record q { preprocessor_args = p.preprocessor_args }

-- the words that are run at a miss, if there are any
abbrev pub ran_with : RunWords → Option (List (List ℕ)) → Option (List (List ℕ))
ran_with built command = command
ran_with (given words files) command = Some words
ran_with (hazardous hazard) command = None

abbrev pub ran : Compiler → RunWords → Parsed → Option (List (List ℕ))
ran c words p = ran_with words (command_by c p)

-- two command lines, each of a compiler, with an environment and what is run of it, are one except for words that runs show
pub record AreOne (g : Compiler → Lexicon) (a b : Compiler) (e f : List (List ℕ × List ℕ)) (r s : RunWords) (p q : Parsed) : Type 0 where
  pub compiler_is : a ≡ b
  pub environment_is : flat_pairs e ≡ flat_pairs f
  pub run_words_are : run_words_fields r ≡ run_words_fields s
  pub record_is : key_record (g a) a p ≡ key_record (g a) a q
  pub outputs_are : p.outputs ≡ q.outputs
  pub hash_files_are : p.extra_hash_files ≡ q.extra_hash_files
  pub shows_is : shows (g a) a p ≡ shows (g b) b q
  pub command_is : command_by a p ≡ command_by a (with_shown_of p q)
  pub what_runs_is : ran a r p ≡ ran a s (with_shown_of p q)
  pub words_are_unless_shown : shows (g a) a p ≡ false → p.preprocessor_args ≡ q.preprocessor_args

-- Two command lines of which the same is stated are by one compiler, and have one record and command, except for words that
-- runs show: for all eight compilers.
abbrev pub KeysDecideCommands : Type 0
KeysDecideCommands = (g : Compiler → Lexicon) (a b : Compiler) (e f : List (List ℕ × List ℕ)) (r s : RunWords) (p q : Parsed) → told (g a) a e r p ≡ told (g b) b f s q → AreOne g a b e f r s p q

-- ---- hits are right

-- a machine with its compilers and files at one moment: what a part that asks is answered there, and what a compiler makes there of
-- words with an environment
pub record World : Type 0 where
  pub answer : Compiler → Part → List ℕ
  pub outcome : Compiler → (environment : List (List ℕ)) → (words : Option (List (List ℕ))) → List (List ℕ)

abbrev pub answered : World → Compiler → Part → List (List ℕ)
answered v c part = if is_asked part then v.answer c part ∷ [] else []

abbrev pub answers : World → Compiler → List Part → List (List ℕ)
answers v c key = flat_map (answered v c) key

-- what a cache hashes there for a key, in order: of each part its row, or what of it is hashed, and the answer if it asks
abbrev pub material : World → Compiler → List Part → List (List ℕ)
material v c key = flat_map (λ part. row_text (hashed part) ∷ answered v c part) key

-- two compilations by one compiler, each in its world, are alike as far as a key says
pub record AreAlike (g : Compiler → Lexicon) (v w : World) (c : Compiler) (e f : List (List ℕ × List ℕ)) (r s : RunWords) (p q : Parsed) : Type 0 where
  pub environment_is : flat_pairs e ≡ flat_pairs f
  pub run_words_are : run_words_fields r ≡ run_words_fields s
  pub record_is : key_record (g c) c p ≡ key_record (g c) c q
  pub words_are_unless_shown : shows (g c) c p ≡ false → p.preprocessor_args ≡ q.preprocessor_args
  pub answers_are : answers v c (key_of (g c) c e r p) ≡ answers w c (key_of (g c) c f s q)

-- Compilers are well-behaved in two worlds: of compilations that are alike they make the same files. This is what is assumed of them,
-- and of the lexicons: what these say of a word is true.
abbrev pub AreWellBehaved : (Compiler → Lexicon) → World → World → Type 0
AreWellBehaved g v w =
    (c : Compiler) (e f : List (List ℕ × List ℕ)) (r s : RunWords) (p q : Parsed)
    → AreAlike g v w c e f r s p q
    → v.outcome c (flat_pairs e) (ran c r p) ≡ w.outcome c (flat_pairs f) (ran c s q)

-- each row of what is hashed of a key can be written
abbrev pub CanBeHashed : List Part → Type 0
CanBeHashed key = Each (λ part. IsRow (hashed part)) key

-- where what is hashed is one, so are the outcomes
abbrev pub AHitIsRight : (Compiler → Lexicon) → World → World → Type 0
AHitIsRight g v w =
    (a b : Compiler) (e f : List (List ℕ × List ℕ)) (r s : RunWords) (p q : Parsed)
    → CanBeHashed (key_of (g a) a e r p) → CanBeHashed (key_of (g b) b f s q)
    → material v a (key_of (g a) a e r p) ≡ material w b (key_of (g b) b f s q)
    → v.outcome a (flat_pairs e) (ran a r p) ≡ w.outcome b (flat_pairs f) (ran b s q)

-- A hit gives what a compilation would give: what was made in one world is what would be made in the other.
abbrev pub HitsAreRight : Type 0
HitsAreRight = (g : Compiler → Lexicon) (v w : World) → AreWellBehaved g v w → AHitIsRight g v w

-- ---- direct mode

-- an answer that needs no run of the compiler
abbrev pub is_early_ask : Ask → Bool
is_early_ask asks.Env = true
is_early_ask asks.Unset = true
is_early_ask asks.File = true
is_early_ask asks.Maybe = true
is_early_ask asks.Regular = true
is_early_ask asks.SourcesIfShown = false
is_early_ask asks.RefuseIfShown = false

abbrev pub is_early : Part → Bool
is_early (is row) = false
is_early (output made) = false
is_early directory = true
is_early compiler = true
is_early (plan words) = true
is_early (asked ask name) = is_early_ask ask
is_early (run words) = false
is_early (run_else words) = false
is_early (pch searched) = false
is_early sources = false
is_early times = false

-- what a cache hashes of a key before any run: each row with all its fields, and the answer if it needs no run
abbrev pub early : World → Compiler → List Part → List (List ℕ)
early v c key = flat_map (λ part. row_text (fields part) ∷ (if is_early part then v.answer c part ∷ [] else [])) key

-- the value of a variable that a row `direct` names
abbrev pub valued : World → Compiler → Direct → List (List ℕ)
valued v c (env name) = v.answer c (asked asks.Env name) ∷ []
valued v c (search words) = []
valued v c (first header) = []
valued v c (named pattern) = []
valued v c (refuse_if_read pattern) = []

-- what it hashes of the rows `direct`: each row, and the value of a variable. Both together are the first key.
abbrev pub valued_rows : World → Compiler → List Direct → List (List ℕ)
valued_rows v c rows = flat_map (λ row. row_text (direct_fields row) ∷ valued v c row) rows

-- what stands in a list for a key, with its rows `direct`: names of files, and how these are
abbrev pub Listing : Type 0
Listing = Compiler → List Part → List Direct → List (List ℕ)

-- Of two worlds and what their lists have: where direct mode may be used, the first key and the list decide all answers. This is
-- what is assumed of compilers, and of how a cache makes lists.
abbrev pub AreDecided : (Compiler → Lexicon) → World → World → Listing → Listing → Type 0
AreDecided g v w l m =
    (c : Compiler) (e : List (List ℕ × List ℕ)) (r : RunWords) (p : Parsed)
    → may_direct (g c) c p ≡ true
    → early v c (key_of (g c) c e r p) ≡ early w c (key_of (g c) c e r p)
    → valued_rows v c (directs (g c) c p) ≡ valued_rows w c (directs (g c) c p)
    → l c (key_of (g c) c e r p) (directs (g c) c p) ≡ m c (key_of (g c) c e r p) (directs (g c) c p)
    → answers v c (key_of (g c) c e r p) ≡ answers w c (key_of (g c) c e r p)

-- each row of a first key can be written
abbrev pub CanBeFirst : List Part → List Direct → Type 0
CanBeFirst key rows = Each (λ part. IsRow (fields part)) key × Each (λ row. IsRow (direct_fields row)) rows

-- a key that was found by its first key and a list is that which runs would give, and what was kept under it is what would be made
pub record IsRight (g : Compiler → Lexicon) (v w : World) (a b : Compiler) (e f : List (List ℕ × List ℕ)) (r s : RunWords) (p q : Parsed) : Type 0 where
  pub key_is : material v a (key_of (g a) a e r p) ≡ material w b (key_of (g b) b f s q)
  pub outcome_is : v.outcome a (flat_pairs e) (ran a r p) ≡ w.outcome b (flat_pairs f) (ran b s q)

abbrev pub ADirectHitIsRight : (Compiler → Lexicon) → World → World → Listing → Listing → Type 0
ADirectHitIsRight g v w l m =
    (a b : Compiler) (e f : List (List ℕ × List ℕ)) (r s : RunWords) (p q : Parsed)
    → may_direct (g a) a p ≡ true
    → CanBeHashed (key_of (g a) a e r p) → CanBeHashed (key_of (g b) b f s q)
    → CanBeFirst (key_of (g a) a e r p) (directs (g a) a p) → CanBeFirst (key_of (g b) b f s q) (directs (g b) b q)
    → early v a (key_of (g a) a e r p) ≡ early w b (key_of (g b) b f s q)
    → valued_rows v a (directs (g a) a p) ≡ valued_rows w b (directs (g b) b q)
    → l a (key_of (g a) a e r p) (directs (g a) a p) ≡ m b (key_of (g b) b f s q) (directs (g b) b q)
    → IsRight g v w a b e f r s p q

-- Direct hits are right: where the first key is one, and a list is as it was, the key is that which runs would give.
abbrev pub DirectHitsAreRight : Type 0
DirectHitsAreRight =
    (g : Compiler → Lexicon) (v w : World) (l m : Listing) → AreWellBehaved g v w → AreDecided g v w l m → ADirectHitIsRight g v w l m
