-- What a hit is worth under keys as they are delivered.
use Rattle.std.specs.Prelude.{◌≡◌, ℕ, ◌^◌, ◌<◌, Bool, true, false, ◌==◌, List, [], ◌∷◌, ◌++◌, filter, length, map, codes, Option, Some, None, if◌then◌else◌}
use Rattle.std.specs.List.{flat_map, list_any}
use Rattle.scl_values.specs.Each.{Each}
use Rattle.scl_catalogue.specs.Lookup.{Lexicon}
use Rattle.scl_text.specs.Records.{Parsed}
use Rattle.scl_base_dirs.specs.Unmapped.{unmapped}
use Rattle.scl_description.specs.Rows.{IsRow, lone, row_text}
use Rattle.scl_reader.specs.declared.compiler.Compiler.{Compiler}
use Rattle.scl_key.specs.Directs.{may_direct}
use Rattle.scl_key.specs.Known.{shows}
use Rattle.scl_key.specs.Keys.{Key, whole_key}
use Rattle.scl_key.specs.Parts.{Part, is, hashed}
use Rattle.scl_key.specs.Told.{RunWords, flat_pairs, key_record, run_words_fields}
use Rattle.scl_key.specs.Laws.{World, answers, material, early, valued_rows, ran, CanBeFirst, CanBeHashed}
use Rattle.scl_shared_key.specs.Verdicts.{Verdict}
use Rattle.scl_delivered.specs.Delivered.{Delivered, delivered, is_told_by_bases}
use Rattle.scl_delivered.specs.Laws.{untold_part}
use Rattle.scl_delivered.specs.Macros.{others}
use Rattle.scl_delivered.specs.Rows.{nevertheless}

-- ---- command lines

-- a command line, as far as it has a key
pub record Line : Type 0 where
  pub compiler : Compiler
  pub environment : List (List ℕ × List ℕ)
  pub run_words : RunWords
  pub parsed : Parsed
  -- what else its key has, as that of effects
  pub added : List Part
  -- its macros stay where they are
  pub keeps_macros : Bool

-- a key with more parts
abbrev pub with_added : List Part → Key → Key
with_added added key = record key { parts = key.parts ++ added }

-- its key as it is delivered with these base directories; what a catalogue says of words is one thing for each compiler
abbrev pub key_by : (Compiler → Lexicon) → (dirs : List (List ℕ)) → Line → Delivered
key_by lexicon dirs l = delivered (lexicon l.compiler) l.compiler l.parsed dirs l.keeps_macros (with_added l.added (whole_key (lexicon l.compiler) l.compiler l.environment l.run_words l.parsed))

-- its key as it is delivered without any
abbrev pub key_of_line : (Compiler → Lexicon) → Line → Delivered
key_of_line lexicon l = key_by lexicon [] l

-- a record without the macros that stand at the end of this key, if any do
abbrev pub stated_by : Delivered → Parsed → Parsed
stated_by d p = if length d.shown == 0 then p else record p { common_args = others p.common_args }

-- the record that its key states
abbrev pub stated : (Compiler → Lexicon) → Line → Parsed
stated lexicon l = stated_by (key_of_line lexicon l) (key_record (lexicon l.compiler) l.compiler l.parsed)

-- ---- what a cache hashes

-- a world where it is known of each word at the end of a key whether its macro counts
pub record ShownWorld : Type 0 where
  pub world : World
  pub counts : Compiler → Delivered → (word : List ℕ) → Bool

-- the words at the end of a key whose macros count there
abbrev pub counting : ShownWorld → Compiler → Delivered → List (List ℕ)
counting v c d = filter (v.counts c d) d.shown

-- the fields of such a word's row
abbrev pub shown_fields : List ℕ → List (List ℕ)
shown_fields word = codes "shown" ∷ word ∷ []

abbrev pub shown_texts : List (List ℕ) → List (List ℕ)
shown_texts words = map (λ word. row_text (shown_fields word)) words

-- what a cache hashes there for a delivered key, in order: at the end the rows of macros that count
abbrev pub delivered_material : ShownWorld → Compiler → Delivered → List (List ℕ)
delivered_material v c d = material v.world c d.parts ++ shown_texts (counting v c d)

abbrev pub line_material : (Compiler → Lexicon) → ShownWorld → Line → List (List ℕ)
line_material lexicon v l = delivered_material v l.compiler (key_of_line lexicon l)

-- what the compiler makes there of the line
abbrev pub outcome_of : ShownWorld → Line → List (List ℕ)
outcome_of v l = v.world.outcome l.compiler (flat_pairs l.environment) (ran l.compiler l.run_words l.parsed)

-- ---- hits

-- two lines, each in its world, are alike as far as their delivered keys say
pub record AreAlikeLines (lexicon : Compiler → Lexicon) (v w : ShownWorld) (l m : Line) : Type 0 where
  pub compiler_is : l.compiler ≡ m.compiler
  pub environment_is : flat_pairs l.environment ≡ flat_pairs m.environment
  pub run_words_are : run_words_fields l.run_words ≡ run_words_fields m.run_words
  pub record_is : stated lexicon l ≡ stated lexicon m
  pub words_are_unless_shown : shows (lexicon l.compiler) l.compiler l.parsed ≡ false → l.parsed.preprocessor_args ≡ m.parsed.preprocessor_args
  pub rows_are : map hashed (key_of_line lexicon l).parts ≡ map hashed (key_of_line lexicon m).parts
  pub answers_are : answers v.world l.compiler (key_of_line lexicon l).parts ≡ answers w.world m.compiler (key_of_line lexicon m).parts
  pub macros_are : counting v l.compiler (key_of_line lexicon l) ≡ counting w m.compiler (key_of_line lexicon m)

-- Macros count as texts and sources show them: of lines that are alike, compilers make the same files, whatever the macros that do not
-- count. This is assumed of compilers, for the lines that are meant: those to whose keys the right parts were added.
abbrev pub MacrosCountAsShown : (Compiler → Lexicon) → (is_meant : Line → Bool) → ShownWorld → ShownWorld → Type 0
MacrosCountAsShown lexicon is_meant v w = (l m : Line) → is_meant l ≡ true → is_meant m ≡ true → AreAlikeLines lexicon v w l m → outcome_of v l ≡ outcome_of w m

abbrev pub is_fact : Part → Bool
is_fact (is row) = true
is_fact _ = false

-- a line that is meant, no fact was added to its key, and each row of these parts and macros can be written
pub record AreHashed (is_meant : Line → Bool) (l : Line) (parts : List Part) (macros : List (List ℕ)) : Type 0 where
  pub meant : is_meant l ≡ true
  pub adds_no_fact : list_any is_fact l.added ≡ false
  pub are_rows : CanBeHashed parts
  pub are_shown_rows : Each (λ word. IsRow (shown_fields word)) macros

-- the same of each row that is hashed there
abbrev pub IsHashed : (Compiler → Lexicon) → (is_meant : Line → Bool) → ShownWorld → Line → Type 0
IsHashed lexicon is_meant v l = AreHashed is_meant l (key_of_line lexicon l).parts (counting v l.compiler (key_of_line lexicon l))

-- Without base directories a hit gives what a compilation would give, also if it was made with other macros that do not count, or with none.
abbrev pub DeliveredHitsAreRight : Type 0
DeliveredHitsAreRight =
    (lexicon : Compiler → Lexicon) (v w : ShownWorld) (is_meant : Line → Bool) → MacrosCountAsShown lexicon is_meant v w
    → (l m : Line) → IsHashed lexicon is_meant v l → IsHashed lexicon is_meant w m → line_material lexicon v l ≡ line_material lexicon w m → outcome_of v l ≡ outcome_of w m

-- ---- direct mode

-- what stands in a list for a delivered key: names of files, and how these are
abbrev pub DeliveredListing : Type 0
DeliveredListing = Compiler → Delivered → List (List ℕ)

-- what is hashed of two keys before any run, in their worlds, is one, and so are the lists. All but the lists is the first key.
pub record FirstKeysAreOne (v w : ShownWorld) (i j : DeliveredListing) (a b : Compiler) (d g : Delivered) : Type 0 where
  pub early_are : early v.world a d.parts ≡ early w.world b g.parts
  pub values_are : valued_rows v.world a d.direct ≡ valued_rows w.world b g.direct
  pub shown_are : shown_texts d.shown ≡ shown_texts g.shown
  pub list_is : i a d ≡ j b g

-- the first key and the list decide all answers, and which macros count, where direct mode may be used: this is assumed too
abbrev pub LinesAreDecided : (Compiler → Lexicon) → (is_meant : Line → Bool) → ShownWorld → ShownWorld → DeliveredListing → DeliveredListing → Type 0
LinesAreDecided lexicon is_meant v w i j =
    (l : Line) → is_meant l ≡ true → may_direct (lexicon l.compiler) l.compiler l.parsed ≡ true
    → FirstKeysAreOne v w i j l.compiler l.compiler (key_of_line lexicon l) (key_of_line lexicon l)
    → (answers v.world l.compiler (key_of_line lexicon l).parts ≡ answers w.world l.compiler (key_of_line lexicon l).parts)
    × (counting v l.compiler (key_of_line lexicon l) ≡ counting w l.compiler (key_of_line lexicon l))

-- each row of the first key can be written
abbrev pub CanBeFirstDelivered : Delivered → Type 0
CanBeFirstDelivered d = CanBeFirst d.parts d.direct × Each (λ word. IsRow (shown_fields word)) d.shown

-- a key that was found by its first key and a list is that which runs would give, and what was kept under it is what would be made
pub record IsRightLine (lexicon : Compiler → Lexicon) (v w : ShownWorld) (l m : Line) : Type 0 where
  pub key_is : line_material lexicon v l ≡ line_material lexicon w m
  pub outcome_is : outcome_of v l ≡ outcome_of w m

-- Without base directories direct hits are right: where the first key is one, and a list is as it was, the key is that which runs would give.
abbrev pub DeliveredDirectHitsAreRight : Type 0
DeliveredDirectHitsAreRight =
    (lexicon : Compiler → Lexicon) (v w : ShownWorld) (i j : DeliveredListing) (is_meant : Line → Bool)
    → MacrosCountAsShown lexicon is_meant v w → LinesAreDecided lexicon is_meant v w i j
    → (l m : Line) → may_direct (lexicon l.compiler) l.compiler l.parsed ≡ true → IsHashed lexicon is_meant v l → IsHashed lexicon is_meant w m
    → CanBeFirstDelivered (key_of_line lexicon l) → CanBeFirstDelivered (key_of_line lexicon m)
    → FirstKeysAreOne v w i j l.compiler m.compiler (key_of_line lexicon l) (key_of_line lexicon m)
    → IsRightLine lexicon v w l m

-- ---- base directories

-- a world where it is also known what is hashed of a key that is told by the directories
pub record ToldWorld : Type 0 where
  pub shown : ShownWorld
  -- what a part that asks is answered there, told by them
  pub told : Compiler → Part → List ℕ
  -- what is answered there to a row that says where the directories belong in the key nevertheless
  pub nevertheless : Compiler → Delivered → (row : List (List ℕ)) → List ℕ

-- the world as a told key asks it: before a part is used, the directories are put back
abbrev pub told_there : (dirs : List (List ℕ)) → ToldWorld → World
told_there dirs v = record { answer = λ c part. v.told c (untold_part dirs part); outcome = v.shown.world.outcome }

-- the fields of these rows, at the end of a key
abbrev pub nevertheless_rows : Option Verdict → List (List (List ℕ))
nevertheless_rows None = []
nevertheless_rows (Some said) = flat_map (λ e. e.rests) (nevertheless said)

abbrev pub nevertheless_texts : ToldWorld → Compiler → Delivered → List (List ℕ)
nevertheless_texts v c d = flat_map (λ row. row_text row ∷ v.nevertheless c d row ∷ []) (nevertheless_rows d.verdict)

-- what a cache hashes there for a told key, in order, before the rows of macros: the first row says that it is told
abbrev pub told_material : (dirs : List (List ℕ)) → ToldWorld → Compiler → Delivered → List (List ℕ)
told_material dirs v c d = row_text (lone (codes "bases")) ∷ material (told_there dirs v) c d.parts ++ nevertheless_texts v c d

abbrev pub is_told : (Compiler → Lexicon) → (dirs : List (List ℕ)) → Line → Bool
is_told lexicon dirs l = is_told_by_bases (key_by lexicon dirs l)

-- of the words at the end of the key of a line those whose macros count there, with the directories put back
abbrev pub counting_by : (Compiler → Lexicon) → (dirs : List (List ℕ)) → ToldWorld → Line → List (List ℕ)
counting_by lexicon dirs v l =
    if is_told lexicon dirs l
    then filter (λ word. v.shown.counts l.compiler (key_of_line lexicon l) (unmapped dirs word)) (key_by lexicon dirs l).shown
    else counting v.shown l.compiler (key_of_line lexicon l)

-- what a cache hashes there for a line that is read with these directories
abbrev pub line_material_by : (Compiler → Lexicon) → (dirs : List (List ℕ)) → ToldWorld → Line → List (List ℕ)
line_material_by lexicon dirs v l =
    (if is_told lexicon dirs l then told_material dirs v l.compiler (key_by lexicon dirs l) else material v.shown.world l.compiler (key_by lexicon dirs l).parts)
    ++ shown_texts (counting_by lexicon dirs v l)

abbrev pub IsHashedBy : (Compiler → Lexicon) → (dirs : List (List ℕ)) (is_meant : Line → Bool) → ToldWorld → Line → Type 0
IsHashedBy lexicon dirs is_meant v l = AreHashed is_meant l (key_by lexicon dirs l).parts (counting_by lexicon dirs v l)

-- Of two told keys with the same rows, answers that are told alike are alike. This is assumed of how a cache tells answers, and of
-- compilers where it joins lines: they break a line by the names in it.
abbrev pub AnswersAreToldApart : (Compiler → Lexicon) → (dirs : List (List ℕ)) (is_meant : Line → Bool) → ToldWorld → ToldWorld → Type 0
AnswersAreToldApart lexicon dirs is_meant v w =
    (l m : Line) → is_meant l ≡ true → is_meant m ≡ true → is_told lexicon dirs l ≡ true → is_told lexicon dirs m ≡ true
    → map hashed (key_by lexicon dirs l).parts ≡ map hashed (key_by lexicon dirs m).parts
    → answers (told_there dirs v) l.compiler (key_by lexicon dirs l).parts ≡ answers (told_there dirs w) m.compiler (key_by lexicon dirs m).parts
    → answers v.shown.world l.compiler (key_of_line lexicon l).parts ≡ answers w.shown.world m.compiler (key_of_line lexicon m).parts

-- Without directories there is nothing else to hash.
abbrev pub NothingIsToldWithoutDirectories : Type 0
NothingIsToldWithoutDirectories = (lexicon : Compiler → Lexicon) (v : ToldWorld) (l : Line) → line_material_by lexicon [] v l ≡ line_material lexicon v.shown l

-- No told key is hashed as one that is not told, whatever the directories are.
abbrev pub ToldKeysStandApart : Type 0
ToldKeysStandApart =
    (lexicon : Compiler → Lexicon) (dirs others : List (List ℕ)) (v w : ToldWorld) (l m : Line)
    → is_told lexicon dirs l ≡ true → is_told lexicon others m ≡ false → line_material_by lexicon dirs v l ≡ line_material_by lexicon others w m → ⊥

-- A hit gives what a compilation would give, for two lines that are read with the same directories.
abbrev pub HitsWithDirectoriesAreRight : Type 0
HitsWithDirectoriesAreRight =
    (lexicon : Compiler → Lexicon) (dirs : List (List ℕ)) (v w : ToldWorld) (is_meant : Line → Bool)
    → length dirs < 2 ^ 64 → MacrosCountAsShown lexicon is_meant v.shown w.shown → AnswersAreToldApart lexicon dirs is_meant v w
    → (l m : Line) → IsHashedBy lexicon dirs is_meant v l → IsHashedBy lexicon dirs is_meant w m
    → line_material_by lexicon dirs v l ≡ line_material_by lexicon dirs w m → outcome_of v.shown l ≡ outcome_of w.shown m

-- Direct hits are right, for two lines that are read with the same directories and have rows `direct`. Their keys are as they are without.
abbrev pub DirectHitsWithDirectoriesAreRight : Type 0
DirectHitsWithDirectoriesAreRight =
    (lexicon : Compiler → Lexicon) (dirs : List (List ℕ)) (v w : ToldWorld) (i j : DeliveredListing) (is_meant : Line → Bool)
    → MacrosCountAsShown lexicon is_meant v.shown w.shown → LinesAreDecided lexicon is_meant v.shown w.shown i j
    → (l m : Line) → may_direct (lexicon l.compiler) l.compiler l.parsed ≡ true → ((key_by lexicon dirs l).direct ≡ [] → ⊥) → ((key_by lexicon dirs m).direct ≡ [] → ⊥)
    → IsHashedBy lexicon dirs is_meant v l → IsHashedBy lexicon dirs is_meant w m → CanBeFirstDelivered (key_of_line lexicon l) → CanBeFirstDelivered (key_of_line lexicon m)
    → FirstKeysAreOne v.shown w.shown i j l.compiler m.compiler (key_of_line lexicon l) (key_of_line lexicon m)
    → (line_material_by lexicon dirs v l ≡ line_material_by lexicon dirs w m) × (outcome_of v.shown l ≡ outcome_of w.shown m)
