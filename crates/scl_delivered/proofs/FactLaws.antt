-- The facts of a key as it is delivered are those of the record that it states.
use Rattle.std.proofs.Common.{◌≡◌, ℕ, ◌==◌, ◌&&◌, not, Bool, true, false, cond, List, [], ◌∷◌, ◌++◌, codes, filter, length, map, Some, None, is_some, refl, sym, ap, ◌∙◌, append-nil, if◌then◌else◌}
use Rattle.std.proofs.lemmas.Grind.{flat_map-append}
use Rattle.std.proofs.lemmas.List.Elements.{filter-append}
use Rattle.std.specs.List.{list_any}
use Rattle.std.specs.Str.{bytes_eq}
use Rattle.scl_catalogue.specs.Lookup.{Lexicon}
use Rattle.scl_text.specs.Records.{Parsed}
use Rattle.scl_description.specs.Records.{file_entries, output_entries, record_entries, source_entries, switch_entries}
use Rattle.scl_description.specs.Rows.{Entry, entry, entry_rows, lone, rows_of, words_entry}
use Rattle.scl_reader.specs.declared.compiler.Compiler.{Compiler}
use Rattle.scl_key.specs.Known.{shows}
use Rattle.scl_key.specs.Keys.{key_of, whole_key}
use Rattle.scl_key.specs.Parts.{Part, is, output, directory, compiler, plan, asked, run, run_else, pch, sources, times}
use Rattle.scl_key.specs.Told.{RunWords, flat_pairs, key_record, run_words_fields}
use Rattle.scl_key.proofs.KeyLaws.{fact_of, facts_in, facts-told, first_rows, rows_told}
use Rattle.scl_key.proofs.HitLaws.{facts-of-key}
use Rattle.scl_shared_key.specs.Objects.{is_macro}
use Rattle.scl_delivered.specs.Delivered.{with_macros}
use Rattle.scl_delivered.specs.Hits.{is_fact, stated_by, with_added}
use Rattle.scl_delivered.specs.Macros.{left_of, macro_told, macros_in, others, without_macros}

-- ---- facts that tell no macro

-- the fact is left
abbrev pub is_left : List (List ℕ) → Bool
is_left row = not (is_some (macro_told row))

fact_by : (tells : Bool) (row : List (List ℕ)) → facts_in (if tells then [] else is row ∷ []) ≡ cond (not tells) (row ∷ []) []
fact_by true row = refl
fact_by false row = refl

fact_left : (part : Part) → facts_in (left_of part) ≡ filter is_left (fact_of part)
fact_left (is row) = fact_by (is_some (macro_told row)) row
fact_left (output made) = refl
fact_left directory = refl
fact_left compiler = refl
fact_left (plan words) = refl
fact_left (asked ask name) = refl
fact_left (run words) = refl
fact_left (run_else words) = refl
fact_left (pch searched) = refl
fact_left sources = refl
fact_left times = refl

facts_left : (parts : List Part) → facts_in (without_macros parts) ≡ filter is_left (facts_in parts)
facts_left [] = refl
facts_left (part ∷ parts) =
    flat_map-append fact_of (left_of part) (without_macros parts)
    ∙ ap (λ rows. rows ++ facts_in (without_macros parts)) (fact_left part)
    ∙ ap (λ rows. filter is_left (fact_of part) ++ rows) (facts_left parts)
    ∙ sym (filter-append is_left (fact_of part) (facts_in parts))

-- ---- rows that tell no macro

-- a row of another name
other_row : (name : List ℕ) (rest : List (List ℕ)) → bytes_eq name (codes "common") ≡ false → is_left (name ∷ rest) ≡ true
other_row name [] h = refl
other_row name (word ∷ []) h = ap (λ b. not (is_some (if b && is_macro word then Some word else None))) h
other_row name (word ∷ next ∷ rest) h = refl

abbrev is_other : List (List ℕ) → Bool
is_other [] = true
is_other (word ∷ []) = not (is_macro word)
is_other (word ∷ next ∷ rest) = true

word_left : (macro : Bool) (word : List ℕ) → not (is_some (if macro then Some word else None)) ≡ not macro
word_left true word = refl
word_left false word = refl

common_row : (name : List ℕ) (rest : List (List ℕ)) → bytes_eq name (codes "common") ≡ true → is_left (name ∷ rest) ≡ is_other rest
common_row name [] h = refl
common_row name (word ∷ []) h = ap (λ b. not (is_some (if b && is_macro word then Some word else None))) h ∙ word_left (is_macro word) word
common_row name (word ∷ next ∷ rest) h = refl

-- an entry without the rows that tell macros
abbrev entry_left : Entry → Entry
entry_left e = entry e.name (cond (bytes_eq e.name (codes "common")) (filter is_other e.rests) e.rests)

others_stand : (name : List ℕ) (rests : List (List (List ℕ))) → bytes_eq name (codes "common") ≡ false
    → filter is_left (map (λ rest. name ∷ rest) rests) ≡ map (λ rest. name ∷ rest) rests
others_stand name [] h = refl
others_stand name (rest ∷ rests) h =
    ap (λ b. cond b ((name ∷ rest) ∷ filter is_left (map (λ r. name ∷ r) rests)) (filter is_left (map (λ r. name ∷ r) rests))) (other_row name rest h)
    ∙ ap (λ rows. (name ∷ rest) ∷ rows) (others_stand name rests h)

one_by : (left : Bool) (name : List ℕ) (rest : List (List ℕ)) (rests : List (List (List ℕ)))
    → cond left ((name ∷ rest) ∷ map (λ r. name ∷ r) rests) (map (λ r. name ∷ r) rests) ≡ map (λ r. name ∷ r) (cond left (rest ∷ rests) rests)
one_by true name rest rests = refl
one_by false name rest rests = refl

common_left : (name : List ℕ) (rests : List (List (List ℕ))) → bytes_eq name (codes "common") ≡ true
    → filter is_left (map (λ rest. name ∷ rest) rests) ≡ map (λ rest. name ∷ rest) (filter is_other rests)
common_left name [] h = refl
common_left name (rest ∷ rests) h =
    ap (λ b. cond b ((name ∷ rest) ∷ filter is_left (map (λ r. name ∷ r) rests)) (filter is_left (map (λ r. name ∷ r) rests))) (common_row name rest h)
    ∙ ap (λ rows. cond (is_other rest) ((name ∷ rest) ∷ rows) rows) (common_left name rests h)
    ∙ one_by (is_other rest) name rest (filter is_other rests)

rows_by : (common : Bool) (name : List ℕ) (rests : List (List (List ℕ))) → bytes_eq name (codes "common") ≡ common
    → filter is_left (map (λ rest. name ∷ rest) rests) ≡ map (λ rest. name ∷ rest) (cond common (filter is_other rests) rests)
rows_by true name rests h = common_left name rests h
rows_by false name rests h = others_stand name rests h

rows_left : (es : List Entry) → filter is_left (rows_of es) ≡ rows_of (map entry_left es)
rows_left [] = refl
rows_left (e ∷ es) =
    filter-append is_left (entry_rows e) (rows_of es)
    ∙ ap (λ rows. rows ++ filter is_left (rows_of es)) (rows_by (bytes_eq e.name (codes "common")) e.name e.rests refl)
    ∙ ap (λ rows. entry_rows (entry_left e) ++ rows) (rows_left es)

-- ---- a record without macros

abbrev pub without : Parsed → Parsed
without p = record p { common_args = others p.common_args }

lone_by : (left : Bool) (word : List ℕ) (words : List (List ℕ)) → cond left (lone word ∷ map lone words) (map lone words) ≡ map lone (cond left (word ∷ words) words)
lone_by true word words = refl
lone_by false word words = refl

lone_left : (words : List (List ℕ)) → filter is_other (map lone words) ≡ map lone (others words)
lone_left [] = refl
lone_left (word ∷ words) =
    ap (λ rests. cond (not (is_macro word)) (lone word ∷ rests) rests) (lone_left words) ∙ lone_by (not (is_macro word)) word (others words)

-- the entries of a record with these rows `common`
abbrev with_common : Parsed → List (List (List ℕ)) → List Entry
with_common p rests =
    source_entries p
    ++ output_entries p
    ++ (words_entry (codes "dependency") p.dependency_args
    ∷ words_entry (codes "preprocessor") p.preprocessor_args
    ∷ entry (codes "common") rests
    ∷ words_entry (codes "arch") p.arch_args
    ∷ words_entry (codes "unhashed") p.unhashed_args
    ∷ [])
    ++ file_entries p
    ++ switch_entries p

record_left : (p : Parsed) → map entry_left (record_entries p) ≡ record_entries (without p)
record_left p = ap (with_common p) (lone_left p.common_args)

-- ---- the facts of a key

no_facts : (parts : List Part) → list_any is_fact parts ≡ false → facts_in parts ≡ []
no_facts [] h = refl
no_facts (is row ∷ parts) h = absurd (let no : true ≡ false = h in cc)
no_facts (output made ∷ parts) h = no_facts parts h
no_facts (directory ∷ parts) h = no_facts parts h
no_facts (compiler ∷ parts) h = no_facts parts h
no_facts (plan words ∷ parts) h = no_facts parts h
no_facts (asked ask name ∷ parts) h = no_facts parts h
no_facts (run words ∷ parts) h = no_facts parts h
no_facts (run_else words ∷ parts) h = no_facts parts h
no_facts (pch searched ∷ parts) h = no_facts parts h
no_facts (sources ∷ parts) h = no_facts parts h
no_facts (times ∷ parts) h = no_facts parts h

facts_added : (lexicon : Compiler → Lexicon) (c : Compiler) (e : List (List ℕ × List ℕ)) (r : RunWords) (p : Parsed) (added : List Part) → list_any is_fact added ≡ false
    → facts_in (key_of (lexicon c) c e r p ++ added) ≡ rows_told c e r (shows (lexicon c) c p) (key_record (lexicon c) c p)
facts_added lexicon c e r p added none =
    flat_map-append fact_of (key_of (lexicon c) c e r p) added
    ∙ ap (λ rows. facts_in (key_of (lexicon c) c e r p) ++ rows) (no_facts added none)
    ∙ append-nil (facts_in (key_of (lexicon c) c e r p))
    ∙ facts-of-key lexicon c e r p
    ∙ facts-told (shows (lexicon c) c p) c e r p

first_left : (c : Compiler) (e : List (List ℕ × List ℕ)) (r : RunWords) (is_shown : Bool) → filter is_left (first_rows c e r is_shown) ≡ first_rows c e r is_shown
first_left c e r is_shown = rw (other_row (codes "run-words") (run_words_fields r) refl, other_row (codes "environment") (flat_pairs e) refl) refl

told_left : (c : Compiler) (e : List (List ℕ × List ℕ)) (r : RunWords) (is_shown : Bool) (p : Parsed) → filter is_left (rows_told c e r is_shown p) ≡ rows_told c e r is_shown (without p)
told_left c e r is_shown p =
    filter-append is_left (first_rows c e r is_shown) (rows_of (record_entries p))
    ∙ ap (λ rows. rows ++ filter is_left (rows_of (record_entries p))) (first_left c e r is_shown)
    ∙ ap (λ rows. first_rows c e r is_shown ++ rows) (rows_left (record_entries p) ∙ ap rows_of (record_left p))

-- the facts of a key whose macros stand at its end, or where they are
pub facts_delivered : (lexicon : Compiler → Lexicon) (last : Bool) (c : Compiler) (e : List (List ℕ × List ℕ)) (r : RunWords) (p : Parsed) (added : List Part) → list_any is_fact added ≡ false
    → (last ≡ true → (length (macros_in (key_of (lexicon c) c e r p ++ added)) == 0) ≡ false)
    → facts_in (with_macros last (with_added added (whole_key (lexicon c) c e r p))).parts
    ≡ rows_told c e r (shows (lexicon c) c p) (stated_by (with_macros last (with_added added (whole_key (lexicon c) c e r p))) (key_record (lexicon c) c p))
facts_delivered lexicon true c e r p added none some =
    facts_left (key_of (lexicon c) c e r p ++ added)
    ∙ ap (filter is_left) (facts_added lexicon c e r p added none)
    ∙ told_left c e r (shows (lexicon c) c p) (key_record (lexicon c) c p)
    ∙ ap (λ b. rows_told c e r (shows (lexicon c) c p) (cond b (key_record (lexicon c) c p) (without (key_record (lexicon c) c p)))) (sym (some refl))
facts_delivered lexicon false c e r p added none some = facts_added lexicon c e r p added none
