-- A hit is right: what is hashed of a key decides what is stated and what was answered.
use Rattle.std.proofs.Common.{◌≡◌, ℕ, Bool, true, false, cond, List, [], ◌∷◌, ◌++◌, map, codes, refl, ap, sym, ◌∙◌, append-nil}
use Rattle.std.specs.Option.{option_to_list}
use Rattle.std.specs.Str.{bytes_eq}
use Rattle.std.proofs.lemmas.Grind.{flat_map-append}
use Rattle.scl_text.specs.Records.{Artifact, Parsed}
use Rattle.scl_description.specs.Rows.{IsRow, row_text, rows_in, behind, rests_at}
use Rattle.scl_description.proofs.RowLaws.{rows-back}
use Rattle.scl_reader.specs.declared.compiler.Compiler.{Compiler}
use Rattle.scl_reader.specs.Answers.{command_by}
use Rattle.scl_catalogue.specs.Lookup.{Lexicon}
use Rattle.scl_key.specs.declared.part.Ask.{Ask}
use Rattle.scl_key.specs.declared.part.Ask.TheVariants as asks
use Rattle.scl_key.specs.Keys.{key_of, asked_parts, asked_each, file_parts, text_parts, precompiled_parts, source_parts, refusals, response_files, searched, stamps_times, text_is_enough, telling_of}
use Rattle.scl_key.specs.Families.{has_plan, is_gcc, unset_variables, variables}
use Rattle.scl_key.specs.Known.{Known, has_macros, headers, known_in}
use Rattle.scl_key.specs.Made.{made}
use Rattle.scl_key.specs.Parts.{Part, is, output, directory, compiler, plan, asked, run, run_else, pch, sources, times, hashed, is_asked}
use Rattle.scl_key.specs.Reads.{files_perhaps}
use Rattle.scl_key.specs.Runs.{plans, plan_record, run_parts, key_runs, runs_else}
use Rattle.scl_key.specs.Told.{RunWords, flat_pairs, told}
use Rattle.scl_key.specs.Laws.{World, answered, answers, material, AreOne, CanBeHashed, HitsAreRight, ran}
use Rattle.scl_key.proofs.KeyLaws.{fact_of, facts_in, facts-decide}

-- ---- what is hashed decides rows and answers

first-row : (row : List (List ℕ)) → IsRow row → rows_in (row_text row ++ 10 ∷ []) ≡ row ∷ []
first-row row is_row = ap rows_in (sym (append-nil (row_text row ++ 10 ∷ []))) ∙ rows-back (row ∷ []) (is_row, tt)

abbrev head_row : List (List (List ℕ)) → List (List ℕ)
head_row [] = []
head_row (row ∷ rows) = row

pub one-row : (a b : List (List ℕ)) → IsRow a → IsRow b → row_text a ≡ row_text b → a ≡ b
one-row a b first second e = ap head_row (sym (first-row a first) ∙ ap (λ t. rows_in (t ++ 10 ∷ [])) e ∙ first-row b second)

-- whether a part asks, by what is hashed of its row
abbrev asks_by : List (List ℕ) → Bool
asks_by [] = true
asks_by (name ∷ rest) = cond (bytes_eq name (codes "is")) false (cond (bytes_eq name (codes "output")) false true)

asked-hashed : (ask : Ask) (name : List ℕ) → asks_by (hashed (asked ask name)) ≡ true
asked-hashed ask name = elim ask as (λ a. asks_by (hashed (asked a name)) ≡ true) [
  | asks.Env ↦ refl
  | asks.Unset ↦ refl
  | asks.File ↦ refl
  | asks.Maybe ↦ refl
  | asks.Regular ↦ refl
  | asks.SourcesIfShown ↦ refl
  | asks.RefuseIfShown ↦ refl
]

asks-hashed : (part : Part) → asks_by (hashed part) ≡ is_asked part
asks-hashed (is row) = refl
asks-hashed (output made) = refl
asks-hashed directory = refl
asks-hashed compiler = refl
asks-hashed (plan words) = refl
asks-hashed (asked ask name) = asked-hashed ask name
asks-hashed (run words) = refl
asks-hashed (run_else words) = refl
asks-hashed (pch searched) = refl
asks-hashed sources = refl
asks-hashed times = refl

-- the two lists are one, and the two others
record Both (a b : List (List (List ℕ))) (c d : List (List ℕ)) : Type 0 where
  pub rows : a ≡ b
  pub others : c ≡ d

abbrev pub head_text : List (List ℕ) → List ℕ
head_text [] = []
head_text (text ∷ texts) = text

abbrev pub tail_texts : List (List ℕ) → List (List ℕ)
tail_texts [] = []
tail_texts (text ∷ texts) = texts

abbrev pub is_none : List (List ℕ) → Bool
is_none [] = true
is_none (text ∷ texts) = false

abbrev pub answered_by : Bool → List ℕ → List (List ℕ)
answered_by asks answer = cond asks (answer ∷ []) []

-- an answer, if there is one, in front of texts
pub front : (b c : Bool) (x y : List ℕ) (xs ys : List (List ℕ)) → b ≡ c → answered_by b x ++ xs ≡ answered_by c y ++ ys → (answered_by b x ≡ answered_by c y) × (xs ≡ ys)
front true true x y xs ys e h = (ap (λ t. head_text t ∷ []) h, ap tail_texts h)
front false false x y xs ys e h = (refl, h)
front true false x y xs ys e h = absurd (let no : true ≡ false = e in cc)
front false true x y xs ys e h = absurd (let no : false ≡ true = e in cc)

material-decides : (v w : World) (a b : Compiler) (xs ys : List Part) → CanBeHashed xs → CanBeHashed ys → material v a xs ≡ material w b ys
    → Both (map hashed xs) (map hashed ys) (answers v a xs) (answers w b ys)
material-decides v w a b [] [] i j h = record { rows = refl; others = refl }
material-decides v w a b [] (y ∷ ys) i j h = absurd (let no : true ≡ false = ap is_none h in cc)
material-decides v w a b (x ∷ xs) [] i j h = absurd (let no : false ≡ true = ap is_none h in cc)
material-decides v w a b (x ∷ xs) (y ∷ ys) i j h =
    let row : hashed x ≡ hashed y = one-row (hashed x) (hashed y) i.0 j.0 (ap head_text h) in
    let asks : is_asked x ≡ is_asked y = sym (asks-hashed x) ∙ ap asks_by row ∙ asks-hashed y in
    let behind : (answered v a x ≡ answered w b y) × (material v a xs ≡ material w b ys) = front (is_asked x) (is_asked y) (v.answer a x) (w.answer b y) (material v a xs) (material w b ys) asks (ap tail_texts h) in
    let rest : Both (map hashed xs) (map hashed ys) (answers v a xs) (answers w b ys) = material-decides v w a b xs ys i.1 j.1 behind.1 in
    record {
      rows = ap (λ r. r ∷ map hashed xs) row ∙ ap (λ rs. hashed y ∷ rs) rest.rows;
      others = ap (λ o. o ++ answers v a xs) behind.0 ∙ ap (λ os. answered w b y ++ os) rest.others;
    }

-- ---- the facts of a key are those that are stated

asked-behind : (ask : Ask) (name : List ℕ) → behind (codes "is") (hashed (asked ask name)) ≡ []
asked-behind ask name = elim ask as (λ a. behind (codes "is") (hashed (asked a name)) ≡ []) [
  | asks.Env ↦ refl
  | asks.Unset ↦ refl
  | asks.File ↦ refl
  | asks.Maybe ↦ refl
  | asks.Regular ↦ refl
  | asks.SourcesIfShown ↦ refl
  | asks.RefuseIfShown ↦ refl
]

fact-behind : (part : Part) → behind (codes "is") (hashed part) ≡ fact_of part
fact-behind (is row) = refl
fact-behind (output made) = refl
fact-behind directory = refl
fact-behind compiler = refl
fact-behind (plan words) = refl
fact-behind (asked ask name) = asked-behind ask name
fact-behind (run words) = refl
fact-behind (run_else words) = refl
fact-behind (pch searched) = refl
fact-behind sources = refl
fact-behind times = refl

facts-behind : (key : List Part) → rests_at (map hashed key) (codes "is") ≡ facts_in key
facts-behind [] = refl
facts-behind (part ∷ key) = ap (λ r. r ++ rests_at (map hashed key) (codes "is")) (fact-behind part) ∙ ap (λ rs. fact_of part ++ rs) (facts-behind key)

-- ---- parts that ask are no facts

abbrev NoFacts : List Part → Type 0
NoFacts parts = facts_in parts ≡ []

no-facts-both : (a b : List Part) → NoFacts a → NoFacts b → NoFacts (a ++ b)
no-facts-both a b x y = flat_map-append fact_of a b ∙ ap (λ r. r ++ facts_in b) x ∙ y

no-facts-if : (c : Bool) (a b : List Part) → NoFacts a → NoFacts b → NoFacts (cond c a b)
no-facts-if true a b x y = x
no-facts-if false a b x y = y

no-facts-outputs : (p : Parsed) → NoFacts (map output (made p))
no-facts-outputs p = each (made p) where
  each : (outputs : List Artifact) → NoFacts (map output outputs)
  each [] = refl
  each (one ∷ outputs) = each outputs

no-facts-asked : (ask : Ask) (names : List (List ℕ)) → NoFacts (asked_each ask names)
no-facts-asked ask [] = refl
no-facts-asked ask (name ∷ names) = no-facts-asked ask names

no-facts-plans : (words : List (List (List ℕ))) → NoFacts (map plan words)
no-facts-plans [] = refl
no-facts-plans (one ∷ words) = no-facts-plans words

no-facts-runs : (words : List (List (List ℕ))) → NoFacts (map run words)
no-facts-runs [] = refl
no-facts-runs (one ∷ words) = no-facts-runs words

no-facts-else : (words : List (List (List ℕ))) → NoFacts (map run_else words)
no-facts-else [] = refl
no-facts-else (one ∷ words) = no-facts-else words

no-facts-run-parts : (macros : Bool) (c : Compiler) (p : Parsed) → NoFacts (run_parts macros c p)
no-facts-run-parts macros c p = no-facts-both (map run (key_runs macros c p)) (map run_else (runs_else c p)) (no-facts-runs (key_runs macros c p)) (no-facts-else (runs_else c p))

no-facts-precompiled : (k : Known) (c : Compiler) (p : Parsed) → NoFacts (precompiled_parts k c p)
no-facts-precompiled k c p = no-facts-if (is_gcc c) (pch (searched k p) ∷ []) [] refl refl

no-facts-sources : (k : Known) (c : Compiler) (p : Parsed) → NoFacts (source_parts k c p)
no-facts-sources k c p = no-facts-if (text_is_enough k c p) (asked asks.SourcesIfShown (telling_of c) ∷ []) (sources ∷ []) refl refl

no-facts-texts : (k : Known) (c : Compiler) (p : Parsed) → NoFacts (text_parts k c p)
no-facts-texts k c p =
    let timed : List Part = cond (stamps_times c p) (times ∷ []) [] in
    no-facts-both (run_parts (has_macros k) c p ++ precompiled_parts k c p ++ source_parts k c p ++ timed) (refusals p)
    (no-facts-both (run_parts (has_macros k) c p ++ precompiled_parts k c p ++ source_parts k c p) timed
    (no-facts-both (run_parts (has_macros k) c p ++ precompiled_parts k c p) (source_parts k c p)
    (no-facts-both (run_parts (has_macros k) c p) (precompiled_parts k c p) (no-facts-run-parts (has_macros k) c p) (no-facts-precompiled k c p))
    (no-facts-sources k c p))
    (no-facts-if (stamps_times c p) (times ∷ []) [] refl refl))
    refl

no-facts-files : (k : Known) (c : Compiler) (r : RunWords) (p : Parsed) → NoFacts (file_parts k c r p)
no-facts-files k c r p =
    let set : List Part = asked_each asks.Env (variables c) in
    let not_set : List Part = asked_each asks.Unset (unset_variables c) in
    let hashed_files : List Part = asked_each asks.File p.extra_hash_files in
    let read : List Part = asked_each asks.File (response_files r) in
    let perhaps : List Part = asked_each asks.Maybe (files_perhaps k c p) in
    no-facts-both (set ++ not_set ++ hashed_files ++ read) perhaps
    (no-facts-both (set ++ not_set ++ hashed_files) read
    (no-facts-both (set ++ not_set) hashed_files
    (no-facts-both set not_set (no-facts-asked asks.Env (variables c)) (no-facts-asked asks.Unset (unset_variables c)))
    (no-facts-asked asks.File p.extra_hash_files))
    (no-facts-asked asks.File (response_files r)))
    (no-facts-asked asks.Maybe (files_perhaps k c p))

no-facts-asking : (k : Known) (c : Compiler) (r : RunWords) (p : Parsed) → NoFacts (asked_parts k c r p)
no-facts-asking k c r p =
    let first : List Part = directory ∷ compiler ∷ [] in
    let regular : List Part = asked_each asks.Regular (p.input ∷ headers k) in
    no-facts-both (first ++ plans c p ++ file_parts k c r p ++ regular) (text_parts k c p)
    (no-facts-both (first ++ plans c p ++ file_parts k c r p) regular
    (no-facts-both (first ++ plans c p) (file_parts k c r p)
    (no-facts-both first (plans c p) refl
    (no-facts-if (has_plan c) (map plan (option_to_list (command_by c (plan_record p)))) [] (no-facts-plans (option_to_list (command_by c (plan_record p)))) refl))
    (no-facts-files k c r p))
    (no-facts-asked asks.Regular (p.input ∷ headers k)))
    (no-facts-texts k c p)

pub facts-of-key : (g : Compiler → Lexicon) (c : Compiler) (e : List (List ℕ × List ℕ)) (r : RunWords) (p : Parsed) → facts_in (key_of (g c) c e r p) ≡ facts_in (told (g c) c e r p)
facts-of-key g c e r p =
    let asking : List Part = asked_parts (known_in (g c) p) c r p in
    flat_map-append fact_of (told (g c) c e r p ++ map output (made p)) asking
    ∙ ap (λ rows. facts_in (told (g c) c e r p ++ map output (made p)) ++ rows) (no-facts-asking (known_in (g c) p) c r p)
    ∙ append-nil (facts_in (told (g c) c e r p ++ map output (made p)))
    ∙ flat_map-append fact_of (told (g c) c e r p) (map output (made p))
    ∙ ap (λ rows. facts_in (told (g c) c e r p) ++ rows) (no-facts-outputs p)
    ∙ append-nil (facts_in (told (g c) c e r p))

-- ---- hits

pub hits-right : HitsAreRight
hits-right g v w well a b e f r s p q i j h =
    let both : Both (map hashed (key_of (g a) a e r p)) (map hashed (key_of (g b) b f s q)) (answers v a (key_of (g a) a e r p)) (answers w b (key_of (g b) b f s q)) =
    material-decides v w a b (key_of (g a) a e r p) (key_of (g b) b f s q) i j h in
    let facts : facts_in (told (g a) a e r p) ≡ facts_in (told (g b) b f s q) =
    sym (facts-of-key g a e r p) ∙ sym (facts-behind (key_of (g a) a e r p)) ∙ ap (λ rows. rests_at rows (codes "is")) both.rows ∙ facts-behind (key_of (g b) b f s q) ∙ facts-of-key g b f s q in
    let one : AreOne g a b e f r s p q = facts-decide g a b e f r s p q facts in
    well a e f r s p q (record {
      environment_is = one.environment_is;
      run_words_are = one.run_words_are;
      record_is = one.record_is;
      words_are_unless_shown = one.words_are_unless_shown;
      answers_are = both.others ∙ ap (λ c. answers w c (key_of (g c) c f s q)) (sym one.compiler_is);
    })
    ∙ ap (λ c. w.outcome c (flat_pairs f) (ran c s q)) one.compiler_is
