-- A hit under a key as it is delivered is right: what is hashed decides the facts, the answers and the macros that count.
use Rattle.std.proofs.Common.{◌≡◌, ℕ, ◌==◌, ◌&&◌, not, Bool, true, false, cond, List, [], ◌∷◌, ◌++◌, codes, length, map, Option, Some, None, refl, sym, ap, ◌∙◌, append_assoc}
use Rattle.std.proofs.lemmas.Bool.{and_parts, not-true}
use Rattle.std.specs.List.{flat_map, list_all, list_any}
use Rattle.std.specs.Str.{bytes_eq}
use Rattle.scl_values.specs.Each.{Each}
use Rattle.scl_catalogue.specs.Lookup.{Lexicon}
use Rattle.scl_text.specs.Records.{Parsed}
use Rattle.scl_description.specs.Rows.{IsRow, row_text}
use Rattle.scl_description.specs.Records.{first_field}
use Rattle.scl_reader.specs.declared.compiler.Compiler.{Compiler}
use Rattle.scl_key.specs.declared.part.Ask.{Ask}
use Rattle.scl_key.specs.declared.part.Ask.TheVariants as asks
use Rattle.scl_key.specs.Known.{shows}
use Rattle.scl_key.specs.Keys.{Key, whole_key}
use Rattle.scl_key.specs.Parts.{Part, is, output, directory, compiler, plan, asked, run, run_else, pch, sources, times, hashed, is_asked}
use Rattle.scl_key.specs.Told.{key_record}
use Rattle.scl_key.specs.Laws.{World, answered, answers, material, CanBeHashed}
use Rattle.scl_key.proofs.HitLaws.{answered_by, front, head_text, is_none, one-row, tail_texts}
use Rattle.scl_key.proofs.KeyLaws.{AreToldAlike, fact_of, facts_in, rows-decide, rows_told}
use Rattle.scl_delivered.specs.Delivered.{Delivered, leaves_macros_out}
use Rattle.scl_delivered.specs.Hits.{Line, ShownWorld, with_added, key_of_line, stated, counting, shown_fields, shown_texts, is_fact, AreAlikeLines, DeliveredHitsAreRight}
use Rattle.scl_delivered.specs.Macros.{defines, macros_in, runs_in}
use Rattle.scl_delivered.proofs.DeliveredLaws.{leaving}
use Rattle.scl_delivered.proofs.FactLaws.{facts_delivered, without}

-- ---- what is hashed of a row says what it is of

-- nothing of a row `shown`; else whether it asks, and its fact
abbrev said_of : List (List ℕ) → Option (Bool × List (List (List ℕ)))
said_of [] = None
said_of (name ∷ rest) =
    cond (bytes_eq name (codes "shown")) None
    (cond (bytes_eq name (codes "is")) (Some (false, rest ∷ []))
    (cond (bytes_eq name (codes "output")) (Some (false, [])) (Some (true, []))))

asked_said : (ask : Ask) (name : List ℕ) → said_of (hashed (asked ask name)) ≡ Some (true, [])
asked_said ask name = elim ask as (λ a. said_of (hashed (asked a name)) ≡ Some (true, [])) [
  | asks.Env ↦ refl
  | asks.Unset ↦ refl
  | asks.File ↦ refl
  | asks.Maybe ↦ refl
  | asks.Regular ↦ refl
  | asks.SourcesIfShown ↦ refl
  | asks.RefuseIfShown ↦ refl
]

part_said : (part : Part) → said_of (hashed part) ≡ Some (is_asked part, fact_of part)
part_said (is row) = refl
part_said (output made) = refl
part_said directory = refl
part_said compiler = refl
part_said (plan words) = refl
part_said (asked ask name) = asked_said ask name
part_said (run words) = refl
part_said (run_else words) = refl
part_said (pch searched) = refl
part_said sources = refl
part_said times = refl

abbrev asks_by : Option (Bool × List (List (List ℕ))) → Bool
asks_by None = false
asks_by (Some said) = said.0

abbrev fact_by : Option (Bool × List (List (List ℕ))) → List (List (List ℕ))
fact_by None = []
fact_by (Some said) = said.1

abbrev is_said : Option (Bool × List (List (List ℕ))) → Bool
is_said None = false
is_said (Some said) = true

one_asks : (x y : Part) → hashed x ≡ hashed y → is_asked x ≡ is_asked y
one_asks x y h = ap asks_by (sym (part_said x) ∙ ap said_of h ∙ part_said y)

facts_said : (parts : List Part) → facts_in parts ≡ flat_map (λ row. fact_by (said_of row)) (map hashed parts)
facts_said [] = refl
facts_said (part ∷ parts) =
    ap (λ facts. facts ++ facts_in parts) (sym (ap fact_by (part_said part))) ∙ ap (λ facts. fact_by (said_of (hashed part)) ++ facts) (facts_said parts)

one_facts : (xs ys : List Part) → map hashed xs ≡ map hashed ys → facts_in xs ≡ facts_in ys
one_facts xs ys h = facts_said xs ∙ ap (flat_map (λ row. fact_by (said_of row))) h ∙ sym (facts_said ys)

not_shown : (part : Part) (word : List ℕ) → hashed part ≡ shown_fields word → ⊥
not_shown part word h = absurd (let no : true ≡ false = ap is_said (sym (part_said part) ∙ ap said_of h) in cc)

-- ---- what is hashed decides

abbrev second_of : List (List ℕ) → List ℕ
second_of [] = []
second_of (field ∷ fields) = first_field fields

abbrev pub CanBeShown : List (List ℕ) → Type 0
CanBeShown words = Each (λ word. IsRow (shown_fields word)) words

pub words_decide : (ms ns : List (List ℕ)) → CanBeShown ms → CanBeShown ns → shown_texts ms ≡ shown_texts ns → ms ≡ ns
words_decide [] [] i j h = refl
words_decide [] (n ∷ ns) i j h = absurd (let no : true ≡ false = ap is_none h in cc)
words_decide (m ∷ ms) [] i j h = absurd (let no : false ≡ true = ap is_none h in cc)
words_decide (m ∷ ms) (n ∷ ns) i j h =
    ap (λ word. word ∷ ms) (ap second_of (one-row (shown_fields m) (shown_fields n) i.0 j.0 (ap head_text h)))
    ∙ ap (λ words. n ∷ words) (words_decide ms ns i.1 j.1 (ap tail_texts h))

-- texts that do not begin with the row of a part
abbrev pub IsRest : List (List ℕ) → Type 0
IsRest [] = Unit {0}
IsRest (text ∷ texts) = (part : Part) → IsRow (hashed part) → text ≡ row_text (hashed part) → ⊥

pub shown_rest : (ms : List (List ℕ)) → CanBeShown ms → IsRest (shown_texts ms)
shown_rest [] k = tt
shown_rest (m ∷ ms) k = λ part is_row h. not_shown part m (sym (one-row (shown_fields m) (hashed part) k.0 is_row h))

-- what two texts that are hashed of parts decide, and what follows them
pub record AreDecided (v w : World) (a b : Compiler) (xs ys : List Part) (t u : List (List ℕ)) : Type 0 where
  pub rows_are : map hashed xs ≡ map hashed ys
  pub answers_are : answers v a xs ≡ answers w b ys
  pub rest_is : t ≡ u

-- what stands behind the row of the first part
behind : (v : World) (c : Compiler) (x : Part) (xs : List Part) (t : List (List ℕ))
    → answered v c x ++ material v c xs ++ t ≡ answered_by (is_asked x) (v.answer c x) ++ (material v c xs ++ t)
behind v c x xs t = append_assoc (answered v c x) (material v c xs) t

pub decides : (v w : World) (a b : Compiler) (xs ys : List Part) (t u : List (List ℕ)) → CanBeHashed xs → CanBeHashed ys → IsRest t → IsRest u
    → material v a xs ++ t ≡ material w b ys ++ u → AreDecided v w a b xs ys t u
decides v w a b [] [] t u i j k n h = record { rows_are = refl; answers_are = refl; rest_is = h }
decides v w a b [] (y ∷ ys) [] u i j k n h = absurd (let no : true ≡ false = ap is_none h in cc)
decides v w a b [] (y ∷ ys) (text ∷ t) u i j k n h = absurd (k y j.0 (ap head_text h))
decides v w a b (x ∷ xs) [] t [] i j k n h = absurd (let no : false ≡ true = ap is_none h in cc)
decides v w a b (x ∷ xs) [] t (text ∷ u) i j k n h = absurd (n x i.0 (sym (ap head_text h)))
decides v w a b (x ∷ xs) (y ∷ ys) t u i j k n h =
    let row : hashed x ≡ hashed y = one-row (hashed x) (hashed y) i.0 j.0 (ap head_text h) in
    let both : (answered v a x ≡ answered w b y) × (material v a xs ++ t ≡ material w b ys ++ u) =
    front (is_asked x) (is_asked y) (v.answer a x) (w.answer b y) (material v a xs ++ t) (material w b ys ++ u) (one_asks x y row)
    (sym (behind v a x xs t) ∙ ap tail_texts h ∙ behind w b y ys u) in
    let rest : AreDecided v w a b xs ys t u = decides v w a b xs ys t u i.1 j.1 k n both.1 in
    record {
      rows_are = ap (λ r. r ∷ map hashed xs) row ∙ ap (λ rows. hashed y ∷ rows) rest.rows_are;
      answers_are = ap (λ texts. texts ++ answers v a xs) both.0 ∙ ap (λ texts. answered w b y ++ texts) rest.answers_are;
      rest_is = rest.rest_is;
    }

-- ---- the facts of a line

some_defined : (macros : List (List ℕ)) (runs : List (List (List ℕ))) → (not (length macros == 0) && (not (length runs == 0) && list_all (defines macros) runs)) ≡ true → (length macros == 0) ≡ false
some_defined macros runs h = not-true (length macros == 0) (and_parts (not (length macros == 0)) (not (length runs == 0) && list_all (defines macros) runs) h).0

-- the facts that the key of a line has
abbrev told_of : (Compiler → Lexicon) → Line → List (List (List ℕ))
told_of lexicon l = rows_told l.compiler l.environment l.run_words (shows (lexicon l.compiler) l.compiler l.parsed) (stated lexicon l)

pub facts_of_line : (lexicon : Compiler → Lexicon) (l : Line) → list_any is_fact l.added ≡ false → facts_in (key_of_line lexicon l).parts ≡ told_of lexicon l
facts_of_line lexicon l none =
    let key : Key = with_added l.added (whole_key (lexicon l.compiler) l.compiler l.environment l.run_words l.parsed) in
    facts_delivered lexicon (not l.keeps_macros && leaves_macros_out (lexicon l.compiler) l.compiler l.parsed key) l.compiler l.environment l.run_words l.parsed l.added none
    (λ last. some_defined (macros_in key.parts) (runs_in key.parts) (leaving (lexicon l.compiler) l.compiler l.parsed key l.keeps_macros last))

abbrev pub AreOneLine : (Compiler → Lexicon) → Line → Line → Type 0
AreOneLine lexicon l m =
    AreToldAlike l.compiler m.compiler l.environment m.environment l.run_words m.run_words (shows (lexicon l.compiler) l.compiler l.parsed) (shows (lexicon m.compiler) m.compiler m.parsed) (stated lexicon l) (stated lexicon m)

-- the facts of two keys decide their lines
pub lines_decide : (lexicon : Compiler → Lexicon) (l m : Line) → list_any is_fact l.added ≡ false → list_any is_fact m.added ≡ false → facts_in (key_of_line lexicon l).parts ≡ facts_in (key_of_line lexicon m).parts
    → AreOneLine lexicon l m
lines_decide lexicon l m none neither h =
    rows-decide l.compiler m.compiler l.environment m.environment l.run_words m.run_words (shows (lexicon l.compiler) l.compiler l.parsed) (shows (lexicon m.compiler) m.compiler m.parsed) (stated lexicon l) (stated lexicon m)
    (sym (facts_of_line lexicon l none) ∙ h ∙ facts_of_line lexicon m neither)

-- ---- words of the preprocessor

words_by : (none : Bool) (p : Parsed) → (cond none p (without p)).preprocessor_args ≡ p.preprocessor_args
words_by true p = refl
words_by false p = refl

words_unless : (x y : Bool) (ps qs : List (List ℕ)) → x ≡ false → x ≡ y → cond x [] ps ≡ cond y [] qs → ps ≡ qs
words_unless x y ps qs off same h = sym (ap (λ b. cond b [] ps) off) ∙ h ∙ ap (λ b. cond b [] qs) (sym same ∙ off)

preprocessor_words : (lexicon : Compiler → Lexicon) (l : Line) → (stated lexicon l).preprocessor_args ≡ cond (shows (lexicon l.compiler) l.compiler l.parsed) [] l.parsed.preprocessor_args
preprocessor_words lexicon l = words_by (length (key_of_line lexicon l).shown == 0) (key_record (lexicon l.compiler) l.compiler l.parsed)

-- ---- hits

-- lines are alike, if the rows, the answers and the macros are
pub alike : (lexicon : Compiler → Lexicon) (v w : ShownWorld) (l m : Line) → list_any is_fact l.added ≡ false → list_any is_fact m.added ≡ false
    → map hashed (key_of_line lexicon l).parts ≡ map hashed (key_of_line lexicon m).parts
    → answers v.world l.compiler (key_of_line lexicon l).parts ≡ answers w.world m.compiler (key_of_line lexicon m).parts
    → counting v l.compiler (key_of_line lexicon l) ≡ counting w m.compiler (key_of_line lexicon m)
    → AreAlikeLines lexicon v w l m
alike lexicon v w l m none neither rows all macros =
    let one : AreOneLine lexicon l m = lines_decide lexicon l m none neither (one_facts (key_of_line lexicon l).parts (key_of_line lexicon m).parts rows) in
    record {
      compiler_is = one.compiler_is;
      environment_is = one.environment_is;
      run_words_are = one.run_words_are;
      record_is = one.record_is;
      words_are_unless_shown = λ off.
          words_unless (shows (lexicon l.compiler) l.compiler l.parsed) (shows (lexicon m.compiler) m.compiler m.parsed) l.parsed.preprocessor_args m.parsed.preprocessor_args off one.shows_is
          (sym (preprocessor_words lexicon l) ∙ ap (λ (p : Parsed). p.preprocessor_args) one.record_is ∙ preprocessor_words lexicon m);
      rows_are = rows;
      answers_are = all;
      macros_are = macros;
    }

pub delivered_hits_are_right : DeliveredHitsAreRight
delivered_hits_are_right = λ lexicon v w is_meant well l m i j h.
    let a : Compiler = l.compiler in
    let b : Compiler = m.compiler in
    let d : Delivered = key_of_line lexicon l in
    let g : Delivered = key_of_line lexicon m in
    let ms : List (List ℕ) = counting v a d in
    let ns : List (List ℕ) = counting w b g in
    let all : AreDecided v.world w.world a b d.parts g.parts (shown_texts ms) (shown_texts ns) =
    decides v.world w.world a b d.parts g.parts (shown_texts ms) (shown_texts ns) i.are_rows j.are_rows
    (shown_rest ms i.are_shown_rows) (shown_rest ns j.are_shown_rows) h in
    well l m i.meant j.meant
    (alike lexicon v w l m i.adds_no_fact j.adds_no_fact all.rows_are all.answers_are (words_decide ms ns i.are_shown_rows j.are_shown_rows all.rest_is))
