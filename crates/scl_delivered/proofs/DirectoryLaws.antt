-- A hit is right with base directories too: a key is read back from what is told of it, and no other begins as a told one does.
use Rattle.std.proofs.Common.{◌≡◌, ℕ, ◌^◌, ◌<◌, ◌==◌, Bool, true, false, cond, List, [], ◌∷◌, ◌++◌, codes, filter, length, map, Option, Some, None, unwrap_or, refl, sym, ap, subst, ◌∙◌, append_assoc, if◌then◌else◌}
use Rattle.std.proofs.lemmas.Bool.{false_from_ne_true, false≢true}
use Rattle.std.specs.List.{flat_map}
use Rattle.std.specs.Option.{option_map}
use Rattle.scl_base_dirs.specs.Unmapped.{unmapped}
use Rattle.scl_catalogue.specs.Lookup.{Lexicon}
use Rattle.scl_description.specs.Rows.{lone, row_text}
use Rattle.scl_reader.specs.declared.compiler.Compiler.{Compiler}
use Rattle.scl_key.specs.declared.part.Ask.{Ask}
use Rattle.scl_key.specs.declared.part.Ask.TheVariants as asks
use Rattle.scl_key.specs.Keys.{Key, whole_key}
use Rattle.scl_key.specs.Parts.{Part, is, output, directory, compiler, plan, asked, run, run_else, pch, sources, times, ask_name, hashed}
use Rattle.scl_key.specs.Laws.{World, material, CanBeHashed}
use Rattle.scl_key.proofs.HitLaws.{head_text, is_none, tail_texts}
use Rattle.scl_shared_key.specs.Fields.{told_field, told_row}
use Rattle.scl_shared_key.specs.Verdicts.{Verdict, verdict}
use Rattle.scl_delivered.specs.Delivered.{Delivered, is_told_by_bases, names_none, object_by, told_by, told_part}
use Rattle.scl_delivered.specs.Hits.{AnswersAreToldApart, DirectHitsWithDirectoriesAreRight, HitsWithDirectoriesAreRight, IsHashed, IsHashedBy, IsRightLine, Line, MacrosCountAsShown, NothingIsToldWithoutDirectories, ToldKeysStandApart, ToldWorld, counting, counting_by, is_told, key_by, key_of_line, line_material, line_material_by, nevertheless_rows, nevertheless_texts, outcome_of, shown_texts, told_material, told_there, with_added}
use Rattle.scl_delivered.specs.Rows.{nevertheless}
use Rattle.scl_delivered.proofs.DeliveredLaws.{by}
use Rattle.scl_delivered.proofs.DirectLaws.{delivered_direct_hits_are_right, without_verdict}
use Rattle.scl_delivered.proofs.HitLaws.{AreDecided, CanBeShown, IsRest, alike, decides, delivered_hits_are_right, shown_rest, words_decide}
use Rattle.scl_delivered.proofs.ToldLaws.{field_back, row_back}

-- ---- a key with directories

-- the key is the other, told or not
abbrev IsTold : List (List ℕ) → Bool → (d other : Delivered) → Type 0
IsTold dirs told d other =
    (d.parts ≡ cond told (map (told_part dirs) other.parts) other.parts)
    × (d.shown ≡ cond told (told_row dirs other.shown) other.shown)
    × (d.direct ≡ cond told [] other.direct)

nothing_is_told : (d : Delivered) → d.verdict ≡ None → is_told_by_bases d ≡ false
nothing_is_told d none = ap (λ (said : Option Verdict). unwrap_or (option_map (λ one. names_none one.in_object) said) false) none

told_as : (told : Bool) (dirs : List (List ℕ)) (said : Verdict) (d : Delivered) → IsTold dirs told (by told dirs said d) d
told_as true dirs said d = (refl, refl, refl)
told_as false dirs said d = (refl, refl, refl)

told_if : (told : Bool) (dirs : List (List ℕ)) (said : Verdict) (d : Delivered) → is_told_by_bases (by told dirs said d) ≡ names_none said.in_object
told_if true dirs said d = refl
told_if false dirs said d = refl

with_dirs : (none : Bool) (dirs : List (List ℕ)) (said : Verdict) (d : Delivered) → d.verdict ≡ None
    → IsTold dirs (is_told_by_bases (if none then d else told_by dirs said d)) (if none then d else told_by dirs said d) d
with_dirs true dirs said d none = subst (λ (told : Bool). IsTold dirs told d d) (sym (nothing_is_told d none)) (refl, refl, refl)
with_dirs false dirs said d none =
    let told = names_none said.in_object in
    subst (λ (b : Bool). IsTold dirs b (by told dirs said d) d) (sym (told_if told dirs said d)) (told_as told dirs said d)

line_told : (lexicon : Compiler → Lexicon) (dirs : List (List ℕ)) (l : Line) → IsTold dirs (is_told lexicon dirs l) (key_by lexicon dirs l) (key_of_line lexicon l)
line_told lexicon dirs l =
    let key : Key = with_added l.added (whole_key (lexicon l.compiler) l.compiler l.environment l.run_words l.parsed) in
    with_dirs (length dirs == 0) dirs (verdict dirs (object_by (lexicon l.compiler) l.compiler l.parsed key)) (key_of_line lexicon l) (without_verdict lexicon l)

parts_by : (lexicon : Compiler → Lexicon) (dirs : List (List ℕ)) (l : Line) (told : Bool) → is_told lexicon dirs l ≡ told → (key_by lexicon dirs l).parts ≡ cond told (map (told_part dirs) (key_of_line lexicon l).parts) (key_of_line lexicon l).parts
parts_by lexicon dirs l told e = (line_told lexicon dirs l).0 ∙ ap (λ b. cond b (map (told_part dirs) (key_of_line lexicon l).parts) (key_of_line lexicon l).parts) e

shown_by : (lexicon : Compiler → Lexicon) (dirs : List (List ℕ)) (l : Line) (told : Bool) → is_told lexicon dirs l ≡ told → (key_by lexicon dirs l).shown ≡ cond told (told_row dirs (key_of_line lexicon l).shown) (key_of_line lexicon l).shown
shown_by lexicon dirs l told e = (line_told lexicon dirs l).1 ∙ ap (λ b. cond b (told_row dirs (key_of_line lexicon l).shown) (key_of_line lexicon l).shown) e

-- ---- what is hashed with directories

abbrev counting_if : (Compiler → Lexicon) → Bool → List (List ℕ) → ToldWorld → Line → List (List ℕ)
counting_if lexicon told dirs v l =
    if told then filter (λ word. v.shown.counts l.compiler (key_of_line lexicon l) (unmapped dirs word)) (key_by lexicon dirs l).shown else counting v.shown l.compiler (key_of_line lexicon l)

abbrev material_if : (Compiler → Lexicon) → Bool → List (List ℕ) → ToldWorld → Line → List (List ℕ)
material_if lexicon told dirs v l =
    (if told then told_material dirs v l.compiler (key_by lexicon dirs l) else material v.shown.world l.compiler (key_by lexicon dirs l).parts)
    ++ shown_texts (counting_if lexicon told dirs v l)

material_by : (lexicon : Compiler → Lexicon) (dirs : List (List ℕ)) (v : ToldWorld) (l : Line) (told : Bool) → is_told lexicon dirs l ≡ told → line_material_by lexicon dirs v l ≡ material_if lexicon told dirs v l
material_by lexicon dirs v l told e = ap (λ b. material_if lexicon b dirs v l) e

counted_by : (lexicon : Compiler → Lexicon) (dirs : List (List ℕ)) (v : ToldWorld) (l : Line) (told : Bool) → is_told lexicon dirs l ≡ told → counting_by lexicon dirs v l ≡ counting_if lexicon told dirs v l
counted_by lexicon dirs v l told e = ap (λ b. counting_if lexicon b dirs v l) e

-- a key that is not told is hashed as it is without directories
stands : (lexicon : Compiler → Lexicon) (dirs : List (List ℕ)) (v : ToldWorld) (l : Line) → is_told lexicon dirs l ≡ false → line_material_by lexicon dirs v l ≡ line_material lexicon v.shown l
stands lexicon dirs v l e =
    material_by lexicon dirs v l false e
    ∙ ap (λ (parts : List Part). material v.shown.world l.compiler parts ++ shown_texts (counting v.shown l.compiler (key_of_line lexicon l))) (parts_by lexicon dirs l false e)

pub nothing_is_told_without_directories : NothingIsToldWithoutDirectories
nothing_is_told_without_directories = λ lexicon v l. stands lexicon [] v l (nothing_is_told (key_of_line lexicon l) (without_verdict lexicon l))

-- ---- told keys stand apart

-- the text begins as the name of a row `bases` does
abbrev is_of_bases : List ℕ → Bool
is_of_bases [] = false
is_of_bases (byte ∷ bytes) = byte == 0x62

asked_begins : (ask : Ask) (name : List ℕ) → is_of_bases (row_text (hashed (asked ask name))) ≡ false
asked_begins ask name = elim ask as (λ a. is_of_bases (row_text (hashed (asked a name))) ≡ false) [
  | asks.Env ↦ refl
  | asks.Unset ↦ refl
  | asks.File ↦ refl
  | asks.Maybe ↦ refl
  | asks.Regular ↦ refl
  | asks.SourcesIfShown ↦ refl
  | asks.RefuseIfShown ↦ refl
]

-- no part does
part_begins : (part : Part) → is_of_bases (row_text (hashed part)) ≡ false
part_begins (is row) = refl
part_begins (output made) = refl
part_begins directory = refl
part_begins compiler = refl
part_begins (plan words) = refl
part_begins (asked ask name) = asked_begins ask name
part_begins (run words) = refl
part_begins (run_else words) = refl
part_begins (pch searched) = refl
part_begins sources = refl
part_begins times = refl

no_part : (part : Part) (text : List ℕ) → is_of_bases text ≡ true → text ≡ row_text (hashed part) → ⊥
no_part part text begins h = false≢true (sym (part_begins part) ∙ ap is_of_bases (sym h) ∙ begins)

apart : (w : World) (c : Compiler) (parts : List Part) (words texts : List (List ℕ)) → row_text (lone (codes "bases")) ∷ texts ≡ material w c parts ++ shown_texts words → ⊥
apart w c [] [] texts h = absurd (let no : false ≡ true = ap is_none h in cc)
apart w c [] (word ∷ words) texts h = false≢true (sym (ap (λ (all : List (List ℕ)). is_of_bases (head_text all)) h))
apart w c (part ∷ parts) words texts h = no_part part (row_text (lone (codes "bases"))) refl (ap head_text h)

-- the rows of a told key after the first
abbrev behind_first : (Compiler → Lexicon) → List (List ℕ) → ToldWorld → Line → List (List ℕ)
behind_first lexicon dirs v l = material (told_there dirs v) l.compiler (key_by lexicon dirs l).parts ++ nevertheless_texts v l.compiler (key_by lexicon dirs l) ++ shown_texts (counting_if lexicon true dirs v l)

pub told_keys_stand_apart : ToldKeysStandApart
told_keys_stand_apart = λ lexicon dirs others v w l m told stands_as_it_is h.
    apart w.shown.world m.compiler (key_by lexicon others m).parts (counting_if lexicon false others w m) (behind_first lexicon dirs v l)
    (sym (material_by lexicon dirs v l true told) ∙ h ∙ material_by lexicon others w m false stands_as_it_is)

-- ---- parts are read back from what is hashed of them

name_back : (dirs : List (List ℕ)) (ask : Ask) → unmapped dirs (ask_name ask) ≡ ask_name ask
name_back dirs ask = elim ask as (λ a. unmapped dirs (ask_name a) ≡ ask_name a) [
  | asks.Env ↦ refl
  | asks.Unset ↦ refl
  | asks.File ↦ refl
  | asks.Maybe ↦ refl
  | asks.Regular ↦ refl
  | asks.SourcesIfShown ↦ refl
  | asks.RefuseIfShown ↦ refl
]

optional_back : (dirs : List (List ℕ)) (b : Bool) → map (unmapped dirs) (if b then codes "optional" ∷ [] else []) ≡ (if b then codes "optional" ∷ [] else [])
optional_back dirs true = refl
optional_back dirs false = refl

hashed_back : (dirs : List (List ℕ)) (part : Part) → length dirs < 2 ^ 64 → map (unmapped dirs) (hashed (told_part dirs part)) ≡ hashed part
hashed_back dirs (is row) few = ap (λ (rest : List (List ℕ)). codes "is" ∷ rest) (row_back dirs row few)
hashed_back dirs (output made) few =
    ap (λ (rest : List (List ℕ)). codes "output" ∷ unmapped dirs (told_field dirs made.name) ∷ unmapped dirs (told_field dirs made.path) ∷ rest) (optional_back dirs made.optional)
    ∙ ap (λ (names : List (List ℕ)). codes "output" ∷ names ++ (if made.optional then codes "optional" ∷ [] else [])) (row_back dirs (made.name ∷ made.path ∷ []) few)
hashed_back dirs directory few = refl
hashed_back dirs compiler few = refl
hashed_back dirs (plan words) few = refl
hashed_back dirs (asked ask name) few =
    ap (λ (first : List ℕ). first ∷ unmapped dirs (told_field dirs name) ∷ []) (name_back dirs ask)
    ∙ ap (λ (rest : List (List ℕ)). ask_name ask ∷ rest) (row_back dirs (name ∷ []) few)
hashed_back dirs (run words) few = refl
hashed_back dirs (run_else words) few = refl
hashed_back dirs (pch searched) few = refl
hashed_back dirs sources few = refl
hashed_back dirs times few = refl

all_back : (dirs : List (List ℕ)) (parts : List Part) → length dirs < 2 ^ 64 → map (map (unmapped dirs)) (map hashed (map (told_part dirs) parts)) ≡ map hashed parts
all_back dirs [] few = refl
all_back dirs (part ∷ parts) few =
    ap (λ (row : List (List ℕ)). row ∷ map (map (unmapped dirs)) (map hashed (map (told_part dirs) parts))) (hashed_back dirs part few)
    ∙ ap (λ (rows : List (List (List ℕ))). hashed part ∷ rows) (all_back dirs parts few)

-- the rows of a told key with the directories put back
rows_back : (lexicon : Compiler → Lexicon) (dirs : List (List ℕ)) (l : Line) → length dirs < 2 ^ 64 → is_told lexicon dirs l ≡ true → map (map (unmapped dirs)) (map hashed (key_by lexicon dirs l).parts) ≡ map hashed (key_of_line lexicon l).parts
rows_back lexicon dirs l few told = ap (λ (parts : List Part). map (map (unmapped dirs)) (map hashed parts)) (parts_by lexicon dirs l true told) ∙ all_back dirs (key_of_line lexicon l).parts few

-- ---- macros are read back

word_by : (counts : Bool) (dirs : List (List ℕ)) (word : List ℕ) (words : List (List ℕ))
    → map (unmapped dirs) (cond counts (word ∷ words) words) ≡ cond counts (unmapped dirs word ∷ map (unmapped dirs) words) (map (unmapped dirs) words)
word_by true dirs word words = refl
word_by false dirs word words = refl

words_back : (dirs : List (List ℕ)) (counts : List ℕ → Bool) (words : List (List ℕ)) → length dirs < 2 ^ 64
    → map (unmapped dirs) (filter (λ word. counts (unmapped dirs word)) (told_row dirs words)) ≡ filter counts words
words_back dirs counts [] few = refl
words_back dirs counts (word ∷ words) few =
    let told = told_field dirs word in
    let rest = filter (λ word. counts (unmapped dirs word)) (told_row dirs words) in
    word_by (counts (unmapped dirs told)) dirs told rest
    ∙ ap (λ (first : List ℕ). cond (counts first) (first ∷ map (unmapped dirs) rest) (map (unmapped dirs) rest)) (field_back dirs word few)
    ∙ ap (λ (left : List (List ℕ)). cond (counts word) (word ∷ left) left) (words_back dirs counts words few)

counting_back : (lexicon : Compiler → Lexicon) (dirs : List (List ℕ)) (v : ToldWorld) (l : Line) → length dirs < 2 ^ 64 → is_told lexicon dirs l ≡ true
    → map (unmapped dirs) (counting_if lexicon true dirs v l) ≡ counting v.shown l.compiler (key_of_line lexicon l)
counting_back lexicon dirs v l few told =
    let counts = v.shown.counts l.compiler (key_of_line lexicon l) in
    ap (λ (words : List (List ℕ)). map (unmapped dirs) (filter (λ word. counts (unmapped dirs word)) words)) (shown_by lexicon dirs l true told)
    ∙ words_back dirs counts (key_of_line lexicon l).shown few

-- ---- the end of a told key

-- the rows at the end with what is answered to them, and those of macros
abbrev ending : Option Verdict → (List (List ℕ) → List ℕ) → List (List ℕ) → List (List ℕ)
ending said answer words = flat_map (λ row. row_text row ∷ answer row ∷ []) (nevertheless_rows said) ++ shown_texts words

ending_rest : (said : Option Verdict) (answer : List (List ℕ) → List ℕ) (words : List (List ℕ)) → CanBeShown words → IsRest (ending said answer words)
unfolding nevertheless
ending_rest None answer words are = shown_rest words are
ending_rest (Some said) answer words are = λ part is_row h. no_part part (row_text (lone (codes "bases-if-beside"))) refl h

abbrev names_none_if : Option Verdict → Bool
names_none_if said = unwrap_or (option_map (λ one. names_none one.in_object) said) false

ending_decides : (said other : Option Verdict) (answer replies : List (List ℕ) → List ℕ) (words more : List (List ℕ)) → names_none_if said ≡ true → names_none_if other ≡ true
    → ending said answer words ≡ ending other replies more → shown_texts words ≡ shown_texts more
unfolding nevertheless
ending_decides None other answer replies words more told tells h = absurd (false≢true told)
ending_decides (Some said) None answer replies words more told tells h = absurd (false≢true tells)
ending_decides (Some said) (Some other) answer replies words more told tells h =
    ap (λ texts. tail_texts (tail_texts (tail_texts (tail_texts (tail_texts (tail_texts texts)))))) h

-- ---- hits

hashed_stands : (lexicon : Compiler → Lexicon) (dirs : List (List ℕ)) (is_meant : Line → Bool) (v : ToldWorld) (l : Line) → is_told lexicon dirs l ≡ false → IsHashedBy lexicon dirs is_meant v l → IsHashed lexicon is_meant v.shown l
hashed_stands lexicon dirs is_meant v l e i = record {
  meant = i.meant;
  adds_no_fact = i.adds_no_fact;
  are_rows = subst CanBeHashed (parts_by lexicon dirs l false e) i.are_rows;
  are_shown_rows = subst CanBeShown (counted_by lexicon dirs v l false e) i.are_shown_rows;
}

told_hits : (lexicon : Compiler → Lexicon) (dirs : List (List ℕ)) (v w : ToldWorld) (is_meant : Line → Bool)
    → length dirs < 2 ^ 64 → MacrosCountAsShown lexicon is_meant v.shown w.shown → AnswersAreToldApart lexicon dirs is_meant v w
    → (l m : Line) → IsHashedBy lexicon dirs is_meant v l → IsHashedBy lexicon dirs is_meant w m → is_told lexicon dirs l ≡ true → is_told lexicon dirs m ≡ true
    → line_material_by lexicon dirs v l ≡ line_material_by lexicon dirs w m → outcome_of v.shown l ≡ outcome_of w.shown m
told_hits lexicon dirs v w is_meant few well told_apart l m i j told tells h =
    let a : Compiler = l.compiler in
    let b : Compiler = m.compiler in
    let d : Delivered = key_by lexicon dirs l in
    let g : Delivered = key_by lexicon dirs m in
    let ms : List (List ℕ) = counting_if lexicon true dirs v l in
    let ns : List (List ℕ) = counting_if lexicon true dirs w m in
    let can : CanBeShown ms = subst CanBeShown (counted_by lexicon dirs v l true told) i.are_shown_rows in
    let also : CanBeShown ns = subst CanBeShown (counted_by lexicon dirs w m true tells) j.are_shown_rows in
    let xs : List (List ℕ) = material (told_there dirs v) a d.parts in
    let ys : List (List ℕ) = material (told_there dirs w) b g.parts in
    let t : List (List ℕ) = ending d.verdict (v.nevertheless a d) ms in
    let u : List (List ℕ) = ending g.verdict (w.nevertheless b g) ns in
    let one : xs ++ t ≡ ys ++ u =
    sym (append_assoc xs (nevertheless_texts v a d) (shown_texts ms))
    ∙ ap tail_texts (sym (material_by lexicon dirs v l true told) ∙ h ∙ material_by lexicon dirs w m true tells)
    ∙ append_assoc ys (nevertheless_texts w b g) (shown_texts ns) in
    let all : AreDecided (told_there dirs v) (told_there dirs w) a b d.parts g.parts t u =
    decides (told_there dirs v) (told_there dirs w) a b d.parts g.parts t u i.are_rows j.are_rows
    (ending_rest d.verdict (v.nevertheless a d) ms can) (ending_rest g.verdict (w.nevertheless b g) ns also) one in
    let macros : ms ≡ ns =
    words_decide ms ns can also (ending_decides d.verdict g.verdict (v.nevertheless a d) (w.nevertheless b g) ms ns told tells all.rest_is) in
    well l m i.meant j.meant
    (alike lexicon v.shown w.shown l m i.adds_no_fact j.adds_no_fact
    (sym (rows_back lexicon dirs l few told) ∙ ap (map (map (unmapped dirs))) all.rows_are ∙ rows_back lexicon dirs m few tells)
    (told_apart l m i.meant j.meant told tells all.rows_are all.answers_are)
    (sym (counting_back lexicon dirs v l few told) ∙ ap (map (unmapped dirs)) macros ∙ counting_back lexicon dirs w m few tells))

hits_if : (lexicon : Compiler → Lexicon) (told tells : Bool) (dirs : List (List ℕ)) (v w : ToldWorld) (is_meant : Line → Bool)
    → length dirs < 2 ^ 64 → MacrosCountAsShown lexicon is_meant v.shown w.shown → AnswersAreToldApart lexicon dirs is_meant v w
    → (l m : Line) → IsHashedBy lexicon dirs is_meant v l → IsHashedBy lexicon dirs is_meant w m → is_told lexicon dirs l ≡ told → is_told lexicon dirs m ≡ tells
    → line_material_by lexicon dirs v l ≡ line_material_by lexicon dirs w m → outcome_of v.shown l ≡ outcome_of w.shown m
hits_if lexicon true true dirs v w is_meant few well told_apart l m i j e f h = told_hits lexicon dirs v w is_meant few well told_apart l m i j e f h
hits_if lexicon true false dirs v w is_meant few well told_apart l m i j e f h = absurd (told_keys_stand_apart lexicon dirs dirs v w l m e f h)
hits_if lexicon false true dirs v w is_meant few well told_apart l m i j e f h = absurd (told_keys_stand_apart lexicon dirs dirs w v m l f e (sym h))
hits_if lexicon false false dirs v w is_meant few well told_apart l m i j e f h =
    delivered_hits_are_right lexicon v.shown w.shown is_meant well l m (hashed_stands lexicon dirs is_meant v l e i) (hashed_stands lexicon dirs is_meant w m f j)
    (sym (stands lexicon dirs v l e) ∙ h ∙ stands lexicon dirs w m f)

pub hits_with_directories_are_right : HitsWithDirectoriesAreRight
hits_with_directories_are_right = λ lexicon dirs v w is_meant few well told_apart l m i j h.
    hits_if lexicon (is_told lexicon dirs l) (is_told lexicon dirs m) dirs v w is_meant few well told_apart l m i j refl refl h

-- a key that has rows `direct` is not told
stands_if_direct : (lexicon : Compiler → Lexicon) (dirs : List (List ℕ)) (l : Line) → ((key_by lexicon dirs l).direct ≡ [] → ⊥) → is_told lexicon dirs l ≡ false
stands_if_direct lexicon dirs l some = false_from_ne_true (is_told lexicon dirs l) (λ told. some ((line_told lexicon dirs l).2 ∙ ap (λ b. cond b [] (key_of_line lexicon l).direct) told))

pub direct_hits_with_directories_are_right : DirectHitsWithDirectoriesAreRight
direct_hits_with_directories_are_right = λ lexicon dirs v w i j is_meant well decided l m may some more x y k n firsts.
    let e : is_told lexicon dirs l ≡ false = stands_if_direct lexicon dirs l some in
    let f : is_told lexicon dirs m ≡ false = stands_if_direct lexicon dirs m more in
    let right : IsRightLine lexicon v.shown w.shown l m =
    delivered_direct_hits_are_right lexicon v.shown w.shown i j is_meant well decided l m may (hashed_stands lexicon dirs is_meant v l e x) (hashed_stands lexicon dirs is_meant w m f y) k n firsts in
    (stands lexicon dirs v l e ∙ right.key_is ∙ sym (stands lexicon dirs w m f), right.outcome_is)
