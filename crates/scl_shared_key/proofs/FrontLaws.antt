-- What stands before the first `/` of a word tells what it makes the object name.
use Rattle.std.proofs.Common.{◌≡◌, ℕ, nat_eq, ◌==◌, ◌&&◌, ◌||◌, not, Bool, true, false, cond, List, [], ◌∷◌, ◌++◌, find, unwrap_or, Option, Some, None, refl, sym, ap, ◌∙◌, ◌⊎◌, inl, inr}
use Rattle.std.proofs.lemmas.Bool.{and_parts, and_right, cases_Bool, false≢true, not-true}
use Rattle.std.proofs.lemmas.Slice.Eq.{bytes_eq-Decides}
use Rattle.std.specs.List.{list_all, list_any, starts_with}
use Rattle.std.specs.Option.{option_map}
use Rattle.std.specs.Str.{bytes_eq}
use Rattle.scl_base_dirs.specs.Cuts.{has_none}
use Rattle.scl_catalogue.specs.Form.{Pattern, Text, Demand, Marked, Value, Part, Test, Group, Relation, Condition, Case, Entry}
use Rattle.scl_catalogue.specs.Found.{OptionSeen, compared, fits, in_group, is_met, is_of, name_by, one_fits, passes, serves, test_passes}
use Rattle.scl_catalogue.specs.Keyed.{first_group}
use Rattle.scl_catalogue.specs.Lookup.{Lexicon, Said, naming_of, word_seen}
use Rattle.scl_catalogue.specs.Numbered.{numbers_in}
use Rattle.scl_catalogue.specs.Speaking.{asks_for, begins_with, case_speaks_of, relation_at, speaks_of}
use Rattle.scl_catalogue.specs.declared.case.Compiler.{Compiler}
use Rattle.scl_catalogue.specs.declared.case.Version.{Version}
use Rattle.scl_catalogue.specs.declared.entry.Naming.{Naming}
use Rattle.scl_catalogue.specs.declared.entry.Naming.TheVariants as naming
use Rattle.scl_catalogue.specs.declared.seen.Standing.TheVariants as standing
use Rattle.scl_catalogue.specs.declared.speaking.Level.TheVariants as level
use Rattle.scl_catalogue.specs.declared.test.Class.{Class}
use Rattle.scl_catalogue.specs.declared.test.Class.TheVariants as class
use Rattle.scl_catalogue.specs.declared.text.How.{How}
use Rattle.scl_catalogue.specs.declared.text.How.TheVariants as how
use Rattle.scl_catalogue.proofs.NumberLemmas.{pass_over_none}
use Rattle.scl_shared_key.specs.Fronts.{AreNumbered, asks_by_fronts, is_case_of_fronts, is_condition_of_fronts, is_from_front, is_group_of_fronts, is_pattern_of_fronts, is_said_by_fronts, is_test_of_fronts, is_text_of_fronts}
use Rattle.scl_shared_key.specs.Laws.{FrontsTellNamings}

-- ---- tests that are alike

-- tests that are alike on these elements find alike
pub find_alike : {X : Type 0} (ok p q : X → Bool) → ((x : X) → ok x ≡ true → p x ≡ q x) → (xs : List X) → list_all ok xs ≡ true → find p xs ≡ find q xs
find_alike ok p q same [] h = refl
find_alike ok p q same (x ∷ xs) h =
    let both = and_parts (ok x) (list_all ok xs) h in
    ap (λ b. cond b (Some x) (find p xs)) (same x both.0) ∙ ap (λ o. cond (q x) (Some x) o) (find_alike ok p q same xs both.1)

any_alike : {X : Type 0} (ok p q : X → Bool) → ((x : X) → ok x ≡ true → p x ≡ q x) → (xs : List X) → list_all ok xs ≡ true → list_any p xs ≡ list_any q xs
any_alike ok p q same [] h = refl
any_alike ok p q same (x ∷ xs) h =
    let both = and_parts (ok x) (list_all ok xs) h in
    ap (λ (b : Bool). b || list_any p xs) (same x both.0) ∙ ap (λ (b : Bool). q x || b) (any_alike ok p q same xs both.1)

all_alike : {X : Type 0} (p q : X → Bool) → ((x : X) → p x ≡ q x) → (xs : List X) → list_all p xs ≡ list_all q xs
all_alike p q same [] = refl
all_alike p q same (x ∷ xs) = ap (λ (b : Bool). b && list_all p xs) (same x) ∙ ap (λ (b : Bool). q x && b) (all_alike p q same xs)

both_alike : (a b c d : Bool) → a ≡ c → b ≡ d → (a && b) ≡ (c && d)
both_alike a b c d h k = ap (λ (x : Bool). x && b) h ∙ ap (λ (x : Bool). c && x) k

-- what is asked only where a test passes
guarded : (b ok x y : Bool) → (not b || ok) ≡ true → (ok ≡ true → x ≡ y) → (b && x) ≡ (b && y)
guarded true ok x y h same = same h
guarded false ok x y h same = refl

-- ---- texts

pub starts_alike : (front one other text : List ℕ) → has_none 0x2f text ≡ true → starts_with nat_eq (front ++ 0x2f ∷ one) text ≡ starts_with nat_eq (front ++ 0x2f ∷ other) text
starts_alike front one other [] h = refl
starts_alike [] one other (t ∷ ts) h = let apart = not-true (t == 0x2f) (and_parts (not (t == 0x2f)) (has_none 0x2f ts) h).0 in rw apart refl
starts_alike (x ∷ front) one other (t ∷ ts) h = ap (λ (b : Bool). nat_eq t x && b) (starts_alike front one other ts (and_parts (not (t == 0x2f)) (has_none 0x2f ts) h).1)

has_slash : (front rest : List ℕ) → has_none 0x2f (front ++ 0x2f ∷ rest) ≡ false
has_slash [] rest = refl
has_slash (x ∷ front) rest = and_right (not (x == 0x2f)) (has_none 0x2f (front ++ 0x2f ∷ rest)) (has_slash front rest)

equal_no : (text front rest : List ℕ) → has_none 0x2f text ≡ true → (bytes_eq text (front ++ 0x2f ∷ rest) ≡ true) ⊎ (bytes_eq text (front ++ 0x2f ∷ rest) ≡ false) → bytes_eq text (front ++ 0x2f ∷ rest) ≡ false
equal_no text front rest h (inl passes) =
    let same : text ≡ front ++ 0x2f ∷ rest = (bytes_eq-Decides text (front ++ 0x2f ∷ rest)).0 passes in
    absurd (false≢true (sym (has_slash front rest) ∙ ap (has_none 0x2f) (sym same) ∙ h))
equal_no text front rest h (inr fails) = fails

equal_alike : (front one other text : List ℕ) → has_none 0x2f text ≡ true → bytes_eq text (front ++ 0x2f ∷ one) ≡ bytes_eq text (front ++ 0x2f ∷ other)
equal_alike front one other text h =
    equal_no text front one h (cases_Bool (bytes_eq text (front ++ 0x2f ∷ one))) ∙ sym (equal_no text front other h (cases_Bool (bytes_eq text (front ++ 0x2f ∷ other))))

compared_alike : (front one other : List ℕ) (h : How) (text : List ℕ) → (is_from_front h && has_none 0x2f text) ≡ true
    → compared h text (front ++ 0x2f ∷ one) ≡ compared h text (front ++ 0x2f ∷ other)
compared_alike front one other how.Is text h = equal_alike front one other text h
compared_alike front one other how.Begins text h = starts_alike front one other text h
compared_alike front one other how.Ends text h = absurd (false≢true h)
compared_alike front one other how.Holds text h = absurd (false≢true h)

-- ---- tests of words

abbrev at_front : (front rest : List ℕ) → List ℕ
at_front front rest = front ++ 0x2f ∷ rest

fits_alike : (front one other : List ℕ) (p : Pattern) → is_pattern_of_fronts p ≡ true → fits p (at_front front one) ≡ fits p (at_front front other)
fits_alike front one other p h = compared_alike front one other p.how p.text h

one_fits_alike : (front one other : List ℕ) (ps : List Pattern) → list_all is_pattern_of_fronts ps ≡ true → one_fits ps (at_front front one) ≡ one_fits ps (at_front front other)
one_fits_alike front one other ps h =
    any_alike is_pattern_of_fronts (λ p. fits p (at_front front one)) (λ p. fits p (at_front front other)) (fits_alike front one other) ps h

passes_alike : (front one other : List ℕ) (t : Text) → is_text_of_fronts t ≡ true → passes t (at_front front one) ≡ passes t (at_front front other)
unfolding passes
passes_alike front one other t h =
    let both = and_parts (list_all is_pattern_of_fronts t.any) (list_all is_pattern_of_fronts t.but) h in
    both_alike (one_fits t.any (at_front front one)) (not (one_fits t.but (at_front front one))) (one_fits t.any (at_front front other)) (not (one_fits t.but (at_front front other)))
    (one_fits_alike front one other t.any both.0) (ap not (one_fits_alike front one other t.but both.1))

named_alike : (front one other : List ℕ) (c : Class) (names : Text) → is_text_of_fronts names ≡ true
    → passes names (name_by c (word_seen (at_front front one))) ≡ passes names (name_by c (word_seen (at_front front other)))
named_alike front one other class.Option names h = passes_alike front one other names h
named_alike front one other class.Raw names h = passes_alike front one other names h
named_alike front one other class.Unknown names h = passes_alike front one other names h
named_alike front one other class.Flag names h = passes_alike front one other names h
named_alike front one other class.Kind names h = refl

-- the value of a word is empty, and it has no mark
met_alike : (word other : List ℕ) (d : Demand) → is_met (word_seen word) d ≡ is_met (word_seen other) d
met_alike word other (Marked m) = refl
met_alike word other (Value text) = refl
met_alike word other (Part text) = refl

test_alike : (front one other : List ℕ) (t : Test) → is_test_of_fronts t ≡ true → test_passes t (word_seen (at_front front one)) ≡ test_passes t (word_seen (at_front front other))
unfolding test_passes
test_alike front one other t h =
    let here = word_seen (at_front front one) in
    let there = word_seen (at_front front other) in
    guarded (is_of t.class standing.Unknown) (is_text_of_fronts t.names)
    (passes t.names (name_by t.class here) && list_all (is_met here) t.demands) (passes t.names (name_by t.class there) && list_all (is_met there) t.demands)
    h
    (λ ok. both_alike (passes t.names (name_by t.class here)) (list_all (is_met here) t.demands) (passes t.names (name_by t.class there)) (list_all (is_met there) t.demands)
    (named_alike front one other t.class t.names ok)
    (all_alike (is_met here) (is_met there) (met_alike (at_front front one) (at_front front other)) t.demands))

group_alike : (front one other : List ℕ) (g : Group) → is_group_of_fronts g ≡ true → in_group g (word_seen (at_front front one)) ≡ in_group g (word_seen (at_front front other))
unfolding in_group
group_alike front one other g h =
    any_alike is_test_of_fronts (λ t. test_passes t (word_seen (at_front front one))) (λ t. test_passes t (word_seen (at_front front other))) (test_alike front one other) g.tests h

-- ---- entries

relation_alike : (front one other : List ℕ) (r : Option Relation) → asks_by_fronts r ≡ true → begins_with (word_seen (at_front front one)) r ≡ begins_with (word_seen (at_front front other)) r
relation_alike front one other None h = refl
relation_alike front one other (Some r) h = group_alike front one other (first_group r) h

condition_alike : (front one other : List ℕ) (c : Condition) → is_condition_of_fronts c ≡ true
    → asks_for level.Outer (word_seen (at_front front one)) c ≡ asks_for level.Outer (word_seen (at_front front other)) c
condition_alike front one other c h = ap (λ (b : Bool). not c.is_denied && b) (relation_alike front one other (relation_at level.Outer c.question) h)

case_alike : (compiler : Compiler) (version : Option Version) (front one other : List ℕ) (c : Case) → is_case_of_fronts c ≡ true
    → case_speaks_of compiler version level.Outer (word_seen (at_front front one)) c ≡ case_speaks_of compiler version level.Outer (word_seen (at_front front other)) c
case_alike compiler version front one other c h =
    ap (λ (b : Bool). list_any (serves compiler version) c.served && b)
    (any_alike is_condition_of_fronts (asks_for level.Outer (word_seen (at_front front one))) (asks_for level.Outer (word_seen (at_front front other)))
    (condition_alike front one other) c.conditions h)

-- an entry with the numbers of its cases speaks of what they speak of
by_cases : (compiler : Compiler) (version : Option Version) (o : OptionSeen) (e : Entry) → e.numbers ≡ numbers_in e.cases
    → speaks_of compiler version level.Outer o e ≡ list_any (case_speaks_of compiler version level.Outer o) e.cases
unfolding speaks_of
by_cases compiler version o e n = rw n (pass_over_none e.tells e.name e.says e.cases compiler version level.Outer o)

entry_alike : (compiler : Compiler) (version : Option Version) (front one other : List ℕ) (e : Entry) → list_all is_case_of_fronts e.cases ≡ true → e.numbers ≡ numbers_in e.cases
    → speaks_of compiler version level.Outer (word_seen (at_front front one)) e ≡ speaks_of compiler version level.Outer (word_seen (at_front front other)) e
entry_alike compiler version front one other e h n =
    by_cases compiler version (word_seen (at_front front one)) e n
    ∙ any_alike is_case_of_fronts (case_speaks_of compiler version level.Outer (word_seen (at_front front one)))
    (case_speaks_of compiler version level.Outer (word_seen (at_front front other))) (case_alike compiler version front one other) e.cases h
    ∙ sym (by_cases compiler version (word_seen (at_front front other)) e n)

-- whether the entry speaks of the word
abbrev speaks : Lexicon → List ℕ → Said Naming → Bool
speaks l word s = speaks_of l.compiler l.version level.Outer (word_seen word) s.entry

said_alike : (l : Lexicon) (front one other : List ℕ) (s : Said Naming) → is_said_by_fronts s ≡ true → s.entry.numbers ≡ numbers_in s.entry.cases
    → speaks l (at_front front one) s ≡ speaks l (at_front front other) s
said_alike l front one other s h n = entry_alike l.compiler l.version front one other s.entry h n

found_alike : (l : Lexicon) (front one other : List ℕ) (ss : List (Said Naming)) → list_all is_said_by_fronts ss ≡ true → AreNumbered ss
    → find (speaks l (at_front front one)) ss ≡ find (speaks l (at_front front other)) ss
found_alike l front one other [] h n = refl
found_alike l front one other (s ∷ ss) h n =
    let both = and_parts (is_said_by_fronts s) (list_all is_said_by_fronts ss) h in
    ap (λ b. cond b (Some s) (find (speaks l (at_front front one)) ss)) (said_alike l front one other s both.0 n.0)
    ∙ ap (λ o. cond (speaks l (at_front front other) s) (Some s) o) (found_alike l front one other ss both.1 n.1)

pub fronts_tell_namings : FrontsTellNamings
unfolding naming_of
fronts_tell_namings = λ l front one other h.
    ap (λ (found : Option (Said Naming)). unwrap_or (option_map (λ s. s.says) found) naming.Anything)
    (found_alike l front one other l.names h.0 h.1)
