-- The lines of a catalogue's text, read again.
use Rattle.std.proofs.Common.{◌≡◌, ◌∙◌, ℕ, ◌+◌, ◌==◌, Bool, true, false, not, ◌||◌, List, [], ◌∷◌, ◌++◌, map, codes, Option, None, Some, Result, Ok, append_assoc, refl, sym, ap}
use Rattle.std.proofs.lemmas.Bool.{not-true}
use Rattle.std.proofs.lemmas.List.{append-nil}
use Rattle.std.specs.Char.{is_ascii_control}
use Rattle.std.specs.List.{list_all, list_any}
use Rattle.std.specs.Option.{option_map}
use Rattle.std.specs.Str.{bytes_eq}
use Rattle.scl_catalogue.specs.Form.{Group, Case, Test, Tells, Hazard, Effect, Plain, Key, Run, Names, Brings, Entry, Catalogue}
use Rattle.scl_catalogue.specs.declared.case.Compiler.{Compiler}
use Rattle.scl_catalogue.specs.declared.case.Compiler.TheVariants as compiler
use Rattle.scl_catalogue.specs.Numbered.{numbers_in}
use Rattle.scl_catalogue.specs.declared.entry.Brings as declared
use Rattle.scl_catalogue.specs.declared.entry.Brings.TheVariants as brings
use Rattle.scl_catalogue.specs.declared.entry.Danger.{Danger}
use Rattle.scl_catalogue.specs.declared.entry.Danger.TheVariants as danger
use Rattle.scl_catalogue.specs.declared.entry.Doing.{Doing}
use Rattle.scl_catalogue.specs.declared.entry.Doing.TheVariants as doing
use Rattle.scl_catalogue.specs.declared.entry.Naming.{Naming}
use Rattle.scl_catalogue.specs.declared.entry.Naming.TheVariants as naming
use Rattle.scl_catalogue.specs.declared.entry.Verb.{Verb}
use Rattle.scl_catalogue.specs.declared.entry.Verb.TheVariants as verb
use Rattle.scl_catalogue.specs.declared.numbers.NumberSet.{NumberSet}
use Rattle.scl_catalogue_text.specs.Cutting.{first_word, from_mark, other_words, parts, until_mark, words}
use Rattle.scl_catalogue_text.specs.Files.{has_its_options}
use Rattle.scl_catalogue_text.specs.Lines.{NewCase, NewEntry, NewGroup, Nothing, Open, Says, SoFar, added, effect_read, entry_of_open, group_line_by, group_line_read, kind_read, line_by, line_read, lines_read, name_read, read, tells_named, with_last, with_line}
use Rattle.scl_catalogue_text.specs.Names.{brings_name, brings_named, compiler_name, danger_name, danger_named, doing_name, doing_named, kind_name, naming_name, naming_named, verb_name, verb_named}
use Rattle.scl_catalogue_text.specs.Outcome.{after}
use Rattle.scl_catalogue_text.specs.Reading.{case_read, group_named, tests_read}
use Rattle.scl_catalogue_text.specs.Writable.{AreCases, AreEntries, AreGroups, CanBeWritten, IsCase, IsEntry, are_tests, has_one, HasWords, is_group_name, is_plain_word, is_served}
use Rattle.scl_catalogue_text.specs.Written.{case_text, condition_text, entry_lines, group_line, head_text, joined, lines_of, lines_of_entries, lines_text, spaced, tests_text, written}
use Rattle.scl_catalogue_text.specs.declared.mistake.BadLine.{BadLine}
use Rattle.scl_catalogue_text.specs.declared.names.Kind.{Kind}
use Rattle.scl_catalogue_text.specs.declared.names.Kind.TheVariants as kind
use Rattle.scl_catalogue_text.proofs.CaseLemmas.{begins-compiler, case-bytes, case-written}
use Rattle.scl_catalogue_text.proofs.ConditionLemmas.{is_of_line}
use Rattle.scl_catalogue_text.proofs.GroupLemmas.{is_of_name, is_of_tests, lacks-all, name-unbroken, of-tests, other-than-control, tests-control, tests-written}
use Rattle.scl_catalogue_text.proofs.SplitLemmas.{behind-none, first-word, from-append, is_unbroken, other-words, parts-lines, until-append, words-spaced}
use Rattle.scl_catalogue_text.proofs.TestLemmas.{all-append, and-left, and-right, both, lacks-passed, lacks_mark}
use Rattle.scl_catalogue_text.proofs.TextLemmas.{spaced-bytes}

-- ---- groups

group-head : (gs : List Group) (xs : List ℕ) → line_read gs (codes "group" ++ 32 ∷ xs) ≡ group_line_read gs (32 ∷ xs)
unfolding line_read line_by first_word other_words
group-head gs xs = refl

first-none : first_word [] ≡ []
unfolding first_word
first-none = refl

word-alone : (w : List ℕ) → is_unbroken w ≡ true → first_word (32 ∷ w) ≡ w
unfolding first_word
word-alone w h = ap first_word (sym (append-nil w)) ∙ first-word w [] h behind-none

nothing-behind : (w : List ℕ) → is_unbroken w ≡ true → other_words (32 ∷ w) ≡ []
unfolding other_words
nothing-behind w h = ap other_words (sym (append-nil w)) ∙ other-words w [] h behind-none

group-by-name : (gs : List Group) (name rest : List ℕ) (ts : List Test) → has_one name ≡ true → group_named gs name ≡ None → tests_read rest ≡ Ok ts → group_line_by gs name (58 ∷ rest) ≡ Ok (NewGroup (record { name = name; tests = ts }))
unfolding group_line_by
group-by-name gs [] rest ts o h k = let no : false ≡ true = o in cc
group-by-name gs (b ∷ name) rest ts o h k = rw (h, k) refl

group-line-by : (gs : List Group) (name : List ℕ) (ts : List Test) → is_group_name name ≡ true → are_tests ts ≡ true → group_named gs name ≡ None → group_line_read gs (32 ∷ (name ++ 58 ∷ tests_text ts)) ≡ Ok (NewGroup (record { name = name; tests = ts }))
unfolding group_line_read
group-line-by gs name ts h k l =
    let rest : List ℕ = tests_text ts in
    let lacking : lacks_mark 58 name ≡ true = lacks-passed is_of_name 58 refl name (and-right (has_one name) (list_all is_of_name name) h) in
    let until : until_mark 58 (name ++ 58 ∷ rest) ≡ name = until-append 58 name (58 ∷ rest) lacking ∙ append-nil name in
    let from : from_mark 58 (name ++ 58 ∷ rest) ≡ 58 ∷ rest = from-append 58 name (58 ∷ rest) lacking in
    let unbroken : is_unbroken name ≡ true = name-unbroken name h in
    rw (until, from, nothing-behind name unbroken, word-alone name unbroken, first-none) (group-by-name gs name rest ts (and-left (has_one name) (list_all is_of_name name) h) l (tests-written ts k))

group-written-line : (gs : List Group) (g : Group) → is_group_name g.name ≡ true → are_tests g.tests ≡ true → group_named gs g.name ≡ None → line_read gs (group_line g) ≡ Ok (NewGroup g)
group-written-line gs g h k l = group-head gs (g.name ++ 58 ∷ tests_text g.tests) ∙ group-line-by gs g.name g.tests h k l

-- ---- entries

abbrev is_of_word : ℕ → Bool
is_of_word b = not (list_any (λ m. b == m) (32 ∷ []) || is_ascii_control b)

plain-unbroken : (name : List ℕ) → is_plain_word name ≡ true → is_unbroken name ≡ true
plain-unbroken name h = both (and-left (has_one name) (list_all is_of_word name) h) (lacks-passed is_of_word 32 refl name (and-right (has_one name) (list_all is_of_word name) h))

plain-line : (name : List ℕ) → is_plain_word name ≡ true → list_all is_of_line name ≡ true
plain-line name h = lacks-all is_of_word [] name (other-than-control (32 ∷ [])) refl (and-right (has_one name) (list_all is_of_word name) h)

-- a word by which a text names this
record IsNamed {A : Type 0} (named : List ℕ → Option A) (name : List ℕ) (x : A) : Type 0 where
  read : named name ≡ Some x
  unbroken : is_unbroken name ≡ true
  bytes : list_all is_of_line name ≡ true

danger-name : (d : Danger) → IsNamed danger_named (danger_name d) d
danger-name danger.Object = record { read = refl; unbroken = refl; bytes = refl }
danger-name danger.Failure = record { read = refl; unbroken = refl; bytes = refl }
danger-name danger.SideFile = record { read = refl; unbroken = refl; bytes = refl }
danger-name danger.Messages = record { read = refl; unbroken = refl; bytes = refl }
danger-name danger.Run = record { read = refl; unbroken = refl; bytes = refl }

verb-name : (v : Verb) → IsNamed verb_named (verb_name v) v
verb-name verb.Reads = record { read = refl; unbroken = refl; bytes = refl }
verb-name verb.Writes = record { read = refl; unbroken = refl; bytes = refl }
verb-name verb.Asks = record { read = refl; unbroken = refl; bytes = refl }
verb-name verb.Loads = record { read = refl; unbroken = refl; bytes = refl }

doing-name : (d : Doing) → IsNamed doing_named (doing_name d) d
doing-name doing.Plain = record { read = refl; unbroken = refl; bytes = refl }
doing-name doing.Exact = record { read = refl; unbroken = refl; bytes = refl }
doing-name doing.Macros = record { read = refl; unbroken = refl; bytes = refl }
doing-name doing.WritesUnnamed = record { read = refl; unbroken = refl; bytes = refl }
doing-name doing.TextHides = record { read = refl; unbroken = refl; bytes = refl }
doing-name doing.ReadsCounts = record { read = refl; unbroken = refl; bytes = refl }
doing-name doing.ReadsSamples = record { read = refl; unbroken = refl; bytes = refl }

naming-name : (n : Naming) → IsNamed naming_named (naming_name n) n
naming-name naming.Nothing = record { read = refl; unbroken = refl; bytes = refl }
naming-name naming.DebugInfo = record { read = refl; unbroken = refl; bytes = refl }
naming-name naming.FileMap = record { read = refl; unbroken = refl; bytes = refl }
naming-name naming.DebugMap = record { read = refl; unbroken = refl; bytes = refl }
naming-name naming.MacroMap = record { read = refl; unbroken = refl; bytes = refl }
naming-name naming.Anything = record { read = refl; unbroken = refl; bytes = refl }

brings-name : (b : declared.Brings) → IsNamed brings_named (brings_name b) b
brings-name brings.Folder = record { read = refl; unbroken = refl; bytes = refl }
brings-name brings.Header = record { read = refl; unbroken = refl; bytes = refl }
brings-name brings.MacroFile = record { read = refl; unbroken = refl; bytes = refl }
brings-name brings.Other = record { read = refl; unbroken = refl; bytes = refl }
brings-name brings.Dependencies = record { read = refl; unbroken = refl; bytes = refl }
brings-name brings.Unknown = record { read = refl; unbroken = refl; bytes = refl }

effect-head : (gs : List Group) (xs : List ℕ) → line_read gs (codes "effect" ++ 32 ∷ xs) ≡ effect_read (words (32 ∷ xs))
unfolding line_read line_by first_word other_words
effect-head gs xs = refl

plain-head : (gs : List Group) (xs : List ℕ) → line_read gs (codes "plain" ++ 32 ∷ xs) ≡ name_read Plain (words (32 ∷ xs))
unfolding line_read line_by first_word other_words
plain-head gs xs = refl

kind-head : (k : Kind) (gs : List Group) (xs : List ℕ) → line_read gs (kind_name k ++ 32 ∷ xs) ≡ kind_read k (words (32 ∷ xs))
unfolding line_read line_by first_word other_words
kind-head kind.Hazard gs xs = refl
kind-head kind.Key gs xs = refl
kind-head kind.Run gs xs = refl
kind-head kind.Names gs xs = refl
kind-head kind.Brings gs xs = refl

name-read : (tells : Tells) (name : List ℕ) → is_plain_word name ≡ true → name_read tells (words (spaced (name ∷ []))) ≡ Ok (NewEntry tells name)
unfolding name_read
name-read tells name h =
    let cut : words (spaced (name ∷ [])) ≡ name ∷ [] = words-spaced (name ∷ []) (both (plain-unbroken name h) refl) in
    ap (name_read tells) cut

kind-written : (gs : List Group) (k : Kind) (name what : List ℕ) (tells : Tells) → is_plain_word name ≡ true → is_unbroken what ≡ true → tells_named k what ≡ Some tells → line_read gs (kind_name k ++ spaced (name ∷ what ∷ [])) ≡ Ok (NewEntry tells name)
unfolding kind_read
kind-written gs k name what tells h unbroken told =
    let cut : words (spaced (name ∷ what ∷ [])) ≡ name ∷ what ∷ [] = words-spaced (name ∷ what ∷ []) (both (plain-unbroken name h) (both unbroken refl)) in
    kind-head k gs (name ++ spaced (what ∷ [])) ∙ (ap (kind_read k) cut ∙ rw told refl)

head-written : (gs : List Group) (tells : Tells) (name : List ℕ) → is_plain_word name ≡ true → HasWords tells → line_read gs (head_text tells name) ≡ Ok (NewEntry tells name)
unfolding effect_read
head-written gs (Hazard d) name h k = kind-written gs kind.Hazard name (danger_name d) (Hazard d) h (danger-name d).unbroken (ap (option_map Hazard) (danger-name d).read)
head-written gs (Effect v file) name h k =
    let cut : words (spaced (name ∷ verb_name v ∷ file ∷ [])) ≡ name ∷ verb_name v ∷ file ∷ [] = words-spaced (name ∷ verb_name v ∷ file ∷ []) (both (plain-unbroken name h) (both (verb-name v).unbroken (both (plain-unbroken file k.0) refl))) in
    effect-head gs (name ++ spaced (verb_name v ∷ file ∷ [])) ∙ (ap effect_read cut ∙ rw ((verb-name v).read, k.1) refl)
head-written gs Plain name h k = plain-head gs (name ++ []) ∙ name-read Plain name h
head-written gs (Key d) name h k = kind-written gs kind.Key name (doing_name d) (Key d) h (doing-name d).unbroken (ap (option_map Key) (doing-name d).read)
head-written gs (Run d) name h k = kind-written gs kind.Run name (doing_name d) (Run d) h (doing-name d).unbroken (ap (option_map Run) (doing-name d).read)
head-written gs (Names n) name h k = kind-written gs kind.Names name (naming_name n) (Names n) h (naming-name n).unbroken (ap (option_map Names) (naming-name n).read)
head-written gs (Brings b) name h k = kind-written gs kind.Brings name (brings_name b) (Brings b) h (brings-name b).unbroken (ap (option_map Brings) (brings-name b).read)

says-written : (gs : List Group) (says : List ℕ) → line_read gs (codes "  says " ++ says) ≡ Ok (Says says)
unfolding line_read line_by first_word other_words
says-written gs says = refl

case-head : (gs : List Group) (c : Compiler) (xs : List ℕ) → line_read gs (32 ∷ 32 ∷ (compiler_name c ++ xs)) ≡ after (case_read gs (32 ∷ 32 ∷ (compiler_name c ++ xs))) (λ case. Ok (NewCase case))
unfolding line_read line_by first_word other_words
case-head gs compiler.Gcc xs = refl
case-head gs compiler.Clang xs = refl
case-head gs compiler.ClangCl xs = refl
case-head gs compiler.Cl xs = refl
case-head gs compiler.Diab xs = refl
case-head gs compiler.Tasking xs = refl

case-line : (gs : List Group) (c : Case) → IsCase gs c → line_read gs (case_text c) ≡ Ok (NewCase c)
case-line gs c h =
    let b = begins-compiler c.served (58 ∷ joined 59 (map condition_text c.conditions)) (and-left (has_one c.served) (list_all is_served c.served) h.served) in
    ap (line_read gs) b.is ∙ (case-head gs b.compiler b.rest ∙ (ap (λ xs. after (case_read gs xs) (λ case. Ok (NewCase case))) (sym b.is) ∙ rw (case-written gs c h) refl))

nothing-line : (gs : List Group) → line_read gs [] ≡ Ok Nothing
unfolding line_read first_word
nothing-line gs = refl

-- ---- lines without control characters

group-line-bytes : (g : Group) → is_group_name g.name ≡ true → are_tests g.tests ≡ true → list_all is_of_line (group_line g) ≡ true
group-line-bytes g h k =
    all-append is_of_line g.name (58 ∷ tests_text g.tests) (lacks-all is_of_name [] g.name (other-than-control (32 ∷ 58 ∷ 59 ∷ 62 ∷ [])) refl (and-right (has_one g.name) (list_all is_of_name g.name) h)) (lacks-all is_of_tests [] (tests_text g.tests) tests-control refl (of-tests g.tests k))

kind-bytes : (k : Kind) (name what : List ℕ) → is_plain_word name ≡ true → list_all is_of_line what ≡ true → list_all is_of_line (kind_name k ++ spaced (name ∷ what ∷ [])) ≡ true
kind-bytes kind.Hazard name what h w = spaced-bytes is_of_line refl (name ∷ what ∷ []) (both (plain-line name h) (both w refl))
kind-bytes kind.Key name what h w = spaced-bytes is_of_line refl (name ∷ what ∷ []) (both (plain-line name h) (both w refl))
kind-bytes kind.Run name what h w = spaced-bytes is_of_line refl (name ∷ what ∷ []) (both (plain-line name h) (both w refl))
kind-bytes kind.Names name what h w = spaced-bytes is_of_line refl (name ∷ what ∷ []) (both (plain-line name h) (both w refl))
kind-bytes kind.Brings name what h w = spaced-bytes is_of_line refl (name ∷ what ∷ []) (both (plain-line name h) (both w refl))

head-bytes : (tells : Tells) (name : List ℕ) → is_plain_word name ≡ true → HasWords tells → list_all is_of_line (head_text tells name) ≡ true
head-bytes (Hazard d) name h k = kind-bytes kind.Hazard name (danger_name d) h (danger-name d).bytes
head-bytes (Effect v file) name h k = spaced-bytes is_of_line refl (name ∷ verb_name v ∷ file ∷ []) (both (plain-line name h) (both (verb-name v).bytes (both (plain-line file k.0) refl)))
head-bytes Plain name h k = spaced-bytes is_of_line refl (name ∷ []) (both (plain-line name h) refl)
head-bytes (Key d) name h k = kind-bytes kind.Key name (doing_name d) h (doing-name d).bytes
head-bytes (Run d) name h k = kind-bytes kind.Run name (doing_name d) h (doing-name d).bytes
head-bytes (Names n) name h k = kind-bytes kind.Names name (naming_name n) h (naming-name n).bytes
head-bytes (Brings b) name h k = kind-bytes kind.Brings name (brings_name b) h (brings-name b).bytes

without-control : (bs : List ℕ) → list_all is_of_line bs ≡ true → list_any is_ascii_control bs ≡ false
without-control [] h = refl
without-control (b ∷ bs) h = rw (not-true (is_ascii_control b) (and-left (is_of_line b) (list_all is_of_line bs) h), without-control bs (and-right (is_of_line b) (list_all is_of_line bs) h)) refl

line-added : (s : SoFar) (line : List ℕ) → list_all is_of_line line ≡ true → with_line s line ≡ after (line_read s.groups line) (added s)
line-added s line h = rw (without-control line h) refl

-- ---- texts

abbrev state : List Group → List Entry → Option Open → SoFar
state gs es last = record { groups = gs; entries = es; last = last }

-- a line that adds to what is read so far
step : (n : ℕ) (s next : SoFar) (line : List ℕ) (lines : List (List ℕ)) → with_line s line ≡ Ok next → lines_read n s (line ∷ lines) ≡ lines_read (n + 1) next lines
step n s next line lines h = rw h refl

groups-read : (gs above : List Group) (n : ℕ) (rest : List (List ℕ)) (r : Result Catalogue BadLine) → AreGroups above gs → ((m : ℕ) → lines_read m (state (above ++ gs) [] None) rest ≡ r) → lines_read n (state above [] None) (map group_line gs ++ rest) ≡ r
groups-read [] above n rest r h k = ap (λ gs. lines_read n (state gs [] None) rest) (sym (append-nil above)) ∙ k n
groups-read (g ∷ gs) above n rest r h k =
    let line : line_read above (group_line g) ≡ Ok (NewGroup g) = group-written-line above g h.0 h.1 h.2 in
    let read : with_line (state above [] None) (group_line g) ≡ Ok (state (above ++ g ∷ []) [] None) = line-added (state above [] None) (group_line g) (group-line-bytes g h.0 h.1) ∙ rw line refl in
    step n (state above [] None) (state (above ++ g ∷ []) [] None) (group_line g) (map group_line gs ++ rest) read
    ∙ groups-read gs (above ++ g ∷ []) (n + 1) rest r h.3 (λ m. ap (λ all. lines_read m (state all [] None) rest) (append_assoc above (g ∷ []) gs) ∙ k m)

abbrev open_with : Tells → List ℕ → List ℕ → List Case → Open
open_with tells name says cases = record { tells = tells; name = name; says = says; cases = cases }

-- an entry is made of what is open, where it has the numbers of its cases
opened : (e : Entry) → e.numbers ≡ numbers_in e.cases → entry_of_open (open_with e.tells e.name e.says e.cases) ≡ e
opened e h = ap (λ (ns : NumberSet). record { tells = e.tells; name = e.name; says = e.says; cases = e.cases; numbers = ns }) (sym h)

cases-read : (cs before : List Case) (gs : List Group) (es : List Entry) (tells : Tells) (name says : List ℕ) (n : ℕ) (rest : List (List ℕ)) (r : Result Catalogue BadLine) → AreCases gs cs → list_all (has_its_options tells) cs ≡ true
    → ((m : ℕ) → lines_read m (state gs es (Some (open_with tells name says (before ++ cs)))) rest ≡ r) → lines_read n (state gs es (Some (open_with tells name says before))) (map case_text cs ++ rest) ≡ r
cases-read [] before gs es tells name says n rest r h o k = ap (λ cs. lines_read n (state gs es (Some (open_with tells name says cs))) rest) (sym (append-nil before)) ∙ k n
cases-read (c ∷ cs) before gs es tells name says n rest r h o k =
    let line : line_read gs (case_text c) ≡ Ok (NewCase c) = case-line gs c h.0 in
    let read : with_line (state gs es (Some (open_with tells name says before))) (case_text c) ≡ Ok (state gs es (Some (open_with tells name says (before ++ c ∷ [])))) = line-added (state gs es (Some (open_with tells name says before))) (case_text c) (case-bytes gs c h.0) ∙ rw (line, and-left (has_its_options tells c) (list_all (has_its_options tells) cs) o) refl in
    step n (state gs es (Some (open_with tells name says before))) (state gs es (Some (open_with tells name says (before ++ c ∷ [])))) (case_text c) (map case_text cs ++ rest) read
    ∙ cases-read cs (before ++ c ∷ []) gs es tells name says (n + 1) rest r h.1 (and-right (has_its_options tells c) (list_all (has_its_options tells) cs) o) (λ m. ap (λ all. lines_read m (state gs es (Some (open_with tells name says all))) rest) (append_assoc before (c ∷ []) cs) ∙ k m)

head-added : (gs : List Group) (es above : List Entry) (last : Option Open) (tells : Tells) (name : List ℕ) → with_last es last ≡ above → list_any (λ other. bytes_eq other.name name) above ≡ false → list_all is_of_line (head_text tells name) ≡ true → line_read gs (head_text tells name) ≡ Ok (NewEntry tells name)
    → with_line (state gs es last) (head_text tells name) ≡ Ok (state gs above (Some (open_with tells name [] [])))
head-added gs es above last tells name e h bytes line = line-added (state gs es last) (head_text tells name) bytes ∙ rw (line, e, h) refl

entries-read : (entries above : List Entry) (gs : List Group) (es : List Entry) (last : Option Open) (n : ℕ) → with_last es last ≡ above → AreEntries gs above entries → lines_read n (state gs es last) (lines_of_entries entries ++ [] ∷ []) ≡ Ok (record { groups = gs; entries = above ++ entries })
entries-read [] above gs es last n e h = rw (nothing-line gs, e) (ap (λ all. Ok (record { groups = gs; entries = all })) (sym (append-nil above)))
entries-read (f ∷ entries) above gs es last n e h =
    let is = h.0 in
    let rest : List (List ℕ) = lines_of_entries entries ++ [] ∷ [] in
    let head = head-added gs es above last f.tells f.name e h.1 (head-bytes f.tells f.name is.name is.tells) (head-written gs f.tells f.name is.name is.tells) in
    let said : with_line (state gs above (Some (open_with f.tells f.name [] []))) (codes "  says " ++ f.says) ≡ Ok (state gs above (Some (open_with f.tells f.name f.says []))) = line-added (state gs above (Some (open_with f.tells f.name [] []))) (codes "  says " ++ f.says) is.says ∙ rw (says-written gs f.says) refl in
    let made : Open = open_with f.tells f.name f.says f.cases in
    let closing : above ++ entry_of_open made ∷ [] ≡ above ++ f ∷ [] = ap (λ (e : Entry). above ++ e ∷ []) (opened f is.numbers) in
    let others : (m : ℕ) → lines_read m (state gs above (Some made)) rest ≡ Ok (record { groups = gs; entries = above ++ f ∷ entries }) =
    λ m. entries-read entries (above ++ f ∷ []) gs above (Some made) m closing h.2 ∙ ap (λ all. Ok (record { groups = gs; entries = all })) (append_assoc above (f ∷ []) entries) in
    ap (lines_read n (state gs es last)) (append_assoc (entry_lines f) (lines_of_entries entries) ([] ∷ []))
    ∙ (step n (state gs es last) (state gs above (Some (open_with f.tells f.name [] []))) (head_text f.tells f.name) ((codes "  says " ++ f.says) ∷ (map case_text f.cases ++ rest)) head
    ∙ (step (n + 1) (state gs above (Some (open_with f.tells f.name [] []))) (state gs above (Some (open_with f.tells f.name f.says []))) (codes "  says " ++ f.says) (map case_text f.cases ++ rest) said
    ∙ cases-read f.cases [] gs above f.tells f.name f.says (n + 1 + 1) rest (Ok (record { groups = gs; entries = above ++ f ∷ entries })) is.cases is.options others))

-- ---- lines without line ends

line-lacks : (bs : List ℕ) → list_all is_of_line bs ≡ true → lacks_mark 10 bs ≡ true
line-lacks bs h = lacks-passed is_of_line 10 refl bs h

groups-lack : (gs above : List Group) → AreGroups above gs → list_all (lacks_mark 10) (map group_line gs) ≡ true
groups-lack [] above h = refl
groups-lack (g ∷ gs) above h = both (line-lacks (group_line g) (group-line-bytes g h.0 h.1)) (groups-lack gs (above ++ g ∷ []) h.3)

cases-lack : (cs : List Case) (gs : List Group) → AreCases gs cs → list_all (lacks_mark 10) (map case_text cs) ≡ true
cases-lack [] gs h = refl
cases-lack (c ∷ cs) gs h = both (line-lacks (case_text c) (case-bytes gs c h.0)) (cases-lack cs gs h.1)

entry-lacks : (e : Entry) (gs : List Group) → IsEntry gs e → list_all (lacks_mark 10) (entry_lines e) ≡ true
entry-lacks e gs h = both (line-lacks (head_text e.tells e.name) (head-bytes e.tells e.name h.name h.tells)) (both (line-lacks (codes "  says " ++ e.says) h.says) (cases-lack e.cases gs h.cases))

entries-lack : (es above : List Entry) (gs : List Group) → AreEntries gs above es → list_all (lacks_mark 10) (lines_of_entries es) ≡ true
entries-lack [] above gs h = refl
entries-lack (e ∷ es) above gs h = all-append (lacks_mark 10) (entry_lines e) (lines_of_entries es) (entry-lacks e gs h.0) (entries-lack es (above ++ e ∷ []) gs h.2)

-- what is written is read
pub read_written : (c : Catalogue) → CanBeWritten c → read (written c) ≡ Ok c
unfolding read written
read_written c h =
    let lacking : list_all (lacks_mark 10) (lines_of c) ≡ true = all-append (lacks_mark 10) (map group_line c.groups) (lines_of_entries c.entries) (groups-lack c.groups [] h.groups) (entries-lack c.entries [] c.groups h.entries) in
    let cut : parts 10 (lines_text (lines_of c)) ≡ lines_of c ++ [] ∷ [] = parts-lines (lines_of c) lacking in
    let start : SoFar = state [] [] None in
    ap (lines_read 1 start) cut ∙ (ap (lines_read 1 start) (append_assoc (map group_line c.groups) (lines_of_entries c.entries) ([] ∷ []))
    ∙ groups-read c.groups [] 1 (lines_of_entries c.entries ++ [] ∷ []) (Ok c) h.groups (λ m. entries-read c.entries [] c.groups [] None m refl h.entries))
