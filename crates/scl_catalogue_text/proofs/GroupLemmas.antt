-- Tests and groups, read again.
use Rattle.std.proofs.Common.{◌≡◌, ◌∙◌, ℕ, ◌==◌, Bool, true, false, not, ◌||◌, List, [], ◌∷◌, ◌++◌, map, filter, Some, Ok, append_assoc, refl, sym, ap, arith}
use Rattle.std.proofs.lemmas.Bool.{eqb-true, not-true}
use Rattle.std.proofs.lemmas.List.{append-nil}
use Rattle.std.proofs.lemmas.List.Splits.{slice_split-cons_no}
use Rattle.std.specs.Char.{is_ascii_control}
use Rattle.std.specs.List.{list_all, list_any, onto_first}
use Rattle.scl_catalogue.specs.Form.{Text, Demand, Marked, Value, Part, Test, Group}
use Rattle.scl_catalogue.specs.declared.seen.Mark.{Mark}
use Rattle.scl_catalogue.specs.declared.seen.Mark.TheVariants as mark
use Rattle.scl_catalogue.specs.declared.test.Class.{Class}
use Rattle.scl_catalogue.specs.declared.test.Class.TheVariants as class
use Rattle.scl_catalogue_text.specs.Cutting.{first_word, is_word, other_words, parts, words}
use Rattle.scl_catalogue_text.specs.Names.{class_name, class_named, mark_name}
use Rattle.scl_catalogue_text.specs.Reading.{demand_by, demand_read, group_named, group_of_words, group_read, test_by, test_read, tests_read}
use Rattle.scl_catalogue_text.specs.Writable.{CanBeAsked, IsNamedOr, are_tests, has_one, is_demand, is_group_name, is_test, is_text, lacks}
use Rattle.scl_catalogue_text.specs.Written.{demand_text, group_text, joined, named_text, spaced, test_text, tests_text, text_text}
use Rattle.scl_catalogue_text.proofs.SplitLemmas.{IsBehindWord, behind-blank, first-word, is_unbroken, other-words, parts-append, parts-joined, parts-mark, words-spaced}
use Rattle.scl_catalogue_text.proofs.TestLemmas.{all-append, all-weaker, and-left, and-right, both, lacks-passed, lacks_mark, or-false-right, or-left}
use Rattle.scl_catalogue_text.proofs.TextLemmas.{all-mapped, begins-text, behind-text, each-written, is_of_text, of-text, text-written}

-- ---- demands

demand-of-text : (t : Text) → is_text t ≡ true → (word : List ℕ) → is_unbroken word ≡ true → demand_read (32 ∷ (word ++ text_text t)) ≡ demand_by word (text_text t)
unfolding demand_read first_word other_words
demand-of-text t h word k =
    let behind = behind-text (text_text t) (begins-text t h) in
    rw (first-word word (text_text t) k behind, other-words word (text_text t) k behind) refl

pub demand-written : (d : Demand) → is_demand d ≡ true → demand_read (demand_text d) ≡ Ok d
unfolding demand_read demand_by first_word other_words
demand-written (Marked mark.Stays) h = refl
demand-written (Marked mark.Apart) h = refl
demand-written (Marked mark.Joined) h = refl
demand-written (Marked mark.DelimiterDropped) h = refl
demand-written (Marked mark.HiddenValue) h = refl
demand-written (Value t) h = demand-of-text t h (118 ∷ 97 ∷ 108 ∷ 117 ∷ 101 ∷ []) refl ∙ rw (text-written t h) refl
demand-written (Part t) h = demand-of-text t h (112 ∷ 97 ∷ 114 ∷ 116 ∷ []) refl ∙ rw (text-written t h) refl

mark-bytes : (m : Mark) → list_all is_of_text (mark_name m) ≡ true
mark-bytes mark.Stays = refl
mark-bytes mark.Apart = refl
mark-bytes mark.Joined = refl
mark-bytes mark.DelimiterDropped = refl
mark-bytes mark.HiddenValue = refl

pub of-demand : (d : Demand) → is_demand d ≡ true → list_all is_of_text (demand_text d) ≡ true
of-demand (Marked m) h = mark-bytes m
of-demand (Value t) h = of-text t h
of-demand (Part t) h = of-text t h

-- ---- tests

class-unbroken : (c : Class) → is_unbroken (class_name c) ≡ true
class-unbroken class.Option = refl
class-unbroken class.Raw = refl
class-unbroken class.Unknown = refl
class-unbroken class.Flag = refl
class-unbroken class.Kind = refl

class-read : (c : Class) → class_named (class_name c) ≡ Some c
class-read class.Option = refl
class-read class.Raw = refl
class-read class.Unknown = refl
class-read class.Flag = refl
class-read class.Kind = refl

class-bytes : (c : Class) → list_all is_of_text (class_name c) ≡ true
class-bytes class.Option = refl
class-bytes class.Raw = refl
class-bytes class.Unknown = refl
class-bytes class.Flag = refl
class-bytes class.Kind = refl

abbrev pub head_of_test : Test → List ℕ
head_of_test t = 32 ∷ class_name t.class ++ text_text t.names

of-head : (t : Test) → is_text t.names ≡ true → list_all is_of_text (head_of_test t) ≡ true
of-head t h = all-append is_of_text (class_name t.class) (text_text t.names) (class-bytes t.class) (of-text t.names h)

head-word : (t : Test) → is_text t.names ≡ true → first_word (head_of_test t) ≡ class_name t.class
unfolding first_word
head-word t h = first-word (class_name t.class) (text_text t.names) (class-unbroken t.class) (behind-text (text_text t.names) (begins-text t.names h))

head-names : (t : Test) → is_text t.names ≡ true → other_words (head_of_test t) ≡ text_text t.names
unfolding other_words
head-names t h = other-words (class_name t.class) (text_text t.names) (class-unbroken t.class) (behind-text (text_text t.names) (begins-text t.names h))

demand-lacks : (d : Demand) → is_demand d ≡ true → lacks_mark 38 (demand_text d) ≡ true
demand-lacks d h = lacks-passed is_of_text 38 refl (demand_text d) (of-demand d h)

pub test-written : (t : Test) → is_test t ≡ true → test_read (test_text t) ≡ Ok t
unfolding test_read test_by
test-written t h =
    let names : is_text t.names ≡ true = and-left (is_text t.names) (list_all is_demand t.demands) h in
    let demands : list_all is_demand t.demands ≡ true = and-right (is_text t.names) (list_all is_demand t.demands) h in
    let cut : parts 38 (test_text t) ≡ head_of_test t ∷ map demand_text t.demands =
    parts-joined 38 (head_of_test t) (map demand_text t.demands) (both (lacks-passed is_of_text 38 refl (head_of_test t) (of-head t names)) (all-mapped is_demand (lacks_mark 38) demand_text demand-lacks t.demands demands)) in
    rw (cut, head-word t names, head-names t names, class-read t.class, text-written t.names names, each-written demand_read demand_text is_demand demand-written t.demands demands) refl

abbrev pub is_of_test : ℕ → Bool
is_of_test b = is_of_text b || b == 38

pub joined-bytes : (p : ℕ → Bool) (m : ℕ) → p m ≡ true → (ps : List (List ℕ)) → list_all (list_all p) ps ≡ true → list_all p (joined m ps) ≡ true
joined-bytes p m h [] k = refl
joined-bytes p m h (w ∷ []) k = and-left (list_all p w) true k
joined-bytes p m h (w ∷ v ∷ ws) k = all-append p w (m ∷ joined m (v ∷ ws)) (and-left (list_all p w) (list_all (list_all p) (v ∷ ws)) k) (both h (joined-bytes p m h (v ∷ ws) (and-right (list_all p w) (list_all (list_all p) (v ∷ ws)) k)))

demand-of-test : (d : Demand) → is_demand d ≡ true → list_all is_of_test (demand_text d) ≡ true
demand-of-test d h = all-weaker is_of_text is_of_test (λ b k. or-left (is_of_text b) (b == 38) k) (demand_text d) (of-demand d h)

of-test : (t : Test) → is_test t ≡ true → list_all is_of_test (test_text t) ≡ true
of-test t h =
    let names : is_text t.names ≡ true = and-left (is_text t.names) (list_all is_demand t.demands) h in
    let demands : list_all is_demand t.demands ≡ true = and-right (is_text t.names) (list_all is_demand t.demands) h in
    joined-bytes is_of_test 38 refl (head_of_test t ∷ map demand_text t.demands)
    (both (all-weaker is_of_text is_of_test (λ b k. or-left (is_of_text b) (b == 38) k) (head_of_test t) (of-head t names)) (all-mapped is_demand (list_all is_of_test) demand_text demand-of-test t.demands demands))

test-lacks : (t : Test) → is_test t ≡ true → lacks_mark 124 (test_text t) ≡ true
test-lacks t h = lacks-passed is_of_test 124 refl (test_text t) (of-test t h)

tests-cut : (ts : List Test) → has_one ts ≡ true → list_all is_test ts ≡ true → parts 124 (tests_text ts) ≡ map test_text ts
tests-cut [] o h = let no : false ≡ true = o in cc
tests-cut (t ∷ ts) o h = parts-joined 124 (test_text t) (map test_text ts) (all-mapped is_test (lacks_mark 124) test_text test-lacks (t ∷ ts) h)

pub tests-written : (ts : List Test) → are_tests ts ≡ true → tests_read (tests_text ts) ≡ Ok ts
unfolding tests_read
tests-written ts h =
    let tests : list_all is_test ts ≡ true = and-right (has_one ts) (list_all is_test ts) h in
    rw (tests-cut ts (and-left (has_one ts) (list_all is_test ts) h) tests) (each-written test_read test_text is_test test-written ts tests)

abbrev pub is_of_tests : ℕ → Bool
is_of_tests b = is_of_test b || b == 124

test-of-tests : (t : Test) → is_test t ≡ true → list_all is_of_tests (test_text t) ≡ true
test-of-tests t h = all-weaker is_of_test is_of_tests (λ b k. or-left (is_of_test b) (b == 124) k) (test_text t) (of-test t h)

pub of-tests : (ts : List Test) → are_tests ts ≡ true → list_all is_of_tests (tests_text ts) ≡ true
of-tests ts h = joined-bytes is_of_tests 124 refl (map test_text ts) (all-mapped is_test (list_all is_of_tests) test_text test-of-tests ts (and-right (has_one ts) (list_all is_test ts) h))

-- ---- groups

-- tests begin with a class, and go on with a word
record BeginsTwo (xs : List ℕ) : Type 0 where
  class : List ℕ
  first : ℕ
  others : List ℕ
  is : xs ≡ 32 ∷ (class ++ 32 ∷ first ∷ others)
  unbroken : is_unbroken class ≡ true
  no_blank : (first == 32) ≡ false

goes-on : (xs ys : List ℕ) → BeginsTwo xs → BeginsTwo (xs ++ ys)
goes-on xs ys r = record {
  class = r.class;
  first = r.first;
  others = r.others ++ ys;
  is = ap (λ zs. zs ++ ys) r.is ∙ ap (λ zs. 32 ∷ zs) (append_assoc r.class (32 ∷ r.first ∷ r.others) ys);
  unbroken = r.unbroken;
  no_blank = r.no_blank;
}

joined-begins : (m : ℕ) (w : List ℕ) (ws : List (List ℕ)) → BeginsTwo w → BeginsTwo (joined m (w ∷ ws))
joined-begins m w [] r = r
joined-begins m w (v ∷ ws) r = goes-on w (m ∷ joined m (v ∷ ws)) r

head-begins : (t : Test) → is_text t.names ≡ true → BeginsTwo (head_of_test t)
head-begins t h =
    let r = begins-text t.names h in
    record { class = class_name t.class; first = r.first; others = r.others; is = ap (λ xs. 32 ∷ (class_name t.class ++ xs)) r.is; unbroken = class-unbroken t.class; no_blank = r.no_blank }

tests-begin : (ts : List Test) → has_one ts ≡ true → list_all is_test ts ≡ true → BeginsTwo (tests_text ts)
tests-begin [] o h = let no : false ≡ true = o in cc
tests-begin (t ∷ ts) o h =
    joined-begins 124 (test_text t) (map test_text ts) (joined-begins 38 (head_of_test t) (map demand_text t.demands)
    (head-begins t (and-left (is_text t.names) (list_all is_demand t.demands) (and-left (is_test t) (list_all is_test ts) h))))

-- two words or more
record HasTwo (all : List (List ℕ)) : Type 0 where
  one : List ℕ
  two : List ℕ
  more : List (List ℕ)
  is : all ≡ one ∷ two ∷ more

-- bytes that begin with no mark have a first part that is a word
record HasWord (all : List (List ℕ)) : Type 0 where
  first : ℕ
  word : List ℕ
  others : List (List ℕ)
  is : all ≡ (first ∷ word) ∷ others

onto-word : (b : ℕ) (all : List (List ℕ)) → HasWord (onto_first b all)
onto-word b [] = record { first = b; word = []; others = []; is = refl }
onto-word b (p ∷ ps) = record { first = b; word = p; others = ps; is = refl }

word-stands : (b : ℕ) (xs : List ℕ) → (b == 32) ≡ false → HasWord (parts 32 (b ∷ xs))
unfolding parts
word-stands b xs h =
    let r = onto-word b (parts 32 xs) in
    record { first = r.first; word = r.word; others = r.others; is = slice_split-cons_no (λ c. c == 32) b xs h ∙ r.is }

kept-word : (w : List ℕ) (ps : List (List ℕ)) → is_unbroken w ≡ true → filter is_word (w ∷ ps) ≡ w ∷ filter is_word ps
kept-word [] ps h = let no : false ≡ true = h in cc
kept-word (b ∷ w) ps h = refl

two-words : (xs : List ℕ) → BeginsTwo xs → HasTwo (words xs)
unfolding words
two-words xs r =
    let w = word-stands r.first r.others r.no_blank in
    let behind : parts 32 (32 ∷ r.first ∷ r.others) ≡ [] ∷ (w.first ∷ w.word) ∷ w.others = parts-mark 32 (r.first ∷ r.others) ∙ ap (λ ps. [] ∷ ps) w.is in
    let all : parts 32 (r.class ++ 32 ∷ r.first ∷ r.others) ≡ (r.class ++ []) ∷ (w.first ∷ w.word) ∷ w.others = parts-append 32 r.class (32 ∷ r.first ∷ r.others) [] ((w.first ∷ w.word) ∷ w.others) (and-right (has_one r.class) (lacks_mark 32 r.class) r.unbroken) behind in
    let cut : parts 32 xs ≡ [] ∷ r.class ∷ (w.first ∷ w.word) ∷ w.others = ap (parts 32) r.is ∙ (parts-mark 32 (r.class ++ 32 ∷ r.first ∷ r.others) ∙ ap (λ ps. [] ∷ ps) (rw append-nil at all)) in
    record { one = r.class; two = w.first ∷ w.word; more = filter is_word w.others; is = ap (filter is_word) cut ∙ kept-word r.class ((w.first ∷ w.word) ∷ w.others) r.unbroken }

pub tests-stand : (gs : List Group) (ts : List Test) → are_tests ts ≡ true → group_read gs (tests_text ts) ≡ Ok (record { name = []; tests = ts })
unfolding group_read group_of_words
tests-stand gs ts h =
    let w = two-words (tests_text ts) (tests-begin ts (and-left (has_one ts) (list_all is_test ts) h) (and-right (has_one ts) (list_all is_test ts) h)) in
    ap (group_of_words gs (tests_text ts)) w.is ∙ rw (tests-written ts h) refl

abbrev pub is_of_name : ℕ → Bool
is_of_name b = not (list_any (λ m. b == m) (32 ∷ 58 ∷ 59 ∷ 62 ∷ []) || is_ascii_control b)

pub name-unbroken : (name : List ℕ) → is_group_name name ≡ true → is_unbroken name ≡ true
name-unbroken name h = both (and-left (has_one name) (list_all is_of_name name) h) (lacks-passed is_of_name 32 refl name (and-right (has_one name) (list_all is_of_name name) h))

name-stands : (gs : List Group) (g : Group) (b : ℕ) (bs : List ℕ) → is_group_name (b ∷ bs) ≡ true → group_named gs (b ∷ bs) ≡ Some g → group_read gs (32 ∷ b ∷ bs) ≡ Ok g
unfolding group_read group_of_words
name-stands gs g b bs h k =
    let e : words (spaced ((b ∷ bs) ∷ [])) ≡ (b ∷ bs) ∷ [] = words-spaced ((b ∷ bs) ∷ []) (both (name-unbroken (b ∷ bs) h) refl) in
    let f : words (32 ∷ b ∷ bs) ≡ (b ∷ bs) ∷ [] = ap (λ xs. words (32 ∷ b ∷ xs)) (sym (append-nil bs)) ∙ e in
    ap (group_of_words gs (32 ∷ b ∷ bs)) f ∙ rw k refl

group-of-name : (gs : List Group) (name : List ℕ) (g : Group) → IsNamedOr gs name g → g.name ≡ name → group_read gs (named_text name g.tests) ≡ Ok g
group-of-name gs [] g h e = tests-stand gs g.tests h ∙ ap (λ name. Ok (record { name = name; tests = g.tests })) (sym e)
group-of-name gs (b ∷ bs) g h e = name-stands gs g b bs h.0 h.1

pub group-written : (gs : List Group) (g : Group) → CanBeAsked gs g → group_read gs (group_text g) ≡ Ok g
group-written gs g h = group-of-name gs g.name g h refl

passed-more : (p : ℕ → Bool) (b m : ℕ) (ms : List ℕ) → p b ≡ true → not (p m) ≡ true → not (list_any (λ n. b == n) ms) ≡ true → (t : Bool) → (b == m) ≡ t → not (t || list_any (λ n. b == n) ms) ≡ true
passed-more p b m ms h k rest true e = let same : b ≡ m = eqb-true b m e in let no : p m ≡ true = rw same at h in let f : p m ≡ false = not-true (p m) k in let g : false ≡ true = sym f ∙ no in cc
passed-more p b m ms h k rest false e = rest

-- a byte that passes a test is none of the marks that do not
passed-none : (p : ℕ → Bool) (b : ℕ) → p b ≡ true → (ms : List ℕ) → list_all (λ m. not (p m)) ms ≡ true → not (list_any (λ m. b == m) ms) ≡ true
passed-none p b h [] k = refl
passed-none p b h (m ∷ ms) k = passed-more p b m ms h (and-left (not (p m)) (list_all (λ n. not (p n)) ms) k) (passed-none p b h ms (and-right (not (p m)) (list_all (λ n. not (p n)) ms) k)) (b == m) refl

neither : (a b : Bool) → not a ≡ true → b ≡ false → not (a || b) ≡ true
neither true b h k = h
neither false b h k = rw k refl

-- no byte that passes is a control character
abbrev pub HasNoControl : (ℕ → Bool) → Type 0
HasNoControl p = (b : ℕ) → p b ≡ true → is_ascii_control b ≡ false

-- a test of which this is a part
pub other-than-control : (ms : List ℕ) → HasNoControl (λ b. not (list_any (λ m. b == m) ms || is_ascii_control b))
other-than-control ms b h = or-false-right (list_any (λ m. b == m) ms) (is_ascii_control b) h

pub lacks-all : (p : ℕ → Bool) (ms bs : List ℕ) → HasNoControl p → list_all (λ m. not (p m)) ms ≡ true → list_all p bs ≡ true → lacks ms bs ≡ true
lacks-all p ms bs c h k = all-weaker p (λ b. not (list_any (λ m. b == m) ms || is_ascii_control b)) (λ b passed. neither (list_any (λ m. b == m) ms) (is_ascii_control b) (passed-none p b passed ms h) (c b passed)) bs k

pub tests-control : HasNoControl is_of_tests
tests-control b h = grind arith

named-lacks : (name : List ℕ) (ts : List Test) (gs : List Group) (g : Group) → IsNamedOr gs name g → ts ≡ g.tests → lacks (59 ∷ 62 ∷ []) (named_text name ts) ≡ true
named-lacks [] ts gs g h e = rw e (lacks-all is_of_tests (59 ∷ 62 ∷ []) (tests_text g.tests) tests-control refl (of-tests g.tests h))
named-lacks (b ∷ bs) ts gs g h e = lacks-all is_of_name (59 ∷ 62 ∷ []) (b ∷ bs) (other-than-control (32 ∷ 58 ∷ 59 ∷ 62 ∷ [])) refl (and-right (has_one (b ∷ bs)) (list_all is_of_name (b ∷ bs)) h.0)

-- what stands for a group has no mark of those above it
pub group-lacks : (gs : List Group) (g : Group) → CanBeAsked gs g → lacks (59 ∷ 62 ∷ []) (group_text g) ≡ true
group-lacks gs g h = named-lacks g.name g.tests gs g h refl

-- what stands for a group begins with a blank
pub record BeginsBlank (xs : List ℕ) : Type 0 where
  pub rest : List ℕ
  pub is : xs ≡ 32 ∷ rest

pub tests-blank : (ts : List Test) → are_tests ts ≡ true → BeginsBlank (tests_text ts)
tests-blank ts h =
    let r = tests-begin ts (and-left (has_one ts) (list_all is_test ts) h) (and-right (has_one ts) (list_all is_test ts) h) in
    record { rest = r.class ++ 32 ∷ r.first ∷ r.others; is = r.is }

named-begins : (name : List ℕ) (gs : List Group) (g : Group) → IsNamedOr gs name g → BeginsBlank (named_text name g.tests)
named-begins [] gs g h = tests-blank g.tests h
named-begins (b ∷ bs) gs g h = record { rest = b ∷ bs; is = refl }

pub group-begins : (gs : List Group) (g : Group) → CanBeAsked gs g → BeginsBlank (group_text g)
group-begins gs g h = named-begins g.name gs g h

pub group-behind : (gs : List Group) (g : Group) → CanBeAsked gs g → IsBehindWord (group_text g)
group-behind gs g h = let b = group-begins gs g h in rw b.is (behind-blank b.rest)
