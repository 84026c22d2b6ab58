-- A catalogue as its text.
use Rattle.std.specs.Prelude.{ℕ, ◌+◌, ◌/◌, ◌%◌, nat_lt, ◌==◌, Bool, cond, not, ◌&&◌, List, [], ◌∷◌, ◌++◌, map, codes, Option, None, Some}
use Rattle.std.specs.Fmt.{decimal}
use Rattle.std.specs.List.{list_any}
use Rattle.scl_catalogue.specs.Form.{Pattern, Text, Demand, Marked, Value, Part, Test, Group, Relation, Any, Two, Before, Unfollowed, Last, Question, Is, At, Given, Inner, Condition, Case, Tells, Hazard, Effect, Plain, Key, Run, Names, Brings, Entry, Catalogue}
use Rattle.scl_catalogue_text.specs.Names.{brings_name, class_name, mark_name, fact_name, place_name, compiler_name, danger_name, doing_name, kind_name, naming_name, verb_name}
use Rattle.scl_catalogue.specs.declared.case.Served.{Served}
use Rattle.scl_catalogue.specs.declared.case.Version.{Version}
use Rattle.scl_catalogue.specs.declared.text.How.{How}
use Rattle.scl_catalogue.specs.declared.text.How.TheVariants as how
use Rattle.scl_catalogue_text.specs.declared.names.Kind.TheVariants as kind

abbrev pub all_of : List (List ℕ) → List ℕ
all_of [] = []
all_of (bs ∷ rest) = bs ++ all_of rest

-- each after a blank
abbrev pub spaced : List (List ℕ) → List ℕ
spaced ws = all_of (map (λ w. 32 ∷ w) ws)

-- with the mark between each two
abbrev pub joined : ℕ → List (List ℕ) → List ℕ
joined mark [] = []
joined mark (p ∷ []) = p
joined mark (p ∷ q ∷ ps) = p ++ (mark ∷ joined mark (q ∷ ps))

-- ---- patterns

-- a byte of ASCII that is no blank and none of ; > | & ! * and the backslash
abbrev pub is_plain : ℕ → Bool
is_plain b = (nat_lt 32 b && nat_lt b 127) && not (list_any (λ c. b == c) (59 ∷ 62 ∷ 124 ∷ 38 ∷ 33 ∷ 42 ∷ 92 ∷ []))

abbrev pub hex_digit : ℕ → ℕ
hex_digit n = cond (nat_lt n 10) (48 + n) (87 + n)

abbrev pub byte_text : ℕ → List ℕ
byte_text b = cond (is_plain b) (b ∷ []) (92 ∷ 120 ∷ hex_digit (b / 16) ∷ hex_digit (b % 16) ∷ [])

-- the bytes, with an escape for each that is not plain; none are written as one escape
abbrev pub bytes_text : List ℕ → List ℕ
bytes_text [] = 92 ∷ 101 ∷ []
bytes_text (b ∷ bs) = all_of (map byte_text (b ∷ bs))

abbrev pub starred : How → List ℕ → List ℕ
starred how.Is text = text
starred how.Begins text = text ++ 42 ∷ []
starred how.Ends text = 42 ∷ text
starred how.Holds text = 42 ∷ text ++ 42 ∷ []

abbrev pub pattern_text : Pattern → List ℕ
pattern_text p = starred p.how (bytes_text p.text)

abbrev pub except_text : List Pattern → List ℕ
except_text [] = []
except_text (p ∷ ps) = 33 ∷ spaced (map pattern_text (p ∷ ps))

abbrev pub text_text : Text → List ℕ
text_text t = spaced (map pattern_text t.any) ++ except_text t.but

-- ---- tests

abbrev pub demand_text : Demand → List ℕ
demand_text (Marked m) = 32 ∷ mark_name m
demand_text (Value text) = codes " value" ++ text_text text
demand_text (Part text) = codes " part" ++ text_text text

abbrev pub test_text : Test → List ℕ
test_text t = joined 38 ((32 ∷ class_name t.class ++ text_text t.names) ∷ map demand_text t.demands)

abbrev pub tests_text : List Test → List ℕ
tests_text ts = joined 124 (map test_text ts)

-- a group that has a name is written by it
abbrev pub named_text : List ℕ → List Test → List ℕ
named_text [] ts = tests_text ts
named_text (b ∷ bs) ts = 32 ∷ b ∷ bs

abbrev pub group_text : Group → List ℕ
group_text g = named_text g.name g.tests

-- ---- conditions

abbrev pub two_texts : Group → Group → List ℕ
two_texts g h = group_text g ++ 62 ∷ group_text h

abbrev pub relation_text : Relation → List ℕ
relation_text (Any g) = codes " any" ++ group_text g
relation_text (Two g) = codes " two" ++ group_text g
relation_text (Before g h) = codes " before" ++ two_texts g h
relation_text (Unfollowed g h) = codes " unfollowed" ++ two_texts g h
relation_text (Last g h) = codes " last" ++ two_texts g h

abbrev pub question_text : Question → List ℕ
question_text (Is f) = 32 ∷ fact_name f
question_text (At p text) = 32 ∷ place_name p ++ text_text text
question_text (Given r) = relation_text r
question_text (Inner r) = codes " inner" ++ relation_text r

abbrev pub condition_text : Condition → List ℕ
condition_text c = cond c.is_denied (codes " not") [] ++ question_text c.question

-- ---- entries

abbrev pub version_text : Version → List ℕ
version_text v = decimal v.major ++ 46 ∷ decimal v.minor

abbrev pub bound_words : List ℕ → Option Version → List (List ℕ)
bound_words word None = []
bound_words word (Some v) = word ∷ version_text v ∷ []

abbrev pub served_words : Served → List (List ℕ)
served_words s = compiler_name s.compiler ∷ bound_words (codes "since") s.since ++ bound_words (codes "until") s.until

abbrev pub case_text : Case → List ℕ
case_text c = 32 ∷ joined 44 (map (λ s. spaced (served_words s)) c.served) ++ 58 ∷ joined 59 (map condition_text c.conditions)

-- the word of an entry's head before its name
abbrev pub head_word : Tells → List ℕ
head_word (Hazard d) = kind_name kind.Hazard
head_word (Effect v file) = codes "effect"
head_word Plain = codes "plain"
head_word (Key d) = kind_name kind.Key
head_word (Run d) = kind_name kind.Run
head_word (Names n) = kind_name kind.Names
head_word (Brings b) = kind_name kind.Brings

-- the words of the head behind the name
abbrev pub words_behind : Tells → List (List ℕ)
words_behind (Hazard d) = danger_name d ∷ []
words_behind (Effect v file) = verb_name v ∷ file ∷ []
words_behind Plain = []
words_behind (Key d) = doing_name d ∷ []
words_behind (Run d) = doing_name d ∷ []
words_behind (Names n) = naming_name n ∷ []
words_behind (Brings b) = brings_name b ∷ []

abbrev pub head_text : Tells → List ℕ → List ℕ
head_text t name = head_word t ++ spaced (name ∷ words_behind t)

-- what an entry states: the head without the name
abbrev pub statement_of : Tells → List ℕ
statement_of t = head_word t ++ spaced (words_behind t)

abbrev pub entry_lines : Entry → List (List ℕ)
entry_lines e = head_text e.tells e.name ∷ (codes "  says " ++ e.says) ∷ map case_text e.cases

abbrev pub group_line : Group → List ℕ
group_line g = codes "group" ++ 32 ∷ g.name ++ 58 ∷ tests_text g.tests

abbrev pub lines_of_entries : List Entry → List (List ℕ)
lines_of_entries [] = []
lines_of_entries (e ∷ es) = entry_lines e ++ lines_of_entries es

abbrev pub lines_text : List (List ℕ) → List ℕ
lines_text [] = []
lines_text (line ∷ lines) = line ++ 10 ∷ lines_text lines

-- groups first, then each entry with its sentence and its cases
abbrev pub lines_of : Catalogue → List (List ℕ)
lines_of c = map group_line c.groups ++ lines_of_entries c.entries

unfoldable pub written : Catalogue → List ℕ
written c = lines_text (lines_of c)
