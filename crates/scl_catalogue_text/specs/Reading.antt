-- How the parts of a line are read.
use Rattle.std.specs.Prelude.{ℕ, ◌+◌, ◌-◌, ◌*◌, nat_lt, ◌==◌, Bool, true, false, cond, ◌&&◌, ◌||◌, List, [], ◌∷◌, ◌++◌, codes, length, Option, None, Some, option_and_then, Result, Ok, Err}
use Rattle.std.specs.Str.{bytes_eq}
use Rattle.scl_catalogue.specs.Form.{Pattern, Text, Demand, Marked, Value, Part, Test, Group, Relation, Any, Two, Before, Unfollowed, Last, Question, Is, At, Given, Inner, Condition, Case}
use Rattle.scl_catalogue.specs.declared.case.Compiler.{Compiler}
use Rattle.scl_catalogue.specs.declared.case.Served.{Served}
use Rattle.scl_catalogue.specs.declared.case.Version.{Version}
use Rattle.scl_catalogue.specs.declared.condition.Fact.{Fact}
use Rattle.scl_catalogue.specs.declared.condition.Place.{Place}
use Rattle.scl_catalogue.specs.declared.text.Cut.{Cut}
use Rattle.scl_catalogue.specs.declared.text.How.{How}
use Rattle.scl_catalogue.specs.declared.text.How.TheVariants as how
use Rattle.scl_catalogue_text.specs.Cutting.{first_word, from_mark, other_words, parts, until_mark, words}
use Rattle.scl_catalogue_text.specs.Names.{class_named, compiler_named, fact_named, mark_named, place_named}
use Rattle.scl_catalogue_text.specs.Outcome.{after, at_end, each, or_mistake}
use Rattle.scl_catalogue_text.specs.declared.mistake.Mistake.{Mistake}
use Rattle.scl_catalogue_text.specs.declared.mistake.Mistake.TheVariants as mistake

-- ---- patterns

abbrev pub digit : ℕ → Option ℕ
digit b = cond (nat_lt 47 b && nat_lt b 58) (Some (b - 48)) (cond (nat_lt 96 b && nat_lt b 103) (Some (b - 87)) None)

abbrev pub byte_of_digits : Option ℕ → Option ℕ → List ℕ → Option (ℕ × List ℕ)
byte_of_digits None low bs = None
byte_of_digits (Some high) None bs = None
byte_of_digits (Some high) (Some low) bs = Some (high * 16 + low, bs)

-- the byte that two digits stand for, and the bytes after them
unfoldable pub hex_byte : List ℕ → Option (ℕ × List ℕ)
hex_byte [] = None
hex_byte (high ∷ []) = None
hex_byte (high ∷ low ∷ bs) = byte_of_digits (digit high) (digit low) bs

abbrev pub with_byte : Option (ℕ × List ℕ) → Result (List ℕ) Mistake
with_byte None = Err mistake.WrongEscape
with_byte (Some p) = Ok (p.0 ∷ p.1)

-- the bytes for which a part after a backslash stands: `e` is nothing, `xHH` a byte
unfoldable pub escape : List ℕ → Result (List ℕ) Mistake
escape [] = Err mistake.WrongEscape
escape (b ∷ bs) = cond (b == 101) (Ok bs) (cond (b == 120) (with_byte (hex_byte bs)) (Err mistake.WrongEscape))

abbrev pub escapes : List (List ℕ) → Result (List ℕ) Mistake
escapes [] = Ok []
escapes (p ∷ ps) = after (escape p) (λ bs. after (escapes ps) (λ rest. Ok (bs ++ rest)))

abbrev pub unescaped_parts : List (List ℕ) → Result (List ℕ) Mistake
unescaped_parts [] = Ok []
unescaped_parts (p ∷ ps) = after (escapes ps) (λ rest. Ok (p ++ rest))

-- the bytes for which a word stands
unfoldable pub unescaped : List ℕ → Result (List ℕ) Mistake
unescaped word = unescaped_parts (parts 92 word)

abbrev pub pattern_as : How → List ℕ → Option Pattern
pattern_as how text = Some (record { how = how; text = text })

abbrev pub star_in_two : List ℕ → List ℕ → Option Pattern
star_in_two text [] = pattern_as how.Begins text
star_in_two [] (b ∷ text) = pattern_as how.Ends (b ∷ text)
star_in_two (a ∷ before) (b ∷ text) = None

abbrev pub star_in_three : List ℕ → List ℕ → List ℕ → Option Pattern
star_in_three [] text [] = pattern_as how.Holds text
star_in_three [] text (b ∷ behind) = None
star_in_three (a ∷ before) text behind = None

-- a star first or last in a word says how it is compared
unfoldable pub starred_parts : List (List ℕ) → Option Pattern
starred_parts [] = None
starred_parts (text ∷ []) = pattern_as how.Is text
starred_parts (a ∷ b ∷ []) = star_in_two a b
starred_parts (a ∷ b ∷ c ∷ []) = star_in_three a b c
starred_parts (a ∷ b ∷ c ∷ d ∷ more) = None

abbrev pub pattern_unescaped : Pattern → Result Pattern Mistake
pattern_unescaped p = after (unescaped p.text) (λ bs. Ok (record { how = p.how; text = bs }))

unfoldable pub pattern_read : List ℕ → Result Pattern Mistake
pattern_read word = after (or_mistake mistake.WrongPattern (starred_parts (parts 42 word))) pattern_unescaped

-- how a pattern is cut whose text stands behind these, and the texts with it
abbrev pub appended : List ℕ → Pattern → Cut × List ℕ
appended bs p = (record { how = p.how; length = length p.text }, bs ++ p.text)

abbrev pub not_none : List Pattern → Result (List Pattern) Mistake
not_none [] = Err mistake.NoPattern
not_none (p ∷ ps) = Ok (p ∷ ps)

unfoldable pub patterns_read : List ℕ → Result (List Pattern) Mistake
patterns_read bs = after (each pattern_read (words bs)) not_none

unfoldable pub text_without : List ℕ → Result Text Mistake
text_without any = after (patterns_read any) (λ ps. Ok (record { any = ps; but = [] }))

unfoldable pub text_with : List ℕ → List ℕ → Result Text Mistake
text_with any but = after (patterns_read any) (λ ps. after (patterns_read but) (λ qs. Ok (record { any = ps; but = qs })))

unfoldable pub text_of_parts : List (List ℕ) → Result Text Mistake
text_of_parts [] = Err mistake.ExceptTwice
text_of_parts (any ∷ []) = text_without any
text_of_parts (any ∷ but ∷ []) = text_with any but
text_of_parts (any ∷ but ∷ other ∷ more) = Err mistake.ExceptTwice

-- patterns of which one fits, and after a mark those of which none does
unfoldable pub text_read : List ℕ → Result Text Mistake
text_read bs = text_of_parts (parts 33 bs)

-- ---- tests

unfoldable pub demand_by : List ℕ → List ℕ → Result Demand Mistake
demand_by word others = cond (bytes_eq word (codes "value")) (after (text_read others) (λ text. Ok (Value text)))
    (cond (bytes_eq word (codes "part")) (after (text_read others) (λ text. Ok (Part text)))
    (after (or_mistake mistake.UnknownDemand (mark_named word)) (λ m. at_end others (Marked m))))

unfoldable pub demand_read : List ℕ → Result Demand Mistake
demand_read bs = demand_by (first_word bs) (other_words bs)

unfoldable pub test_by : List ℕ → List (List ℕ) → Result Test Mistake
test_by first others = after (or_mistake mistake.UnknownClass (class_named (first_word first))) (λ class.
    after (text_read (other_words first)) (λ names. after (each demand_read others) (λ demands. Ok (record { class = class; names = names; demands = demands }))))

abbrev pub test_of_parts : List (List ℕ) → Result Test Mistake
test_of_parts [] = Err mistake.UnknownClass
test_of_parts (first ∷ others) = test_by first others

-- a class with names, and demands after marks
unfoldable pub test_read : List ℕ → Result Test Mistake
test_read bs = test_of_parts (parts 38 bs)

unfoldable pub tests_read : List ℕ → Result (List Test) Mistake
tests_read bs = each test_read (parts 124 bs)

-- the first group of the name
abbrev pub group_named : List Group → List ℕ → Option Group
group_named [] name = None
group_named (g ∷ gs) name = cond (bytes_eq g.name name) (Some g) (group_named gs name)

abbrev pub group_without_name : List ℕ → Result Group Mistake
group_without_name bs = after (tests_read bs) (λ tests. Ok (record { name = []; tests = tests }))

-- one word names a group; else its tests stand there
unfoldable pub group_of_words : List Group → List ℕ → List (List ℕ) → Result Group Mistake
group_of_words gs bs [] = group_without_name bs
group_of_words gs bs (name ∷ []) = or_mistake mistake.UnknownGroup (group_named gs name)
group_of_words gs bs (a ∷ b ∷ more) = group_without_name bs

unfoldable pub group_read : List Group → List ℕ → Result Group Mistake
group_read gs bs = group_of_words gs bs (words bs)

-- ---- conditions

unfoldable pub is_relation : List ℕ → Bool
is_relation name = bytes_eq name (codes "any") || bytes_eq name (codes "two") || bytes_eq name (codes "before") || bytes_eq name (codes "unfollowed") || bytes_eq name (codes "last")

unfoldable pub of_one : List ℕ → Group → Result Relation Mistake
of_one name g = cond (bytes_eq name (codes "any")) (Ok (Any g)) (cond (bytes_eq name (codes "two")) (Ok (Two g)) (Err mistake.WrongNumberOfGroups))

unfoldable pub of_two : List ℕ → Group → Group → Result Relation Mistake
of_two name g h = cond (bytes_eq name (codes "before")) (Ok (Before g h)) (cond (bytes_eq name (codes "unfollowed")) (Ok (Unfollowed g h))
    (cond (bytes_eq name (codes "last")) (Ok (Last g h)) (Err mistake.WrongNumberOfGroups)))

unfoldable pub relation_of_one : List Group → List ℕ → List ℕ → Result Relation Mistake
relation_of_one gs name only = after (group_read gs only) (of_one name)

unfoldable pub relation_of_two : List Group → List ℕ → List ℕ → List ℕ → Result Relation Mistake
relation_of_two gs name first second = after (group_read gs first) (λ g. after (group_read gs second) (of_two name g))

unfoldable pub relation_of_parts : List Group → List ℕ → List (List ℕ) → Result Relation Mistake
relation_of_parts gs name [] = Err mistake.WrongNumberOfGroups
relation_of_parts gs name (only ∷ []) = relation_of_one gs name only
relation_of_parts gs name (first ∷ second ∷ []) = relation_of_two gs name first second
relation_of_parts gs name (a ∷ b ∷ c ∷ more) = Err mistake.WrongNumberOfGroups

unfoldable pub relation_read : List Group → List ℕ → List ℕ → Result Relation Mistake
relation_read gs name bs = cond (is_relation name) (relation_of_parts gs name (parts 62 bs)) (Err mistake.UnknownQuestion)

abbrev pub question_of_names : List Group → List ℕ → List ℕ → Option Fact → Option Place → Result Question Mistake
question_of_names gs word others (Some f) p = at_end others (Is f)
question_of_names gs word others None (Some p) = after (text_read others) (λ text. Ok (At p text))
question_of_names gs word others None None = cond (bytes_eq word (codes "inner"))
    (after (relation_read gs (first_word others) (other_words others)) (λ r. Ok (Inner r)))
    (after (relation_read gs word others) (λ r. Ok (Given r)))

unfoldable pub question_by : List Group → List ℕ → List ℕ → Result Question Mistake
question_by gs word others = question_of_names gs word others (fact_named word) (place_named word)

unfoldable pub condition_by : List Group → List ℕ → List ℕ → Result Condition Mistake
condition_by gs word others = cond (bytes_eq word (codes "not"))
    (after (question_by gs (first_word others) (other_words others)) (λ q. Ok (record { is_denied = true; question = q })))
    (after (question_by gs word others) (λ q. Ok (record { is_denied = false; question = q })))

unfoldable pub condition_read : List Group → List ℕ → Result Condition Mistake
condition_read gs bs = condition_by gs (first_word bs) (other_words bs)

unfoldable pub conditions_read : List Group → List ℕ → Result (List Condition) Mistake
conditions_read gs bs = each (condition_read gs) (parts 59 bs)

-- ---- cases

-- the number that goes on with a digit, where it is below 2^32
abbrev pub with_digit : ℕ → ℕ → Option ℕ
with_digit n b = cond ((nat_lt 47 b && nat_lt b 58) && nat_lt (n * 10 + (b - 48)) 4294967296) (Some (n * 10 + (b - 48))) None

abbrev pub number_from : ℕ → List ℕ → Option ℕ
number_from n [] = Some n
number_from n (b ∷ bs) = option_and_then (λ m. number_from m bs) (with_digit n b)

-- a number below 2^32
unfoldable pub number_read : List ℕ → Option ℕ
number_read [] = None
number_read (b ∷ bs) = number_from 0 (b ∷ bs)

abbrev pub version_of : Option ℕ → Option ℕ → Option Version
version_of None minor = None
version_of (Some major) None = None
version_of (Some major) (Some minor) = Some (record { major = major; minor = minor })

abbrev pub version_by : List ℕ → List ℕ → Option Version
version_by major [] = version_of (number_read major) (Some 0)
version_by major (dot ∷ minor) = version_of (number_read major) (number_read minor)

-- a number, or two with a dot between them
unfoldable pub version_read : List ℕ → Option Version
version_read word = version_by (until_mark 46 word) (from_mark 46 word)

abbrev pub bound_read : List ℕ → Result Version Mistake
bound_read word = or_mistake mistake.WrongVersion (version_read word)

unfoldable pub one_bound : Compiler → List ℕ → List ℕ → Result Served Mistake
one_bound c word version = cond (bytes_eq word (codes "since")) (after (bound_read version) (λ v. Ok (record { compiler = c; since = Some v; until = None })))
    (cond (bytes_eq word (codes "until")) (after (bound_read version) (λ v. Ok (record { compiler = c; since = None; until = Some v }))) (Err mistake.UnknownCompiler))

unfoldable pub two_bounds : Compiler → List ℕ → List ℕ → List ℕ → List ℕ → Result Served Mistake
two_bounds c word first other last = cond (bytes_eq word (codes "since") && bytes_eq other (codes "until"))
    (after (bound_read first) (λ v. after (bound_read last) (λ w. Ok (record { compiler = c; since = Some v; until = Some w })))) (Err mistake.UnknownCompiler)

unfoldable pub served_by : Compiler → List (List ℕ) → Result Served Mistake
served_by c [] = Ok (record { compiler = c; since = None; until = None })
served_by c (word ∷ []) = Err mistake.UnknownCompiler
served_by c (word ∷ version ∷ []) = one_bound c word version
served_by c (word ∷ first ∷ other ∷ []) = Err mistake.UnknownCompiler
served_by c (word ∷ first ∷ other ∷ last ∷ []) = two_bounds c word first other last
served_by c (word ∷ first ∷ other ∷ last ∷ more ∷ rest) = Err mistake.UnknownCompiler

abbrev pub served_of_words : List (List ℕ) → Result Served Mistake
served_of_words [] = Err mistake.UnknownCompiler
served_of_words (name ∷ others) = after (or_mistake mistake.UnknownCompiler (compiler_named name)) (λ c. served_by c others)

unfoldable pub served_read : List ℕ → Result Served Mistake
served_read bs = served_of_words (words bs)

unfoldable pub all_served : List ℕ → Result (List Served) Mistake
all_served bs = each served_read (parts 44 bs)

abbrev pub case_by : List Group → List ℕ → List ℕ → Result Case Mistake
case_by gs compilers [] = Err mistake.UnknownLine
case_by gs compilers (colon ∷ rest) = after (all_served compilers) (λ served. after (conditions_read gs rest) (λ conditions. Ok (record { served = served; conditions = conditions })))

-- the compilers that are meant, a colon and what must hold
unfoldable pub case_read : List Group → List ℕ → Result Case Mistake
case_read gs line = case_by gs (until_mark 58 line) (from_mark 58 line)
