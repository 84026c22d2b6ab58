-- Numbers of the options of which an entry speaks, by which most entries are known to say nothing of an option.
use Rattle.std.specs.Prelude.{ℕ, Bool, true, false, cond, ◌||◌, List, [], ◌∷◌, Option, None, Some, unwrap_or, slice_get, slice_set, replicate}
use Rattle.scl_catalogue.specs.Form.{Pattern, Test, Question, Is, At, Given, Inner, Condition, Case, Tells, Entry}
use Rattle.scl_catalogue.specs.Found.{OptionSeen}
use Rattle.scl_catalogue.specs.Keyed.{first_group, key_of, number}
use Rattle.scl_catalogue.specs.declared.numbers.Numbers.{Numbers}
use Rattle.scl_catalogue.specs.declared.numbers.NumberSet.{NumberSet}
use Rattle.scl_catalogue.specs.declared.test.Class.{Class}
use Rattle.scl_catalogue.specs.declared.test.Class.TheVariants as class

abbrev pub numbers_of : OptionSeen → Numbers
numbers_of o = record { name = number o.name; kind = number o.kind }

-- each number, where a pattern may fit words of any
abbrev pub with_number : List Bool → Option ℕ → List Bool
with_number ns None = replicate 64 true
with_number ns (Some n) = slice_set ns n true

abbrev pub with_patterns : List Bool → List Pattern → List Bool
with_patterns ns [] = ns
with_patterns ns (p ∷ ps) = with_patterns (with_number ns (key_of p)) ps

abbrev pub with_test_of : NumberSet → Class → List Pattern → NumberSet
with_test_of s class.Option ps = record s { names = with_patterns s.names ps }
with_test_of s class.Raw ps = record s { names = with_patterns s.names ps }
with_test_of s class.Unknown ps = record s { names = with_patterns s.names ps }
with_test_of s class.Flag ps = record s { names = with_patterns s.names ps }
with_test_of s class.Kind ps = record s { kinds = with_patterns s.kinds ps }

-- the numbers, and those of the options that may pass the test
abbrev pub with_test : NumberSet → Test → NumberSet
with_test s t = with_test_of s t.class t.names.any

abbrev pub with_tests : NumberSet → List Test → NumberSet
with_tests s [] = s
with_tests s (t ∷ ts) = with_tests (with_test s t) ts

abbrev pub with_question : NumberSet → Question → NumberSet
with_question s (Is f) = s
with_question s (At p text) = s
with_question s (Given r) = with_tests s (first_group r).tests
with_question s (Inner r) = with_tests s (first_group r).tests

-- the numbers, and those of the options for which the condition asks
abbrev pub with_condition : NumberSet → Condition → NumberSet
with_condition s c = cond c.is_denied s (with_question s c.question)

abbrev pub with_conditions : NumberSet → List Condition → NumberSet
with_conditions s [] = s
with_conditions s (c ∷ cs) = with_conditions (with_condition s c) cs

abbrev pub with_case : NumberSet → Case → NumberSet
with_case s c = with_conditions s c.conditions

abbrev pub with_cases : NumberSet → List Case → NumberSet
with_cases s [] = s
with_cases s (c ∷ cs) = with_cases (with_case s c) cs

abbrev pub no_numbers : NumberSet
no_numbers = record { names = replicate 64 false; kinds = replicate 64 false }

-- the numbers of the options of which one of the cases speaks
abbrev pub numbers_in : List Case → NumberSet
numbers_in cs = with_cases no_numbers cs

abbrev pub any_number : List Bool → ℕ → Bool
any_number ns n = unwrap_or (slice_get ns n) true

-- an option of these numbers may be among those of which an entry speaks
abbrev pub may_have : NumberSet → Numbers → Bool
may_have s n = any_number s.names n.name || any_number s.kinds n.kind

-- the entry that states this, with these cases
abbrev pub entry_with : Tells → (name says : List ℕ) → List Case → Entry
entry_with tells name says cases = record { tells = tells; name = name; says = says; cases = cases; numbers = numbers_in cases }
