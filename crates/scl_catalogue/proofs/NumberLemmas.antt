-- An entry has the numbers of each option of which one of its cases speaks.
use Rattle.std.proofs.Common.{◌≡◌, ℕ, zero, suc, Bool, true, false, ◌&&◌, ◌||◌, not, cond, List, [], ◌∷◌, Option, None, Some, unwrap_or, refl}
use Rattle.std.specs.List.{list_all, list_any, slice_get, starts_with}
use Rattle.std.specs.Prelude.{nat_eq, replicate, slice_set}
use Rattle.scl_catalogue.specs.Form.{Pattern, Test, Question, Is, At, Given, Inner, Condition, Case}
use Rattle.scl_catalogue.specs.Found.{OptionSeen, compared, fits, in_group, is_met, is_of, name_by, one_fits, passes, serves, test_passes}
use Rattle.scl_catalogue.specs.Keyed.{first_group, key_by, key_of, number}
use Rattle.scl_catalogue.specs.Laws.{NumbersPassOverNone}
use Rattle.scl_catalogue.specs.Numbered.{any_number, may_have, numbers_in, numbers_of, with_case, with_cases, with_condition, with_conditions, with_number, with_patterns, with_question, with_test, with_test_of, with_tests}
use Rattle.scl_catalogue.specs.Speaking.{asks_for, begins_with, case_speaks_of, relation_at, speaks_of}
use Rattle.scl_catalogue.specs.declared.case.Compiler.{Compiler}
use Rattle.scl_catalogue.specs.declared.case.Version.{Version}
use Rattle.scl_catalogue.specs.declared.numbers.Numbers.{Numbers}
use Rattle.scl_catalogue.specs.declared.numbers.NumberSet.{NumberSet}
use Rattle.scl_catalogue.specs.declared.speaking.Level.{Level}
use Rattle.scl_catalogue.specs.declared.speaking.Level.TheVariants as level
use Rattle.scl_catalogue.specs.declared.test.Class.{Class}
use Rattle.scl_catalogue.specs.declared.test.Class.TheVariants as class
use Rattle.scl_catalogue.specs.declared.text.How.{How}
use Rattle.scl_catalogue.specs.declared.text.How.TheVariants as how
use Rattle.scl_catalogue.proofs.KeyLemmas.{and-left, and-right, begins-number, bytes-same, or-true, set-kept, set-there}

or-first : (a b : Bool) → a ≡ true → (a || b) ≡ true
or-first a b h = rw h refl

or-more : (a b c d : Bool) → (a ≡ true → c ≡ true) → (b ≡ true → d ≡ true) → (a || b) ≡ true → (c || d) ≡ true
or-more true b c d f g h = or-first c d (f refl)
or-more false b c d f g h = or-true c d (g h)

-- ---- numbers stay

all-there : (n m : ℕ) → any_number (replicate n true) m ≡ true
all-there zero m = refl
all-there (suc n) zero = refl
all-there (suc n) (suc m) = all-there n m

number-kept : (ns : List Bool) (k : Option ℕ) (m : ℕ) → any_number ns m ≡ true → any_number (with_number ns k) m ≡ true
number-kept ns None m h = all-there 64 m
number-kept ns (Some n) m h = set-kept ns n m h

patterns-kept : (ns : List Bool) (ps : List Pattern) (m : ℕ) → any_number ns m ≡ true → any_number (with_patterns ns ps) m ≡ true
patterns-kept ns [] m h = h
patterns-kept ns (p ∷ ps) m h = patterns-kept (with_number ns (key_of p)) ps m (number-kept ns (key_of p) m h)

names-kept : (s : NumberSet) (ps : List Pattern) (n : Numbers) → may_have s n ≡ true → (any_number (with_patterns s.names ps) n.name || any_number s.kinds n.kind) ≡ true
names-kept s ps n h = or-more (any_number s.names n.name) (any_number s.kinds n.kind) _ _ (patterns-kept s.names ps n.name) (λ k. k) h

kinds-kept : (s : NumberSet) (ps : List Pattern) (n : Numbers) → may_have s n ≡ true → (any_number s.names n.name || any_number (with_patterns s.kinds ps) n.kind) ≡ true
kinds-kept s ps n h = or-more (any_number s.names n.name) (any_number s.kinds n.kind) _ _ (λ k. k) (patterns-kept s.kinds ps n.kind) h

test-kept : (s : NumberSet) (c : Class) (ps : List Pattern) (n : Numbers) → may_have s n ≡ true → may_have (with_test_of s c ps) n ≡ true
test-kept s class.Option ps n h = names-kept s ps n h
test-kept s class.Raw ps n h = names-kept s ps n h
test-kept s class.Unknown ps n h = names-kept s ps n h
test-kept s class.Flag ps n h = names-kept s ps n h
test-kept s class.Kind ps n h = kinds-kept s ps n h

tests-kept : (s : NumberSet) (ts : List Test) (n : Numbers) → may_have s n ≡ true → may_have (with_tests s ts) n ≡ true
tests-kept s [] n h = h
tests-kept s (t ∷ ts) n h = tests-kept (with_test s t) ts n (test-kept s t.class t.names.any n h)

question-kept : (s : NumberSet) (q : Question) (n : Numbers) → may_have s n ≡ true → may_have (with_question s q) n ≡ true
question-kept s (Is f) n h = h
question-kept s (At p text) n h = h
question-kept s (Given r) n h = tests-kept s (first_group r).tests n h
question-kept s (Inner r) n h = tests-kept s (first_group r).tests n h

asked-kept : (is_denied : Bool) (s : NumberSet) (q : Question) (n : Numbers) → may_have s n ≡ true → may_have (cond is_denied s (with_question s q)) n ≡ true
asked-kept true s q n h = h
asked-kept false s q n h = question-kept s q n h

conditions-kept : (s : NumberSet) (cs : List Condition) (n : Numbers) → may_have s n ≡ true → may_have (with_conditions s cs) n ≡ true
conditions-kept s [] n h = h
conditions-kept s (c ∷ cs) n h = conditions-kept (with_condition s c) cs n (asked-kept c.is_denied s c.question n h)

cases-kept : (s : NumberSet) (cs : List Case) (n : Numbers) → may_have s n ≡ true → may_have (with_cases s cs) n ≡ true
cases-kept s [] n h = h
cases-kept s (c ∷ cs) n h = cases-kept (with_case s c) cs n (conditions-kept s c.conditions n h)

-- ---- the numbers of words that patterns fit

number-there : (ns : List Bool) (n m : ℕ) → n ≡ m → any_number (with_number ns (Some n)) m ≡ true
number-there ns n m e = rw e (set-there ns m)

either-there : (b : Bool) (ns : List Bool) (n m : ℕ) → n ≡ m → any_number (with_number ns (cond b None (Some n))) m ≡ true
either-there true ns n m e = all-there 64 m
either-there false ns n m e = number-there ns n m e

same-number : (text word : List ℕ) → text ≡ word → number text ≡ number word
same-number text word e = rw e refl

begins-there : (ns : List Bool) (text word : List ℕ) → starts_with nat_eq word text ≡ true → any_number (with_number ns (key_by how.Begins text)) (number word) ≡ true
begins-there ns [] word h = all-there 64 (number word)
begins-there ns (a ∷ []) word h = all-there 64 (number word)
begins-there ns (a ∷ b ∷ []) word h = all-there 64 (number word)
begins-there ns (a ∷ b ∷ c ∷ ts) word h = either-there _ ns (number (a ∷ b ∷ c ∷ ts)) (number word) (begins-number a b c ts word h)

there-by : (ns : List Bool) (h : How) (text word : List ℕ) → compared h text word ≡ true → any_number (with_number ns (key_by h text)) (number word) ≡ true
there-by ns how.Is text word f = number-there ns (number text) (number word) (same-number text word (bytes-same text word f))
there-by ns how.Begins text word f = begins-there ns text word f
there-by ns how.Ends text word f = all-there 64 (number word)
there-by ns how.Holds text word f = all-there 64 (number word)

patterns-there : (ns : List Bool) (ps : List Pattern) (word : List ℕ) → one_fits ps word ≡ true → any_number (with_patterns ns ps) (number word) ≡ true
patterns-there ns [] word h = let no : false ≡ true = h in cc
patterns-there ns (p ∷ ps) word h = elim (fits p word) as (λ b. (fits p word ≡ b) → (b || one_fits ps word) ≡ true → any_number (with_patterns ns (p ∷ ps)) (number word) ≡ true) [
  | true ↦ λ e k. patterns-kept (with_number ns (key_of p)) ps (number word) (there-by ns p.how p.text word e)
  | false ↦ λ e k. patterns-there (with_number ns (key_of p)) ps word k
] refl h

-- ---- the numbers of options for which entries ask

names-there : (s : NumberSet) (ps : List Pattern) (o : OptionSeen) → one_fits ps o.name ≡ true → (any_number (with_patterns s.names ps) (number o.name) || any_number s.kinds (number o.kind)) ≡ true
names-there s ps o h = or-first _ _ (patterns-there s.names ps o.name h)

kinds-there : (s : NumberSet) (ps : List Pattern) (o : OptionSeen) → one_fits ps o.kind ≡ true → (any_number s.names (number o.name) || any_number (with_patterns s.kinds ps) (number o.kind)) ≡ true
kinds-there s ps o h = or-true _ _ (patterns-there s.kinds ps o.kind h)

named-there : (s : NumberSet) (c : Class) (ps : List Pattern) (o : OptionSeen) → one_fits ps (name_by c o) ≡ true → may_have (with_test_of s c ps) (numbers_of o) ≡ true
named-there s class.Option ps o h = names-there s ps o h
named-there s class.Raw ps o h = names-there s ps o h
named-there s class.Unknown ps o h = names-there s ps o h
named-there s class.Flag ps o h = names-there s ps o h
named-there s class.Kind ps o h = kinds-there s ps o h

test-there : (s : NumberSet) (t : Test) (o : OptionSeen) → test_passes t o ≡ true → may_have (with_test s t) (numbers_of o) ≡ true
unfolding test_passes passes
test-there s t o h =
    let r : (passes t.names (name_by t.class o) && list_all (is_met o) t.demands) ≡ true = and-right (is_of t.class o.standing) _ h in
    let n : passes t.names (name_by t.class o) ≡ true = and-left (passes t.names (name_by t.class o)) _ r in
    named-there s t.class t.names.any o (and-left (one_fits t.names.any (name_by t.class o)) _ n)

tests-there : (s : NumberSet) (ts : List Test) (o : OptionSeen) → list_any (λ t. test_passes t o) ts ≡ true → may_have (with_tests s ts) (numbers_of o) ≡ true
tests-there s [] o h = let no : false ≡ true = h in cc
tests-there s (t ∷ ts) o h = elim (test_passes t o) as (λ b. (test_passes t o ≡ b) → (b || list_any (λ t. test_passes t o) ts) ≡ true → may_have (with_tests s (t ∷ ts)) (numbers_of o) ≡ true) [
  | true ↦ λ e k. tests-kept (with_test s t) ts (numbers_of o) (test-there s t o e)
  | false ↦ λ e k. tests-there (with_test s t) ts o k
] refl h

question-there : (s : NumberSet) (l : Level) (q : Question) (o : OptionSeen) → begins_with o (relation_at l q) ≡ true → may_have (with_question s q) (numbers_of o) ≡ true
unfolding in_group
question-there s level.Outer (Is f) o h = let no : false ≡ true = h in cc
question-there s level.Outer (At p text) o h = let no : false ≡ true = h in cc
question-there s level.Outer (Given r) o h = tests-there s (first_group r).tests o h
question-there s level.Outer (Inner r) o h = let no : false ≡ true = h in cc
question-there s level.Inner (Is f) o h = let no : false ≡ true = h in cc
question-there s level.Inner (At p text) o h = let no : false ≡ true = h in cc
question-there s level.Inner (Given r) o h = let no : false ≡ true = h in cc
question-there s level.Inner (Inner r) o h = tests-there s (first_group r).tests o h

asked-there : (is_denied : Bool) (s : NumberSet) (l : Level) (q : Question) (o : OptionSeen) → (not is_denied && begins_with o (relation_at l q)) ≡ true → may_have (cond is_denied s (with_question s q)) (numbers_of o) ≡ true
asked-there true s l q o h = let no : false ≡ true = h in cc
asked-there false s l q o h = question-there s l q o h

conditions-there : (s : NumberSet) (l : Level) (cs : List Condition) (o : OptionSeen) → list_any (asks_for l o) cs ≡ true → may_have (with_conditions s cs) (numbers_of o) ≡ true
conditions-there s l [] o h = let no : false ≡ true = h in cc
conditions-there s l (c ∷ cs) o h = elim (asks_for l o c) as (λ b. (asks_for l o c ≡ b) → (b || list_any (asks_for l o) cs) ≡ true → may_have (with_conditions s (c ∷ cs)) (numbers_of o) ≡ true) [
  | true ↦ λ e k. conditions-kept (with_condition s c) cs (numbers_of o) (asked-there c.is_denied s l c.question o e)
  | false ↦ λ e k. conditions-there (with_condition s c) l cs o k
] refl h

cases-there : (s : NumberSet) (compiler : Compiler) (version : Option Version) (l : Level) (cs : List Case) (o : OptionSeen) → list_any (case_speaks_of compiler version l o) cs ≡ true → may_have (with_cases s cs) (numbers_of o) ≡ true
cases-there s compiler version l [] o h = let no : false ≡ true = h in cc
cases-there s compiler version l (c ∷ cs) o h = elim (case_speaks_of compiler version l o c) as (λ b. (case_speaks_of compiler version l o c ≡ b) → (b || list_any (case_speaks_of compiler version l o) cs) ≡ true → may_have (with_cases s (c ∷ cs)) (numbers_of o) ≡ true) [
  | true ↦ λ e k. cases-kept (with_case s c) cs (numbers_of o) (conditions-there s l c.conditions o (and-right (list_any (serves compiler version) c.served) _ e))
  | false ↦ λ e k. cases-there (with_case s c) compiler version l cs o k
] refl h

-- ---- the law

passed-over : (a b : Bool) → (b ≡ true → a ≡ true) → (a && b) ≡ b
passed-over a true more = rw (more refl) refl
passed-over true false more = refl
passed-over false false more = refl

pub pass_over_none : NumbersPassOverNone
unfolding speaks_of
pass_over_none tells name says cases compiler version l o =
    passed-over (may_have (numbers_in cases) (numbers_of o)) (list_any (case_speaks_of compiler version l o) cases) (cases-there _ compiler version l cases o)
