-- Cases, read again.
use Rattle.std.proofs.Common.{◌≡◌, ◌∙◌, ℕ, ◌+◌, ◌-◌, ◌*◌, ◌/◌, ◌%◌, ◌<◌, ◌≤◌, ◌==◌, Bool, true, false, not, ◌&&◌, ◌||◌, List, [], ◌∷◌, ◌++◌, map, codes, Option, None, Some, Ok, nat_lt, append_assoc, refl, sym, ap, arith}
use Rattle.std.proofs.lemmas.Bool.{lt-ltb, ltb-true}
use Rattle.std.proofs.lemmas.Fmt.{decimal_by_steps}
use Rattle.std.proofs.lemmas.List.{append-nil}
use Rattle.std.specs.Char.{is_ascii_control}
use Rattle.std.specs.Fmt.{decimal}
use Rattle.std.specs.List.{list_all, list_any}
use Rattle.std.specs.Prelude.{option_and_then}
use Rattle.scl_catalogue.specs.Form.{Group, Case}
use Rattle.scl_catalogue.specs.declared.case.Compiler.{Compiler}
use Rattle.scl_catalogue.specs.declared.case.Compiler.TheVariants as compiler
use Rattle.scl_catalogue.specs.declared.case.Served.{Served}
use Rattle.scl_catalogue.specs.declared.case.Version.{Version}
use Rattle.scl_catalogue_text.specs.Cutting.{from_mark, parts, until_mark, words}
use Rattle.scl_catalogue_text.specs.Names.{compiler_name, compiler_named}
use Rattle.scl_catalogue_text.specs.Outcome.{each}
use Rattle.scl_catalogue_text.specs.Reading.{all_served, case_by, case_read, number_from, number_read, one_bound, served_by, served_of_words, served_read, two_bounds, version_read, with_digit}
use Rattle.scl_catalogue_text.specs.Writable.{IsCase, has_one, is_bound, is_served}
use Rattle.scl_catalogue_text.specs.Written.{bound_words, case_text, condition_text, joined, served_words, spaced, version_text}
use Rattle.scl_catalogue_text.proofs.ConditionLemmas.{conditions-bytes, conditions-written, is_of_line}
use Rattle.scl_catalogue_text.proofs.GroupLemmas.{HasNoControl, joined-bytes, lacks-all, other-than-control}
use Rattle.scl_catalogue_text.proofs.SplitLemmas.{from-append, is_unbroken, parts-joined, until-append, words-blank, words-spaced}
use Rattle.scl_catalogue_text.proofs.TestLemmas.{all-append, all-weaker, and-left, and-right, both, lacks-passed, lacks_mark, or-left}
use Rattle.scl_catalogue_text.proofs.TextLemmas.{all-mapped, each-written, spaced-bytes}

-- ---- numbers

abbrev pub is_of_version : ℕ → Bool
is_of_version b = (nat_lt 47 b && nat_lt b 58) || b == 46

record IsNumber (n : ℕ) (ds : List ℕ) : Type 0 where
  read : number_from 0 ds ≡ Some n
  some : has_one ds ≡ true
  bytes : list_all (λ b. nat_lt 47 b && nat_lt b 58) ds ≡ true

digit-test : (d : ℕ) → d < 10 → (nat_lt 47 (48 + d) && nat_lt (48 + d) 58) ≡ true
digit-test d h = both (lt-ltb 47 (48 + d) (omega arith)) (lt-ltb (48 + d) 58 (omega arith))

digit-added : (n d : ℕ) → d < 10 → n * 10 + d < 4294967296 → with_digit n (48 + d) ≡ Some (n * 10 + d)
digit-added n d h k =
    let same : 48 + d - 48 ≡ d = omega arith in
    rw (digit-test d h, same, lt-ltb (n * 10 + d) 4294967296 k) refl

and-then-some : (o : Option ℕ) → option_and_then (λ m. Some m) o ≡ o
and-then-some None = refl
and-then-some (Some m) = refl

number-append : (ds : List ℕ) (k c : ℕ) → number_from k (ds ++ c ∷ []) ≡ option_and_then (λ m. with_digit m c) (number_from k ds)
number-append [] k c = and-then-some (with_digit k c)
number-append (b ∷ ds) k c = elim (with_digit k b) as (λ o. option_and_then (λ m. number_from m (ds ++ c ∷ [])) o ≡ option_and_then (λ m. with_digit m c) (option_and_then (λ m. number_from m ds) o)) [
  | None ↦ refl
  | Some m ↦ number-append ds m c
]

some-append : (ds : List ℕ) (c : ℕ) → has_one (ds ++ c ∷ []) ≡ true
some-append [] c = refl
some-append (b ∷ ds) c = refl

one-digit : (n : ℕ) → n < 10 → n < 4294967296 → IsNumber n ((48 + n) ∷ [])
one-digit n h k =
    let same : 0 * 10 + n ≡ n = omega arith in
    record { read = ap (option_and_then (λ m. Some m)) (digit-added 0 n h (omega arith)) ∙ ap Some same; some = refl; bytes = both (digit-test n h) refl }

more-digits : (n : ℕ) (ds : List ℕ) → 10 ≤ n → (n / 10 < 4294967296 → IsNumber (n / 10) ds) → n < 4294967296 → IsNumber n (ds ++ (48 + n % 10) ∷ [])
more-digits n ds h r k =
    let front = r (omega arith) in
    let whole : n / 10 * 10 + n % 10 ≡ n = omega arith in
    record {
      read = number-append ds 0 (48 + n % 10) ∙ (rw front.read (digit-added (n / 10) (n % 10) (omega arith) (omega arith) ∙ ap Some whole));
      some = some-append ds (48 + n % 10);
      bytes = all-append (λ b. nat_lt 47 b && nat_lt b 58) ds ((48 + n % 10) ∷ []) front.bytes (both (digit-test (n % 10) (omega arith)) refl);
    }

decimal-number : (n : ℕ) → n < 4294967296 → IsNumber n (decimal n)
decimal-number n h = decimal_by_steps (λ m ds. m < 4294967296 → IsNumber m ds) one-digit more-digits n (omega arith) h

number-of : (ds : List ℕ) (n : ℕ) → IsNumber n ds → number_read ds ≡ Some n
unfolding number_read
number-of [] n r = let no : false ≡ true = r.some in cc
number-of (b ∷ ds) n r = r.read

-- ---- versions

version-of-digits : (ds : List ℕ) → list_all (λ b. nat_lt 47 b && nat_lt b 58) ds ≡ true → list_all is_of_version ds ≡ true
version-of-digits ds h = all-weaker (λ b. nat_lt 47 b && nat_lt b 58) is_of_version (λ b k. or-left (nat_lt 47 b && nat_lt b 58) (b == 46) k) ds h

version-numbers : (major minor : ℕ) → major < 4294967296 → minor < 4294967296 → version_read (decimal major ++ 46 ∷ decimal minor) ≡ Some (record { major = major; minor = minor })
unfolding version_read
version-numbers major minor h k =
    let a = decimal-number major h in
    let b = decimal-number minor k in
    let lacking : lacks_mark 46 (decimal major) ≡ true = lacks-passed (λ b. nat_lt 47 b && nat_lt b 58) 46 refl (decimal major) a.bytes in
    let until : until_mark 46 (decimal major ++ 46 ∷ decimal minor) ≡ decimal major = until-append 46 (decimal major) (46 ∷ decimal minor) lacking ∙ append-nil (decimal major) in
    let from : from_mark 46 (decimal major ++ 46 ∷ decimal minor) ≡ 46 ∷ decimal minor = from-append 46 (decimal major) (46 ∷ decimal minor) lacking in
    rw (until, from, number-of (decimal major) major a, number-of (decimal minor) minor b) refl

below : (n : ℕ) → nat_lt n 4294967296 ≡ true → n < 4294967296
below n h = ltb-true n 4294967296 h

version-written : (v : Version) → is_bound (Some v) ≡ true → version_read (version_text v) ≡ Some v
version-written v h = version-numbers v.major v.minor (below v.major (and-left (nat_lt v.major 4294967296) (nat_lt v.minor 4294967296) h)) (below v.minor (and-right (nat_lt v.major 4294967296) (nat_lt v.minor 4294967296) h))

some-more : (ds xs : List ℕ) → has_one ds ≡ true → has_one (ds ++ xs) ≡ true
some-more [] xs h = let no : false ≡ true = h in cc
some-more (b ∷ ds) xs h = refl

version-bytes : (v : Version) → is_bound (Some v) ≡ true → list_all is_of_version (version_text v) ≡ true
version-bytes v h =
    let a = decimal-number v.major (below v.major (and-left (nat_lt v.major 4294967296) (nat_lt v.minor 4294967296) h)) in
    let b = decimal-number v.minor (below v.minor (and-right (nat_lt v.major 4294967296) (nat_lt v.minor 4294967296) h)) in
    all-append is_of_version (decimal v.major) (46 ∷ decimal v.minor) (version-of-digits (decimal v.major) a.bytes) (version-of-digits (decimal v.minor) b.bytes)

version-unbroken : (v : Version) → is_bound (Some v) ≡ true → is_unbroken (version_text v) ≡ true
version-unbroken v h =
    let a = decimal-number v.major (below v.major (and-left (nat_lt v.major 4294967296) (nat_lt v.minor 4294967296) h)) in
    both (some-more (decimal v.major) (46 ∷ decimal v.minor) a.some) (lacks-passed is_of_version 32 refl (version_text v) (version-bytes v h))

-- ---- compilers

abbrev pub is_of_served : ℕ → Bool
is_of_served b = not (list_any (λ m. b == m) (44 ∷ 58 ∷ []) || is_ascii_control b)

abbrev pub is_of_compilers : ℕ → Bool
is_of_compilers b = not (list_any (λ m. b == m) (58 ∷ []) || is_ascii_control b)

record IsName (c : Compiler) : Type 0 where
  read : compiler_named (compiler_name c) ≡ Some c
  unbroken : is_unbroken (compiler_name c) ≡ true
  bytes : list_all is_of_served (compiler_name c) ≡ true

compiler-name : (c : Compiler) → IsName c
compiler-name compiler.Gcc = record { read = refl; unbroken = refl; bytes = refl }
compiler-name compiler.Clang = record { read = refl; unbroken = refl; bytes = refl }
compiler-name compiler.ClangCl = record { read = refl; unbroken = refl; bytes = refl }
compiler-name compiler.Cl = record { read = refl; unbroken = refl; bytes = refl }
compiler-name compiler.Diab = record { read = refl; unbroken = refl; bytes = refl }
compiler-name compiler.Tasking = record { read = refl; unbroken = refl; bytes = refl }

abbrev words_of_bounds : Option Version → Option Version → List (List ℕ)
words_of_bounds since until = bound_words (codes "since") since ++ bound_words (codes "until") until

bounds-read : (c : Compiler) (since until : Option Version) → is_bound since ≡ true → is_bound until ≡ true → served_by c (words_of_bounds since until) ≡ Ok (record { compiler = c; since = since; until = until })
unfolding served_by one_bound two_bounds
bounds-read c None None h k = refl
bounds-read c None (Some v) h k = rw (version-written v k) refl
bounds-read c (Some v) None h k = rw (version-written v h) refl
bounds-read c (Some v) (Some w) h k = rw (version-written v h, version-written w k) refl

bounds-unbroken : (since until : Option Version) → is_bound since ≡ true → is_bound until ≡ true → list_all is_unbroken (words_of_bounds since until) ≡ true
bounds-unbroken None None h k = refl
bounds-unbroken None (Some v) h k = both (version-unbroken v k) refl
bounds-unbroken (Some v) None h k = both (version-unbroken v h) refl
bounds-unbroken (Some v) (Some w) h k = both (version-unbroken v h) (both (version-unbroken w k) refl)

version-control : HasNoControl is_of_version
version-control b h = grind arith

version-of-served : (v : Version) → is_bound (Some v) ≡ true → list_all is_of_served (version_text v) ≡ true
version-of-served v h = lacks-all is_of_version (44 ∷ 58 ∷ []) (version_text v) version-control refl (version-bytes v h)

bounds-bytes : (since until : Option Version) → is_bound since ≡ true → is_bound until ≡ true → list_all (list_all is_of_served) (words_of_bounds since until) ≡ true
bounds-bytes None None h k = refl
bounds-bytes None (Some v) h k = both (version-of-served v k) refl
bounds-bytes (Some v) None h k = both (version-of-served v h) refl
bounds-bytes (Some v) (Some w) h k = both (version-of-served v h) (both (version-of-served w k) refl)

abbrev pub served_text : Served → List ℕ
served_text s = spaced (served_words s)

served-words : (s : Served) → is_served s ≡ true → words (served_text s) ≡ served_words s
served-words s h = words-spaced (served_words s) (both (compiler-name s.compiler).unbroken (bounds-unbroken s.since s.until (and-left (is_bound s.since) (is_bound s.until) h) (and-right (is_bound s.since) (is_bound s.until) h)))

words-served : (s : Served) → is_served s ≡ true → served_of_words (served_words s) ≡ Ok s
words-served s h = rw ((compiler-name s.compiler).read, bounds-read s.compiler s.since s.until (and-left (is_bound s.since) (is_bound s.until) h) (and-right (is_bound s.since) (is_bound s.until) h)) refl

served-written : (s : Served) → is_served s ≡ true → served_read (served_text s) ≡ Ok s
unfolding served_read
served-written s h = ap served_of_words (served-words s h) ∙ words-served s h

first-served : (s : Served) → is_served s ≡ true → served_read (32 ∷ served_text s) ≡ Ok s
unfolding served_read
first-served s h = ap served_of_words (words-blank (served_text s) ∙ served-words s h) ∙ words-served s h

served-bytes : (s : Served) → is_served s ≡ true → list_all is_of_served (served_text s) ≡ true
served-bytes s h = spaced-bytes is_of_served refl (served_words s) (both (compiler-name s.compiler).bytes (bounds-bytes s.since s.until (and-left (is_bound s.since) (is_bound s.until) h) (and-right (is_bound s.since) (is_bound s.until) h)))

served-lacks : (s : Served) → is_served s ≡ true → lacks_mark 44 (served_text s) ≡ true
served-lacks s h = lacks-passed is_of_served 44 refl (served_text s) (served-bytes s h)

blank-joined : (m : ℕ) (p : List ℕ) (ps : List (List ℕ)) → 32 ∷ joined m (p ∷ ps) ≡ joined m ((32 ∷ p) ∷ ps)
blank-joined m p [] = refl
blank-joined m p (q ∷ ps) = refl

all-served : (ss : List Served) → has_one ss ≡ true → list_all is_served ss ≡ true → all_served (32 ∷ joined 44 (map served_text ss)) ≡ Ok ss
unfolding all_served
all-served [] o h = let no : false ≡ true = o in cc
all-served (s ∷ ss) o h =
    let one : is_served s ≡ true = and-left (is_served s) (list_all is_served ss) h in
    let others : list_all is_served ss ≡ true = and-right (is_served s) (list_all is_served ss) h in
    let cut : parts 44 (joined 44 ((32 ∷ served_text s) ∷ map served_text ss)) ≡ (32 ∷ served_text s) ∷ map served_text ss =
    parts-joined 44 (32 ∷ served_text s) (map served_text ss) (both (served-lacks s one) (all-mapped is_served (lacks_mark 44) served_text served-lacks ss others)) in
    ap (λ bs. each served_read (parts 44 bs)) (blank-joined 44 (served_text s) (map served_text ss)) ∙ (ap (each served_read) cut
    ∙ rw (first-served s one, each-written served_read served_text is_served served-written ss others) refl)

served-of-compilers : (s : Served) → is_served s ≡ true → list_all is_of_compilers (served_text s) ≡ true
served-of-compilers s h = lacks-all is_of_served (58 ∷ []) (served_text s) (other-than-control (44 ∷ 58 ∷ [])) refl (served-bytes s h)

compilers-bytes : (ss : List Served) → list_all is_served ss ≡ true → list_all is_of_compilers (joined 44 (map served_text ss)) ≡ true
compilers-bytes ss h = joined-bytes is_of_compilers 44 refl (map served_text ss) (all-mapped is_served (list_all is_of_compilers) served_text served-of-compilers ss h)

-- ---- cases

pub case-written : (gs : List Group) (c : Case) → IsCase gs c → case_read gs (case_text c) ≡ Ok c
unfolding case_read
case-written gs c h =
    let head : List ℕ = 32 ∷ joined 44 (map served_text c.served) in
    let rest : List ℕ = joined 59 (map condition_text c.conditions) in
    let some : has_one c.served ≡ true = and-left (has_one c.served) (list_all is_served c.served) h.served in
    let each : list_all is_served c.served ≡ true = and-right (has_one c.served) (list_all is_served c.served) h.served in
    let lacking : lacks_mark 58 head ≡ true = lacks-passed is_of_compilers 58 refl head (compilers-bytes c.served each) in
    let until : until_mark 58 (head ++ 58 ∷ rest) ≡ head = until-append 58 head (58 ∷ rest) lacking ∙ append-nil head in
    let from : from_mark 58 (head ++ 58 ∷ rest) ≡ 58 ∷ rest = from-append 58 head (58 ∷ rest) lacking in
    ap (λ bs. case_by gs bs (from_mark 58 (head ++ 58 ∷ rest))) until ∙ (ap (case_by gs head) from ∙ rw (all-served c.served some each, conditions-written gs c.conditions h.some h.conditions) refl)

line-of-compilers : (bs : List ℕ) → list_all is_of_compilers bs ≡ true → list_all is_of_line bs ≡ true
line-of-compilers bs h = lacks-all is_of_compilers [] bs (other-than-control (58 ∷ [])) refl h

pub case-bytes : (gs : List Group) (c : Case) → IsCase gs c → list_all is_of_line (case_text c) ≡ true
case-bytes gs c h =
    all-append is_of_line (32 ∷ joined 44 (map served_text c.served)) (58 ∷ joined 59 (map condition_text c.conditions))
    (line-of-compilers (32 ∷ joined 44 (map served_text c.served)) (compilers-bytes c.served (and-right (has_one c.served) (list_all is_served c.served) h.served))) (conditions-bytes gs c.conditions h.conditions)

-- a case's line begins with a compiler
pub record BeginsCompiler (xs : List ℕ) : Type 0 where
  pub compiler : Compiler
  pub rest : List ℕ
  pub is : xs ≡ 32 ∷ 32 ∷ (compiler_name compiler ++ rest)

joined-first : (m : ℕ) (a : List ℕ) (ps : List (List ℕ)) → (rest : List ℕ) × (joined m (a ∷ ps) ≡ a ++ rest)
joined-first m a [] = ([], sym (append-nil a))
joined-first m a (q ∷ ps) = (m ∷ joined m (q ∷ ps), refl)

pub begins-compiler : (ss : List Served) (xs : List ℕ) → has_one ss ≡ true → BeginsCompiler (32 ∷ joined 44 (map served_text ss) ++ xs)
begins-compiler [] xs o = let no : false ≡ true = o in cc
begins-compiler (s ∷ ss) xs o =
    let j = joined-first 44 (served_text s) (map served_text ss) in
    let name = compiler_name s.compiler in
    let bounds : List ℕ = spaced (words_of_bounds s.since s.until) in
    let step : joined 44 (served_text s ∷ map served_text ss) ++ xs ≡ (32 ∷ (name ++ bounds)) ++ (j.0 ++ xs) = ap (λ ys. ys ++ xs) j.1 ∙ append_assoc (served_text s) j.0 xs in
    record { compiler = s.compiler; rest = bounds ++ (j.0 ++ xs); is = ap (λ ys. 32 ∷ ys) (step ∙ ap (λ ys. 32 ∷ ys) (append_assoc name bounds (j.0 ++ xs))) }
