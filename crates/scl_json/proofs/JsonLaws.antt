-- What is written of rows is JSON.
use Rattle.std.proofs.Common.{◌≡◌, ◌≢◌, ◌<◌, ◌≤◌, ◌&&◌, ◌||◌, ◌+◌, ◌-◌, ◌/◌, ◌%◌, ℕ, zero, suc, Bool, true, false, cond, codes, List, [], ◌∷◌, ◌++◌, map, refl, sym, subst, arith, append_assoc, append-nil}
use Rattle.std.specs.Prelude.{nat_lt}
use Rattle.std.proofs.lemmas.Str.{encode_ascii, scalars-chars, chars-IsAscii, IsUtf8-from_ascii, IsUtf8-from_is_utf8}
use Rattle.std.specs.Char.{encode_utf8}
use Rattle.std.specs.List.{flat_map}
use Rattle.std.specs.Str.{all_scalars, chars, is_utf8, IsAscii}
use Rattle.scl_values.specs.Escaped.{digit_of}
use Rattle.scl_shell.specs.Quoted.{between}
use Rattle.scl_shell.specs.Shown.{is_hidden}
use Rattle.scl_json.proofs.CharLaws.{plain-between, plain-mark, plain-number}
use Rattle.scl_description.specs.Rows.{Entry}
use Rattle.scl_json.specs.Json.{is_hex, IsInside, nothing, character, mark, unit, IsString, string, values, members, Are, null, yes, no, number, text as as_text, list, record_of, no_values, more_values, no_members, more_members, IsJson}
use Rattle.scl_json.specs.Laws.{WhatIsWrittenIsJson}
use Rattle.scl_json.specs.Members.{Line, line_of}
use Rattle.scl_json.specs.Objects.{value_of, is_number, number_of, truth, says_yes, are_rows, first_by, members_by, object_by, value_in, member_of}
use Rattle.scl_json.specs.Texts.{unit_escape, surrogates, number_escape, is_mark, is_plain, char_text, quoted, digits_of, quoted_digits, raw, text, name_text, texts}
use Rattle.scl_json.specs.declared.members.Form.{Form}
use Rattle.scl_json.specs.declared.members.Form.TheVariants.{Named, Number, Truth, Yes, One, Each, Rows, Objects}

-- ---- strings

no-quote : (c : ℕ) → is_mark c ≡ false → c ≢ 34
no-quote c m = grind arith

no-slash : (c : ℕ) → is_mark c ≡ false → c ≢ 92
no-slash c m = grind arith

hex-as : (m : ℕ) (is_low : Bool) → nat_lt m 10 ≡ is_low → m < 16 → is_hex (cond is_low (0x30 + m) (0x57 + m)) ≡ true
hex-as m true e h = grind arith
hex-as m false e h = grind arith

hex : (n : ℕ) → is_hex (digit_of (n % 16)) ≡ true
hex n = hex-as (n % 16) (nat_lt (n % 16) 10) refl (omega arith)

hex-plain : (c : ℕ) → is_hex c ≡ true → is_plain c ≡ true
hex-plain c h = grind arith

one-ascii : (c : ℕ) → between 32 c 126 ≡ true → IsAscii (c ∷ [])
one-ascii c h zero = grind arith
one-ascii c h (suc i) = grind arith

ascii-scalar : (c : ℕ) → between 32 c 126 ≡ true → all_scalars (c ∷ []) ≡ true
ascii-scalar c h =
    let P : List ℕ → Type 0 = λ cs. all_scalars cs ≡ true in
    subst P (chars-IsAscii (c ∷ []) (one-ascii c h)) (scalars-chars (c ∷ []) (IsUtf8-from_ascii (c ∷ []) (one-ascii c h)))

low : (c : ℕ) → between 32 c 126 ≡ true → 32 ≤ c
low c h = grind arith

-- a character of ASCII that stands for itself
inside-plain : (c : ℕ) (s : List ℕ) → is_plain c ≡ true → IsInside s → IsInside (c ∷ s)
inside-plain c s p i =
    let P : List ℕ → Type 0 = λ bs. IsInside (bs ++ s) in
    let b : between 32 c 126 ≡ true = plain-between c p in
    subst P (encode_ascii c (plain-number c p)) (character c s (ascii-scalar c b) (low c b) (no-quote c (plain-mark c p)) (no-slash c (plain-mark c p)) i)

inside-hex : (c : ℕ) (s : List ℕ) → is_hex c ≡ true → IsInside s → IsInside (c ∷ s)
inside-hex c s h i = inside-plain c s (hex-plain c h) i

inside-digits : (bs : List ℕ) → IsInside (flat_map digits_of bs)
inside-digits [] = nothing
inside-digits (b ∷ bs) = inside-hex _ _ (hex (b / 16)) (inside-hex _ _ (hex b) (inside-digits bs))

inside-unit : (n : ℕ) (s : List ℕ) → IsInside s → IsInside (unit_escape n ++ s)
inside-unit n s i = unit _ _ _ _ s (hex (n / 4096)) (hex (n / 256)) (hex (n / 16)) (hex n) i

inside-surrogates : (n : ℕ) (s : List ℕ) → IsInside s → IsInside (surrogates n ++ s)
inside-surrogates n s i =
    let high : ℕ = 0xd800 + n / 1024 % 1024 in
    let low : ℕ = 0xdc00 + n % 1024 in
    subst IsInside (sym (append_assoc (unit_escape high) (unit_escape low) s)) (inside-unit high (unit_escape low ++ s) (inside-unit low s i))

inside-number : (c : ℕ) (s : List ℕ) (is_low : Bool) → IsInside s → IsInside (cond is_low (unit_escape c) (surrogates (c - 0x1_0000)) ++ s)
inside-number c s true i = inside-unit c s i
inside-number c s false i = inside-surrogates (c - 0x1_0000) s i

mark-number : (c : ℕ) → is_mark c ≡ true → c < 128
mark-number c m = grind arith

or_left : (a b : Bool) → (a || b) ≡ false → a ≡ false
or_left true b h = h
or_left false b h = refl

no-control : (c : ℕ) → between 0 c 0x1f ≡ false → 32 ≤ c
no-control c h = grind arith

seen-low : (c : ℕ) → is_hidden c ≡ false → 32 ≤ c
seen-low c h = no-control c (or_left _ _ (or_left _ _ h))

inside-char : (c : ℕ) (s : List ℕ) (hidden marks : Bool) → is_hidden c ≡ hidden → is_mark c ≡ marks → all_scalars (c ∷ []) ≡ true → IsInside s
    → IsInside (cond hidden (number_escape c) (cond marks (92 ∷ encode_utf8 c) (encode_utf8 c)) ++ s)
inside-char c s true marks h m a i = inside-number c s (nat_lt c 0x1_0000) i
inside-char c s false true h m a i =
    let P : List ℕ → Type 0 = λ bs. IsInside (92 ∷ (bs ++ s)) in
    subst P (sym (encode_ascii c (mark-number c m))) (mark c s m i)
inside-char c s false false h m a i = character c s a (seen-low c h) (no-quote c m) (no-slash c m) i

and_left : (a b : Bool) → (a && b) ≡ true → a ≡ true
and_left true b h = refl
and_left false b h = h

and_right : (a b : Bool) → (a && b) ≡ true → b ≡ true
and_right true b h = h
and_right false b h = cc

both : (a b : Bool) → a ≡ true → b ≡ true → (a && b) ≡ true
both true b h k = k
both false b h k = h

inside-chars : (cs : List ℕ) → all_scalars cs ≡ true → IsInside (flat_map char_text cs)
inside-chars [] a = nothing
inside-chars (c ∷ cs) a =
    inside-char c (flat_map char_text cs) (is_hidden c) (is_mark c) refl refl (both _ true (and_left _ (all_scalars cs) a) refl) (inside-chars cs (and_right _ (all_scalars cs) a))

chars-scalar : (bytes : List ℕ) → is_utf8 bytes ≡ true → all_scalars (chars bytes) ≡ true
chars-scalar bytes h = scalars-chars bytes (IsUtf8-from_is_utf8 bytes h)

quoted-string : (bytes : List ℕ) → is_utf8 bytes ≡ true → IsString (quoted (chars bytes))
quoted-string bytes h = string (flat_map char_text (chars bytes)) (inside-chars (chars bytes) (chars-scalar bytes h))

digits-string : (bytes : List ℕ) → IsString (quoted_digits bytes)
digits-string bytes = string (flat_map digits_of bytes) (inside-digits bytes)

name-as : (bytes : List ℕ) (known : Bool) → is_utf8 bytes ≡ known → IsString (cond known (quoted (chars bytes)) (quoted_digits bytes))
name-as bytes true h = quoted-string bytes h
name-as bytes false h = digits-string bytes

name-string : (bytes : List ℕ) → IsString (name_text bytes)
name-string bytes = name-as bytes (is_utf8 bytes) refl

-- ---- values

hex-name : IsString (codes "\"hex\"")
hex-name = string (codes "hex") (inside-plain 104 _ refl (inside-plain 101 _ refl (inside-plain 120 _ refl nothing)))

raw-value : (bytes : List ℕ) → IsJson (raw bytes)
raw-value bytes =
    let q : List ℕ = quoted_digits bytes in
    let P : List ℕ → Type 0 = λ bs. IsJson (codes "{\"hex\":" ++ bs ++ codes "}") in
    subst P (append-nil q) (record_of _ (more_members (codes "\"hex\"") q [] hex-name (as_text q (digits-string bytes)) no_members))

text-as : (bytes : List ℕ) (known : Bool) → is_utf8 bytes ≡ known → IsJson (cond known (quoted (chars bytes)) (raw bytes))
text-as bytes true h = as_text _ (quoted-string bytes h)
text-as bytes false h = raw-value bytes

text-value : (bytes : List ℕ) → IsJson (text bytes)
text-value bytes = text-as bytes (is_utf8 bytes) refl

text-values : (words : List (List ℕ)) → Are values (map text words)
text-values [] = no_values
text-values (word ∷ words) = more_values (text word) (map text words) (text-value word) (text-values words)

texts-value : (words : List (List ℕ)) → IsJson (texts words)
texts-value words = list (map text words) (text-values words)

value_of-value : (words : List (List ℕ)) → IsJson (value_of words)
value_of-value [] = texts-value []
value_of-value (word ∷ []) = text-value word
value_of-value (word ∷ (other ∷ words)) = texts-value (word ∷ other ∷ words)

number-as : (word : List ℕ) (known : Bool) → is_number word ≡ known → IsJson (cond known word (text word))
number-as word true h = number word h
number-as word false h = text-value word

number_of-value : (words : List (List ℕ)) → IsJson (number_of words)
number_of-value [] = texts-value []
number_of-value (word ∷ []) = number-as word (is_number word) refl
number_of-value (word ∷ (other ∷ words)) = texts-value (word ∷ other ∷ words)

truth-value : (b : Bool) → IsJson (truth b)
truth-value true = yes
truth-value false = no

first-value : (f : List (List ℕ) → List ℕ) (rests : List (List (List ℕ))) → ((rest : List (List ℕ)) → IsJson (f rest)) → IsJson (first_by f rests)
first-value f [] h = null
first-value f (rest ∷ rests) h = h rest

each-value : (f : List (List ℕ) → List ℕ) (rests : List (List (List ℕ))) → ((rest : List (List ℕ)) → IsJson (f rest)) → Are values (map f rests)
each-value f [] h = no_values
each-value f (rest ∷ rests) h = more_values (f rest) (map f rests) (h rest) (each-value f rests h)

members-by : (names words : List (List ℕ)) → Are members (members_by names words)
members-by [] [] = no_members
members-by [] (word ∷ words) = more_members (name_text (codes "words")) (texts (word ∷ words)) [] (name-string (codes "words")) (texts-value (word ∷ words)) no_members
members-by (name ∷ names) [] = no_members
members-by (name ∷ names) (word ∷ words) = more_members (name_text name) (text word) (members_by names words) (name-string name) (text-value word) (members-by names words)

object-value : (names words : List (List ℕ)) → IsJson (object_by names words)
object-value names words = record_of (members_by names words) (members-by names words)

value-in : (form : Form) (names : List (List ℕ)) (name : List ℕ) (rests : List (List (List ℕ))) → IsJson (value_in form names name rests)
value-in Named names name rests = text-value name
value-in Number names name rests = first-value number_of rests number_of-value
value-in Truth names name rests = first-value (λ rest. truth (says_yes rest)) rests (λ rest. truth-value (says_yes rest))
value-in Yes names name rests = truth-value (are_rows rests)
value-in One names name rests = first-value value_of rests value_of-value
value-in Each names name rests = list (map value_of rests) (each-value value_of rests value_of-value)
value-in Rows names name rests = list (map texts rests) (each-value texts rests texts-value)
value-in Objects names name rests = list (map (object_by names) rests) (each-value (object_by names) rests (object-value names))

members-of : (entries : List Entry) → Are members (map member_of entries)
members-of [] = no_members
members-of (e ∷ entries) =
    let line : Line = line_of e.name in
    let v : List ℕ = value_in line.form line.fields e.name e.rests in
    more_members (name_text line.name) v (map member_of entries) (name-string line.name) (value-in line.form line.fields e.name e.rests) (members-of entries)

pub what_is_written : WhatIsWrittenIsJson
what_is_written = λ entries. record_of (map member_of entries) (members-of entries)

pub ruleset json_laws = (what_is_written)
