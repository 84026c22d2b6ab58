-- JSON is UTF-8.
use Rattle.std.proofs.Common.{◌≡◌, ◌<◌, ℕ, zero, suc, Bool, true, codes, List, [], ◌∷◌, ◌++◌, refl, sym, subst, arith, append-nil}
use Rattle.std.proofs.lemmas.Str.{IsUtf8-append, IsUtf8-from_ascii, IsUtf8-nil}
use Rattle.std.specs.Prelude.{nat_lt}
use Rattle.std.specs.Char.{encode_utf8}
use Rattle.std.specs.List.{flat_map, list_all}
use Rattle.std.specs.Str.{all_scalars, IsAscii, IsUtf8}
use Rattle.scl_values.specs.Each.{Each}
use Rattle.scl_description.specs.Rows.{Entry}
use Rattle.scl_json.specs.Json.{is_hex, IsInside, nothing, character, mark, unit, IsString, string, Kind, value, values, members, Are, null, yes, no, number, text, list, record_of, no_values, more_values, no_members, more_members, IsJson}
use Rattle.scl_json.specs.Laws.{WhatIsWrittenIsJson}
use Rattle.scl_json.specs.Objects.{is_digit, is_number, json_of}
use Rattle.scl_json.specs.Texts.{behind_comma, is_mark, joined}

one-ascii : (c : ℕ) → c < 128 → IsAscii (c ∷ [])
one-ascii c h zero = h
one-ascii c h (suc i) = omega arith

behind-byte : (c : ℕ) (s : List ℕ) → c < 128 → IsUtf8 s → IsUtf8 (c ∷ s)
behind-byte c s h u = IsUtf8-append (c ∷ []) s (IsUtf8-from_ascii (c ∷ []) (one-ascii c h)) u

-- bytes of ASCII
abbrev low : List ℕ → Bool
low bytes = list_all (λ c. nat_lt c 128) bytes

ascii : (bytes : List ℕ) → low bytes ≡ true → IsUtf8 bytes
ascii [] h = IsUtf8-nil
ascii (c ∷ bytes) h = behind-byte c bytes (grind arith) (ascii bytes (grind arith))

hex-low : (c : ℕ) → is_hex c ≡ true → c < 128
hex-low c h = grind arith

mark-low : (c : ℕ) → is_mark c ≡ true → c < 128
mark-low c h = grind arith

digit-low : (c : ℕ) → is_digit c ≡ true → c < 128
digit-low c h = grind arith

scalar-text : (c : ℕ) → all_scalars (c ∷ []) ≡ true → IsUtf8 (encode_utf8 c)
scalar-text c h = (c ∷ [], (h, append-nil (encode_utf8 c)))

inside-text : (s : List ℕ) → IsInside s → IsUtf8 s
inside-text _ nothing = IsUtf8-nil
inside-text _ (character c s scalar low quote slash rest) = IsUtf8-append (encode_utf8 c) s (scalar-text c scalar) (inside-text s rest)
inside-text _ (mark c s m rest) = behind-byte 92 (c ∷ s) (omega arith) (behind-byte c s (mark-low c m) (inside-text s rest))
inside-text _ (unit a b c d s ha hb hc hd rest) =
    behind-byte 92 _ (omega arith) (behind-byte 117 _ (omega arith) (behind-byte a _ (hex-low a ha) (behind-byte b _ (hex-low b hb) (behind-byte c _ (hex-low c hc) (behind-byte d s (hex-low d hd) (inside-text s rest))))))

between : (bs ds s : List ℕ) → IsUtf8 bs → IsUtf8 s → IsUtf8 ds → IsUtf8 (bs ++ s ++ ds)
between bs ds s b u d = IsUtf8-append (bs ++ s) ds (IsUtf8-append bs s b u) d

string-text : (s : List ℕ) → IsString s → IsUtf8 s
string-text _ (string s i) = between (codes "\"") (codes "\"") s (ascii (codes "\"") refl) (inside-text s i) (ascii (codes "\"") refl)

digits-text : (digits : List ℕ) → list_all is_digit digits ≡ true → IsUtf8 digits
digits-text [] h = IsUtf8-nil
digits-text (d ∷ ds) h = behind-byte d ds (digit-low d (grind arith)) (digits-text ds (grind arith))

number-digits : (digits : List ℕ) → is_number digits ≡ true → list_all is_digit digits ≡ true
number-digits digits h = grind arith

behind-text : (items : List (List ℕ)) → Each IsUtf8 items → IsUtf8 (flat_map behind_comma items)
behind-text [] u = IsUtf8-nil
behind-text (item ∷ items) u = behind-byte 44 _ (omega arith) (IsUtf8-append item _ (u.0) (behind-text items (u.1)))

joined-text : (items : List (List ℕ)) → Each IsUtf8 items → IsUtf8 (joined items)
joined-text [] u = IsUtf8-nil
joined-text (item ∷ items) u = IsUtf8-append item _ (u.0) (behind-text items (u.1))

are-text : (k : Kind) (ts : List (List ℕ)) → Are k ts → Each IsUtf8 ts
are-text _ _ null = (ascii (codes "null") refl, tt)
are-text _ _ yes = (ascii (codes "true") refl, tt)
are-text _ _ no = (ascii (codes "false") refl, tt)
are-text _ _ (number digits d) = (digits-text digits (number-digits digits d), tt)
are-text _ _ (text s i) = (string-text s i, tt)
are-text _ _ (list items a) = (between (codes "[") (codes "]") (joined items) (ascii (codes "[") refl) (joined-text items (are-text values items a)) (ascii (codes "]") refl), tt)
are-text _ _ (record_of ms a) = (between (codes "{") (codes "}") (joined ms) (ascii (codes "{") refl) (joined-text ms (are-text members ms a)) (ascii (codes "}") refl), tt)
are-text _ _ no_values = tt
are-text _ _ (more_values v vs a rest) = ((are-text value (v ∷ []) a).0, are-text values vs rest)
are-text _ _ no_members = tt
are-text _ _ (more_members name v ms n a rest) = (between name v (codes ":") (string-text name n) (ascii (codes ":") refl) ((are-text value (v ∷ []) a).0), are-text members ms rest)

pub json_text : (json : List ℕ) → IsJson json → IsUtf8 json
json_text json j = (are-text value (json ∷ []) j).0

-- its line is one too
pub line_text : (json : List ℕ) → IsJson json → IsUtf8 (json ++ 10 ∷ [])
line_text json j = IsUtf8-append json (10 ∷ []) (json_text json j) (ascii (10 ∷ []) refl)

-- what is written of entries
pub written_json : (json : List ℕ) (entries : List Entry) → WhatIsWrittenIsJson → json ≡ json_of entries → IsJson json
written_json json entries law e = subst IsJson (sym e) (law entries)
