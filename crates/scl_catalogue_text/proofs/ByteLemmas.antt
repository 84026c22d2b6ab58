-- Bytes as they are written in patterns, read again.
use Rattle.std.proofs.Common.{◌≡◌, ◌∙◌, ℕ, zero, suc, ◌+◌, ◌*◌, ◌/◌, ◌%◌, ◌<◌, ◌==◌, Bool, true, false, ◌||◌, cond, List, [], ◌∷◌, ◌++◌, map, Some, Result, Ok, Err, nat_lt, refl, ap, arith}
use Rattle.std.proofs.lemmas.Bool.{ltb-true}
use Rattle.std.specs.List.{list_all}
use Rattle.scl_catalogue_text.specs.Cutting.{parts}
use Rattle.scl_catalogue_text.specs.Outcome.{after}
use Rattle.scl_catalogue_text.specs.Reading.{digit, escape, escapes, hex_byte, unescaped}
use Rattle.scl_catalogue_text.specs.Writable.{has_one, is_bytes}
use Rattle.scl_catalogue_text.specs.Written.{all_of, byte_text, bytes_text, hex_digit, is_plain}
use Rattle.scl_catalogue_text.specs.declared.mistake.Mistake.{Mistake}
use Rattle.scl_catalogue_text.proofs.SplitLemmas.{parts-append, parts-mark}
use Rattle.scl_catalogue_text.proofs.TestLemmas.{all-append, and-left, and-right, both, lacks-passed, lacks_mark, or-left}

record IsHexDigit (n : ℕ) : Type 0 where
  value : digit (hex_digit n) ≡ Some n
  plain : is_plain (hex_digit n) ≡ true

hex : (n : ℕ) → n < 16 → IsHexDigit n
hex zero h = record { value = refl; plain = refl }
hex (suc zero) h = record { value = refl; plain = refl }
hex (suc (suc zero)) h = record { value = refl; plain = refl }
hex (suc (suc (suc zero))) h = record { value = refl; plain = refl }
hex (suc (suc (suc (suc zero)))) h = record { value = refl; plain = refl }
hex (suc (suc (suc (suc (suc zero))))) h = record { value = refl; plain = refl }
hex (suc (suc (suc (suc (suc (suc zero)))))) h = record { value = refl; plain = refl }
hex (suc (suc (suc (suc (suc (suc (suc zero))))))) h = record { value = refl; plain = refl }
hex (suc (suc (suc (suc (suc (suc (suc (suc zero)))))))) h = record { value = refl; plain = refl }
hex (suc (suc (suc (suc (suc (suc (suc (suc (suc zero))))))))) h = record { value = refl; plain = refl }
hex (suc (suc (suc (suc (suc (suc (suc (suc (suc (suc zero)))))))))) h = record { value = refl; plain = refl }
hex (suc (suc (suc (suc (suc (suc (suc (suc (suc (suc (suc zero))))))))))) h = record { value = refl; plain = refl }
hex (suc (suc (suc (suc (suc (suc (suc (suc (suc (suc (suc (suc zero)))))))))))) h = record { value = refl; plain = refl }
hex (suc (suc (suc (suc (suc (suc (suc (suc (suc (suc (suc (suc (suc zero))))))))))))) h = record { value = refl; plain = refl }
hex (suc (suc (suc (suc (suc (suc (suc (suc (suc (suc (suc (suc (suc (suc zero)))))))))))))) h = record { value = refl; plain = refl }
hex (suc (suc (suc (suc (suc (suc (suc (suc (suc (suc (suc (suc (suc (suc (suc zero))))))))))))))) h = record { value = refl; plain = refl }
hex (suc (suc (suc (suc (suc (suc (suc (suc (suc (suc (suc (suc (suc (suc (suc (suc n)))))))))))))))) h = absurd (omega arith)

-- ---- what is read of a byte, and then of those after it

-- parts of which these bytes are read
record IsReadAs (bs : List ℕ) (all : List (List ℕ)) : Type 0 where
  first : List ℕ
  others : List (List ℕ)
  is : all ≡ first ∷ others
  read : after (escapes others) (λ rest. Ok (first ++ rest)) ≡ Ok bs

after-cons : (e : Result (List ℕ) Mistake) (first bs : List ℕ) (b : ℕ) → after e (λ rest. Ok (first ++ rest)) ≡ Ok bs → after e (λ rest. Ok (b ∷ (first ++ rest))) ≡ Ok (b ∷ bs)
after-cons (Ok rest) first bs b h = cc
after-cons (Err m) first bs b h = cc

plain-step : (b : ℕ) (bs xs : List ℕ) → is_plain b ≡ true → IsReadAs bs (parts 92 xs) → IsReadAs (b ∷ bs) (parts 92 (b ∷ xs))
plain-step b bs xs h r = record {
  first = b ∷ r.first;
  others = r.others;
  is = parts-append 92 (b ∷ []) xs r.first r.others (lacks-passed is_plain 92 refl (b ∷ []) (both h refl)) r.is;
  read = after-cons (escapes r.others) r.first bs b r.read;
}

escape-byte : (b : ℕ) (first : List ℕ) → b < 256 → escape (120 ∷ hex_digit (b / 16) ∷ hex_digit (b % 16) ∷ first) ≡ Ok (b ∷ first)
unfolding escape hex_byte
escape-byte b first h =
    let high = hex (b / 16) (omega arith) in
    let low = hex (b % 16) (omega arith) in
    let whole : b / 16 * 16 + b % 16 ≡ b = omega arith in
    rw (high.value, low.value) (ap (λ n. Ok (n ∷ first)) whole)

escaped-step : (b : ℕ) (bs xs : List ℕ) → b < 256 → IsReadAs bs (parts 92 xs) → IsReadAs (b ∷ bs) (parts 92 (92 ∷ 120 ∷ hex_digit (b / 16) ∷ hex_digit (b % 16) ∷ xs))
escaped-step b bs xs h r =
    let high = hex (b / 16) (omega arith) in
    let low = hex (b % 16) (omega arith) in
    let word : List ℕ = 120 ∷ hex_digit (b / 16) ∷ hex_digit (b % 16) ∷ [] in
    let lacking : lacks_mark 92 word ≡ true = lacks-passed is_plain 92 refl word (both refl (both high.plain (both low.plain refl))) in
    record {
      first = [];
      others = (word ++ r.first) ∷ r.others;
      is = parts-mark 92 (word ++ xs) ∙ ap (λ ps. [] ∷ ps) (parts-append 92 word xs r.first r.others lacking r.is);
      read = rw (escape-byte b r.first h) (rw (after-cons (escapes r.others) r.first bs b r.read) refl);
    }

byte-step : (b : ℕ) (bs xs : List ℕ) → b < 256 → IsReadAs bs (parts 92 xs) → (t : Bool) → is_plain b ≡ t → IsReadAs (b ∷ bs) (parts 92 (cond t (b ∷ []) (92 ∷ 120 ∷ hex_digit (b / 16) ∷ hex_digit (b % 16) ∷ []) ++ xs))
byte-step b bs xs h r true e = plain-step b bs xs e r
byte-step b bs xs h r false e = escaped-step b bs xs h r

bytes-read : (bs : List ℕ) → is_bytes bs ≡ true → IsReadAs bs (parts 92 (all_of (map byte_text bs)))
unfolding parts
bytes-read [] h = record { first = []; others = []; is = refl; read = refl }
bytes-read (b ∷ bs) h =
    byte-step b bs (all_of (map byte_text bs)) (ltb-true b 256 (and-left (nat_lt b 256) (is_bytes bs) h)) (bytes-read bs (and-right (nat_lt b 256) (is_bytes bs) h)) (is_plain b) refl

pub unescaped-bytes : (bs : List ℕ) → is_bytes bs ≡ true → unescaped (bytes_text bs) ≡ Ok bs
unfolding unescaped parts escape
unescaped-bytes [] h = refl
unescaped-bytes (b ∷ bs) h = let r = bytes-read (b ∷ bs) h in rw r.is r.read

-- ---- of which bytes a text is

abbrev pub is_of_bytes : ℕ → Bool
is_of_bytes b = is_plain b || b == 92

byte-of : (b : ℕ) → b < 256 → (t : Bool) → is_plain b ≡ t → list_all is_of_bytes (cond t (b ∷ []) (92 ∷ 120 ∷ hex_digit (b / 16) ∷ hex_digit (b % 16) ∷ [])) ≡ true
byte-of b h true e = both (or-left (is_plain b) (b == 92) e) refl
byte-of b h false e =
    let high = hex (b / 16) (omega arith) in
    let low = hex (b % 16) (omega arith) in
    both (or-left (is_plain (hex_digit (b / 16))) _ high.plain) (both (or-left (is_plain (hex_digit (b % 16))) _ low.plain) refl)

all-of-bytes : (bs : List ℕ) → is_bytes bs ≡ true → list_all is_of_bytes (all_of (map byte_text bs)) ≡ true
all-of-bytes [] h = refl
all-of-bytes (b ∷ bs) h =
    all-append is_of_bytes (byte_text b) (all_of (map byte_text bs)) (byte-of b (ltb-true b 256 (and-left (nat_lt b 256) (is_bytes bs) h)) (is_plain b) refl) (all-of-bytes bs (and-right (nat_lt b 256) (is_bytes bs) h))

pub of-bytes : (bs : List ℕ) → is_bytes bs ≡ true → list_all is_of_bytes (bytes_text bs) ≡ true
of-bytes [] h = refl
of-bytes (b ∷ bs) h = all-of-bytes (b ∷ bs) h

one-byte : (b : ℕ) (xs : List ℕ) → (t : Bool) → has_one (cond t (b ∷ []) (92 ∷ 120 ∷ hex_digit (b / 16) ∷ hex_digit (b % 16) ∷ []) ++ xs) ≡ true
one-byte b xs true = refl
one-byte b xs false = refl

pub has-bytes : (bs : List ℕ) → has_one (bytes_text bs) ≡ true
has-bytes [] = refl
has-bytes (b ∷ bs) = one-byte b (all_of (map byte_text bs)) (is_plain b)
