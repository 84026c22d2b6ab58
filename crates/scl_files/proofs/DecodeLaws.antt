-- Files after their marks.
use Rattle.std.proofs.Common.{◌≡◌, ℕ, ◌+◌, ◌-◌, ◌*◌, ◌/◌, ◌%◌, ◌<◌, ◌≤◌, ◌⊎◌, inl, inr, ⊎_elim, ◌&&◌, Bool, true, false, not, is_some, unwrap_or, List, [], ◌∷◌, ◌++◌, map, get_or, Option, Some, encode_utf8_all, refl, ap, ◌∙◌, arith}
use Rattle.std.proofs.lemmas.Bool.{false≢true, cases_lt}
use Rattle.std.proofs.lemmas.Str.{utf16_chars-nil, utf16_chars_lone, utf16_chars_pair}
use Rattle.std.proofs.Math.Utf8.{scalar, scalars, scalar_cases}
use Rattle.std.proofs.str.Utf16.{IsPair}
use Rattle.std.specs.Char.Escape.{encode_utf16}
use Rattle.std.specs.Char.Utf16.{utf16_chars, lone_unit_char, surrogate_pair_char}
use Rattle.std.specs.List.{flat_map, list_any}
use Rattle.std.specs.Option.{option_map}
use borrow.Author.Tests.{lt-ltb, le-ltb, lt-leb, le-leb}
use Rattle.scl_files.specs.declared.decode.Order.{Order}
use Rattle.scl_files.specs.declared.decode.Order.TheVariants as orders
use Rattle.scl_files.specs.Decoding.{units, units_text, utf16_text, unit_bytes, utf16_file, decoded, Utf8FilesAreReadBack, Utf16FilesAreReadBack}
use Rattle.scl_files.proofs.DecodeLemmas.{utf8-yes}

pub utf8_files_are_read_back : Utf8FilesAreReadBack
unfolding decoded
utf8_files_are_read_back = λ cs h. utf8-yes (encode_utf8_all cs) (cs, (h, refl))

-- ---- the units of characters

lone : (c : ℕ) (us : List ℕ) → c < 0x1_0000 → ¬ (IsPair c (get_or us 0 0)) → lone_unit_char c ≡ Some c → utf16_chars (encode_utf16 c ++ us) ≡ Some c ∷ utf16_chars us
lone c us one apart char = rw (lt-ltb c 0x1_0000 one) (utf16_chars_lone c us apart ∙ ap (λ (o : Option ℕ). o ∷ utf16_chars us) char)

low : (c : ℕ) (us : List ℕ) → c < 55296 → utf16_chars (encode_utf16 c ++ us) ≡ Some c ∷ utf16_chars us
low c us h = lone c us (omega arith) (λ p. omega (arith, p.0)) (rw (lt-leb 0xD800 c h) refl)

high : (c : ℕ) (us : List ℕ) → 57344 ≤ c → c < 0x1_0000 → utf16_chars (encode_utf16 c ++ us) ≡ Some c ∷ utf16_chars us
high c us from below = lone c us below (λ p. omega (arith, p.1)) (rw (le-leb 0xD800 c (omega arith), le-ltb c 0xE000 from) refl)

paired : (c : ℕ) (us : List ℕ) → 0x1_0000 ≤ c → c < 1114112 → utf16_chars (encode_utf16 c ++ us) ≡ Some c ∷ utf16_chars us
paired c us from below =
    let hi : ℕ = 0xD800 + (c - 0x1_0000) / 0x400 in
    let lo : ℕ = 0xDC00 + (c - 0x1_0000) % 0x400 in
    let is : surrogate_pair_char hi lo ≡ c = omega arith in
    rw (le-ltb c 0x1_0000 from) (utf16_chars_pair hi lo us (omega arith, omega arith, omega arith, omega arith) ∙ ap (λ (d : ℕ). Some d ∷ utf16_chars us) is)

above_low : (c : ℕ) (us : List ℕ) → 57344 ≤ c → c < 1114112 → (c < 0x1_0000) ⊎ (0x1_0000 ≤ c) → utf16_chars (encode_utf16 c ++ us) ≡ Some c ∷ utf16_chars us
above_low c us from below (inl one) = high c us from one
above_low c us from below (inr two) = paired c us two below

one_char : (c : ℕ) (us : List ℕ) → scalar c ≡ true → utf16_chars (encode_utf16 c ++ us) ≡ Some c ∷ utf16_chars us
one_char c us h = ⊎_elim (λ below. low c us below) (λ above. above_low c us above.0 above.1 (cases_lt c 0x1_0000)) (scalar_cases c h)

and_left : (a b : Bool) → (a && b) ≡ true → a ≡ true
and_left true b h = refl
and_left false b h = h

and_right : (a b : Bool) → (a && b) ≡ true → b ≡ true
and_right true b h = h
and_right false b h = absurd (false≢true h)

all_chars : (cs : List ℕ) → scalars cs ≡ true → utf16_chars (flat_map encode_utf16 cs) ≡ map Some cs
all_chars [] h = utf16_chars-nil
all_chars (c ∷ cs) h = one_char c (flat_map encode_utf16 cs) (and_left (scalar c) (scalars cs) h) ∙ ap (λ (os : List (Option ℕ)). Some c ∷ os) (all_chars cs (and_right (scalar c) (scalars cs) h))

none_unpaired : (cs : List ℕ) → list_any (λ (o : Option ℕ). not (is_some o)) (map Some cs) ≡ false
none_unpaired [] = refl
none_unpaired (c ∷ cs) = none_unpaired cs

same_chars : (cs : List ℕ) → map (λ (o : Option ℕ). unwrap_or o 0xFFFD) (map Some cs) ≡ cs
same_chars [] = refl
same_chars (c ∷ cs) = ap (λ (ds : List ℕ). c ∷ ds) (same_chars cs)

text_of_units : (cs : List ℕ) → scalars cs ≡ true → units_text (flat_map encode_utf16 cs) ≡ Some (encode_utf8_all cs)
text_of_units cs h = rw (all_chars cs h, none_unpaired cs, same_chars cs) refl

-- ---- the bytes of units

unit_again : (order : Order) (unit : ℕ) (bytes : List ℕ) → units order (unit_bytes order unit ++ bytes) ≡ option_map (λ us. unit ∷ us) (units order bytes)
unit_again orders.LittleEndFirst unit bytes = let same : unit / 256 * 256 + unit % 256 ≡ unit = omega arith in rw same refl
unit_again orders.BigEndFirst unit bytes = let same : unit / 256 * 256 + unit % 256 ≡ unit = omega arith in rw same refl

units_again : (order : Order) (us : List ℕ) → units order (flat_map (unit_bytes order) us) ≡ Some us
units_again order [] = refl
units_again order (u ∷ us) = unit_again order u (flat_map (unit_bytes order) us) ∙ rw (units_again order us) refl

text_again : (order : Order) (cs : List ℕ) → scalars cs ≡ true → utf16_text order (flat_map (unit_bytes order) (flat_map encode_utf16 cs)) ≡ Some (encode_utf8_all cs)
text_again order cs h = rw (units_again order (flat_map encode_utf16 cs)) (text_of_units cs h)

file_again : (order : Order) (cs : List ℕ) → scalars cs ≡ true → decoded (utf16_file order cs) ≡ Some (encode_utf8_all cs)
unfolding decoded
file_again orders.LittleEndFirst cs h = text_again orders.LittleEndFirst cs h
file_again orders.BigEndFirst cs h = text_again orders.BigEndFirst cs h

pub utf16_files_are_read_back : Utf16FilesAreReadBack
utf16_files_are_read_back = file_again

pub ruleset file_laws = (utf8_files_are_read_back, utf16_files_are_read_back)
