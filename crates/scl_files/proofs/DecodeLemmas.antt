-- Texts in UTF-8 and UTF-16.
use Rattle.std.proofs.Common.{◌≡◌, ℕ, ◌+◌, ◌<◌, true, false, cond, List, [], ◌∷◌, ◌++◌, length, drop, get_or, Option, Some, None, refl, sym, ap, ◌∙◌, append_assoc, append_assoc, arith}
use Rattle.std.proofs.lemmas.List.{append-nil, take_more, map-append}
use Rattle.std.proofs.Common.{map, take, encode_utf8}
use Rattle.std.proofs.lemmas.Str.{encodes-append, IsUtf8-from_is_utf8, is_utf8-from_IsUtf8}
use Rattle.std.specs.Str.{IsUtf8, is_utf8}
use Rattle.std.specs.Option.{option_map}
use Rattle.scl_files.specs.declared.decode.Order.{Order}
use Rattle.scl_files.specs.Decoding.{unit_of, units, utf8_text, windows_text, windows_char}

pub utf8-yes : (bs : List ℕ) → IsUtf8 bs → utf8_text bs ≡ Some bs
utf8-yes bs h = rw (is_utf8-from_IsUtf8 bs h) refl

pub utf8-no : (bs : List ℕ) → (IsUtf8 bs → ⊥) → utf8_text bs ≡ None
utf8-no bs h = elim (is_utf8 bs) as (λ b. is_utf8 bs ≡ b → cond b (Some bs) None ≡ None) [ true ↦ λ e. absurd (h (IsUtf8-from_is_utf8 bs e)) | false ↦ λ _. refl ] refl

pub ruleset utf8_rules = (utf8-yes, utf8-no)

map_under : (o : Option (List ℕ)) (f : List ℕ → List ℕ) (x : ℕ) → option_map f (option_map (λ us. x ∷ us) o) ≡ option_map (λ us. f (x ∷ us)) o
map_under None f x = refl
map_under (Some us) f x = refl

map_same : (o : Option (List ℕ)) (f g : List ℕ → List ℕ) → ((us : List ℕ) → f us ≡ g us) → option_map f o ≡ option_map g o
map_same None f g h = refl
map_same (Some us) f g h = ap Some (h us)

pub units-more : (order : Order) (rest made : List ℕ) → 1 < length rest
    → option_map (λ us. (made ++ unit_of order (get_or rest 0 0) (get_or rest 1 0) ∷ []) ++ us) (units order (drop 2 rest)) ≡ option_map (λ us. made ++ us) (units order rest)
units-more order [] made h = absurd (omega arith)
units-more order (a ∷ []) made h = absurd (omega arith)
units-more order (a ∷ (b ∷ bytes)) made h =
    map_same (units order bytes) _ _ (λ us. append_assoc made (unit_of order a b ∷ []) us) ∙ sym (map_under (units order bytes) (λ us. made ++ us) (unit_of order a b))

pub units-all : (order : Order) (rest made : List ℕ) → length rest ≡ 0 → option_map (λ us. made ++ us) (units order rest) ≡ Some made
units-all order [] made h = ap Some (append-nil made)
units-all order (a ∷ rest) made h = absurd (omega arith)

pub units-odd : (order : Order) (rest made : List ℕ) → length rest ≡ 1 → option_map (λ us. made ++ us) (units order rest) ≡ None
units-odd order [] made h = absurd (omega arith)
units-odd order (a ∷ []) made h = refl
units-odd order (a ∷ (b ∷ rest)) made h = absurd (omega arith)

pub ruleset units_rules = (units-more, units-all, units-odd)

-- the characters of a list of bytes
pub windows-more : (bytes : List ℕ) (i : ℕ) → i < length bytes
    → windows_text (take (i + 1) bytes) ≡ windows_text (take i bytes) ++ encode_utf8 (windows_char (get_or bytes i 0))
windows-more bytes i h = rw (take_more bytes i 0 h, map-append) (encodes-append (map windows_char (take i bytes)) (windows_char (get_or bytes i 0) ∷ []) ∙ rw append-nil refl)
