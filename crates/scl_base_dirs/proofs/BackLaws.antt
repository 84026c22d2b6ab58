-- What is told is read back.
use Rattle.std.proofs.Common.{◌≡◌, ℕ, ◌<◌, ◌^◌, ◌==◌, not, true, false, List, [], ◌∷◌, ◌++◌, length, take, drop, map, get_or, codes, Option, None, Some, refl, sym, ap, subst, ◌∙◌, append_assoc, arith, ◌⊎◌, inl, inr}
use Rattle.std.proofs.lemmas.Bool.{and_parts, and_from, cases_Bool, not-true, ne_eqb, eqb-true}
use Rattle.std.proofs.lemmas.List.{append-nil, take-append-drop}
use Rattle.std.proofs.lemmas.List.Splits.{join_with_byte-slice_split}
use Rattle.std.proofs.lemmas.Fmt.{decimal_is_IsNumeral}
use Rattle.std.specs.Char.{digit_value}
use Rattle.std.specs.Fmt.{decimal}
use Rattle.std.specs.List.{join_with_byte}
use Rattle.std.specs.Str.Parse.{AllDigits}
use Rattle.scl_base_dirs.specs.declared.spelling.Spelling.{Spelling}
use Rattle.scl_base_dirs.specs.declared.spelling.Spelling.TheVariants as spelled
use Rattle.scl_base_dirs.specs.Bases.{Place, base_of}
use Rattle.scl_base_dirs.specs.Cuts.{has_none, parts}
use Rattle.scl_base_dirs.specs.Told.{told_byte, told_text, told_base, told_below, told_path, told_value}
use Rattle.scl_base_dirs.specs.Unmapped.{outside, in_name, dir_named, unmapped_from}
use Rattle.scl_base_dirs.specs.Laws.{MaySeparate, WordsAreReadBack, PathsAreReadBack}
use Rattle.scl_base_dirs.proofs.BaseLaws.{bases_are_longest_fits, fits_is}
use Rattle.scl_base_dirs.proofs.CutLemmas.{none-append}

byte_back : (dirs : List (List ℕ)) (byte : ℕ) (t : List ℕ) → (byte == 0 ≡ true) ⊎ (byte == 0 ≡ false) → unmapped_from dirs outside (told_byte byte ++ t) ≡ byte ∷ unmapped_from dirs outside t
byte_back dirs byte t (inl zero_is) = let P : ℕ → Type 0 = λ b. unmapped_from dirs outside (told_byte b ++ t) ≡ b ∷ unmapped_from dirs outside t in subst P (sym (eqb-true byte 0 zero_is)) refl
byte_back dirs byte t (inr zero_not) = rw (zero_not, zero_not) refl

text_back : (dirs : List (List ℕ)) (text t : List ℕ) → unmapped_from dirs outside (told_text text ++ t) ≡ text ++ unmapped_from dirs outside t
text_back dirs [] t = refl
text_back dirs (byte ∷ text) t =
    ap (unmapped_from dirs outside) (append_assoc (told_byte byte) (told_text text) t)
    ∙ byte_back dirs byte (told_text text ++ t) (cases_Bool (byte == 0))
    ∙ ap (λ (rest : List ℕ). byte ∷ rest) (text_back dirs text t)

name_back : (dirs : List (List ℕ)) (name more t : List ℕ) → has_none 62 more ≡ true → unmapped_from dirs (in_name name) (more ++ 62 ∷ t) ≡ dir_named dirs (name ++ more) ++ unmapped_from dirs outside t
name_back dirs name [] t h = rw append-nil refl
name_back dirs name (byte ∷ more) t h =
    let both = and_parts (not (byte == 62)) (has_none 62 more) h in
    rw (not-true (byte == 62) both.0) (name_back dirs (name ++ byte ∷ []) more t both.1 ∙ rw append_assoc refl)

-- no digit is the byte that ends a name
no_digit : (c : ℕ) → digit_value c < 10 → (c == 62) ≡ false
no_digit c h = ne_eqb c 62 (λ e. let P : ℕ → Type 0 = λ x. digit_value x < 10 in let k : digit_value 62 < 10 = subst P e h in absurd (omega arith))

digits_none : (ds : List ℕ) → AllDigits 10 ds → has_none 62 ds ≡ true
digits_none [] h = refl
digits_none (c ∷ ds) h = and_from (not (c == 62)) (has_none 62 ds) (ap not (no_digit c h.0)) (digits_none ds h.1)

decimal_none : (n : ℕ) → n < 2 ^ 64 → has_none 62 (decimal n) ≡ true
decimal_none n h = digits_none (decimal n) ((decimal_is_IsNumeral n h).0.1)

base_back : (dirs : List (List ℕ)) (n : ℕ) (t : List ℕ) → n < 2 ^ 64 → unmapped_from dirs outside (told_base n ++ t) ≡ get_or dirs n [] ++ unmapped_from dirs outside t
base_back dirs n t h =
    let none : has_none 62 (codes "base" ++ decimal n) ≡ true = none-append 62 (codes "base") (decimal n) refl (decimal_none n h) in
    ap (λ (rest : List ℕ). unmapped_from dirs (in_name (60 ∷ [])) rest) (append_assoc (codes "base" ++ decimal n) (62 ∷ []) t)
    ∙ name_back dirs (60 ∷ []) (codes "base" ++ decimal n) t none
    ∙ ap (λ (i : ℕ). get_or dirs i [] ++ unmapped_from dirs outside t) (decimal_is_IsNumeral n h).1

below_back : (spelling : Spelling) (dirs : List (List ℕ)) (path t : List ℕ) (o : Option Place) → base_of spelling dirs path ≡ o → length dirs < 2 ^ 64
    → unmapped_from dirs outside (told_below o path ++ t) ≡ path ++ unmapped_from dirs outside t
below_back spelling dirs path t None is few = text_back dirs path t
below_back spelling dirs path t (Some place) is few =
    let fit = bases_are_longest_fits spelling dirs path place is in
    let rest = drop (length place.dir) path in
    ap (unmapped_from dirs outside) (append_assoc (told_base place.number) (told_text rest) t)
    ∙ base_back dirs place.number (told_text rest ++ t) (omega (arith, fit.within))
    ∙ ap (λ (after : List ℕ). get_or dirs place.number [] ++ after) (text_back dirs rest t)
    ∙ ap (λ (dir : List ℕ). dir ++ (rest ++ unmapped_from dirs outside t)) fit.numbered
    ∙ sym (append_assoc place.dir rest (unmapped_from dirs outside t))
    ∙ ap (λ (whole : List ℕ). whole ++ unmapped_from dirs outside t) (sym (fits_is spelling place.dir path fit.fitting))

path_back : (spelling : Spelling) (dirs : List (List ℕ)) (path t : List ℕ) → length dirs < 2 ^ 64 → unmapped_from dirs outside (told_path spelling dirs path ++ t) ≡ path ++ unmapped_from dirs outside t
path_back spelling dirs path t few = below_back spelling dirs path t (base_of spelling dirs path) refl few

joined_back : (dirs : List (List ℕ)) (c : ℕ) (ps : List (List ℕ)) (t : List ℕ) → length dirs < 2 ^ 64 → (c == 0) ≡ false
    → unmapped_from dirs outside (join_with_byte c (map (told_path spelled.Word dirs) ps) ++ t) ≡ join_with_byte c ps ++ unmapped_from dirs outside t
joined_back dirs c [] t few apart = refl
joined_back dirs c (p ∷ []) t few apart = path_back spelled.Word dirs p t few
joined_back dirs c (p ∷ q ∷ ps) t few apart =
    let told = told_path spelled.Word dirs in
    let others = join_with_byte c (map told (q ∷ ps)) in
    let next : unmapped_from dirs outside (c ∷ (others ++ t)) ≡ c ∷ unmapped_from dirs outside (others ++ t) = rw apart refl in
    ap (unmapped_from dirs outside) (append_assoc (told p) (c ∷ others) t)
    ∙ path_back spelled.Word dirs p (c ∷ (others ++ t)) few
    ∙ ap (λ (rest : List ℕ). p ++ rest) (next ∙ ap (λ (rest : List ℕ). c ∷ rest) (joined_back dirs c (q ∷ ps) t few apart))
    ∙ sym (append_assoc p (c ∷ join_with_byte c (q ∷ ps)) (unmapped_from dirs outside t))

value_back : (dirs : List (List ℕ)) (separator : Option ℕ) (value : List ℕ) → length dirs < 2 ^ 64 → MaySeparate separator → unmapped_from dirs outside (told_value dirs separator value ++ []) ≡ value ++ []
value_back dirs None value few h = path_back spelled.Word dirs value [] few
value_back dirs (Some c) value few h = joined_back dirs c (parts c value) [] few (ne_eqb c 0 h) ∙ ap (λ (v : List ℕ). v ++ []) (join_with_byte-slice_split c value)

pub words_are_read_back : WordsAreReadBack
words_are_read_back = λ dirs at separator word few h.
    let value = told_value dirs separator (drop at word) in
    ap (λ (v : List ℕ). unmapped_from dirs outside (told_text (take at word) ++ v)) (sym (append-nil value))
    ∙ text_back dirs (take at word) (value ++ [])
    ∙ ap (λ (rest : List ℕ). take at word ++ rest) (value_back dirs separator (drop at word) few h ∙ append-nil (drop at word))
    ∙ take-append-drop at word

pub paths_are_read_back : PathsAreReadBack
paths_are_read_back = λ spelling dirs path few.
    ap (unmapped_from dirs outside) (sym (append-nil (told_path spelling dirs path))) ∙ path_back spelling dirs path [] few ∙ append-nil path

pub ruleset back_laws = (words_are_read_back, paths_are_read_back)
