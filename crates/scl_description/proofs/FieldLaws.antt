-- Plain bytes before what is left of a field, and bytes before what is left.
use Rattle.std.proofs.Common.{◌≡◌, ℕ, Bool, true, false, ◌&&◌, List, [], ◌∷◌, ◌++◌, Option, Some, None, refl, ap, sym, ◌∙◌, append_assoc}
use Rattle.std.specs.List.{list_all}
use Rattle.scl_values.specs.Escaped.{is_plain, escape, escaped}
use Rattle.scl_description.specs.Fields.{before, field_of}

-- bytes before what is left of a field
abbrev pub onto : List ℕ → Option (List ℕ) → Option (List ℕ)
onto bytes None = None
onto bytes (Some rest) = Some (bytes ++ rest)

pub onto-nil : (o : Option (List ℕ)) → onto [] o ≡ o
onto-nil None = refl
onto-nil (Some bytes) = refl

onto-more : (bytes more : List ℕ) (o : Option (List ℕ)) → onto bytes (onto more o) ≡ onto (bytes ++ more) o
onto-more bytes more None = refl
onto-more bytes more (Some rest) = ap Some (sym (append_assoc bytes more rest))

before-is : (b : ℕ) (bytes : List ℕ) (o : Option (List ℕ)) → before (Some b) (onto bytes o) ≡ onto (b ∷ bytes) o
before-is b bytes None = refl
before-is b bytes (Some rest) = refl

-- the first of two, and the second
both_first : (a b : Bool) → (a && b) ≡ true → a ≡ true
both_first true b h = refl
both_first false b h = h

both_second : (a b : Bool) → (a && b) ≡ true → b ≡ true
both_second true b h = h
both_second false b h = cc

-- a plain byte before a field
pub field-plain : (b : ℕ) (rest : List ℕ) → is_plain b ≡ true → field_of (b ∷ rest) ≡ before (Some b) (field_of rest)
field-plain b [] h = rw h refl
field-plain b (x ∷ []) h = rw h refl
field-plain b (x ∷ y ∷ []) h = rw h refl
field-plain b (x ∷ y ∷ z ∷ rest) h = rw h refl

-- a plain byte as it is written
escape-plain : (b : ℕ) → is_plain b ≡ true → escape b ≡ b ∷ []
escape-plain b h = rw h refl

-- plain bytes before a field
pub field-run : (run rest : List ℕ) → list_all is_plain run ≡ true → field_of (run ++ rest) ≡ onto run (field_of rest)
field-run [] rest h = sym (onto-nil (field_of rest))
field-run (b ∷ run) rest h =
    field-plain b (run ++ rest) (both_first (is_plain b) (list_all is_plain run) h)
    ∙ ap (before (Some b)) (field-run run rest (both_second (is_plain b) (list_all is_plain run) h)) ∙ before-is b run (field_of rest)

-- plain bytes as they are written, before others
pub escaped-run : (run rest : List ℕ) → list_all is_plain run ≡ true → escaped (run ++ rest) ≡ run ++ escaped rest
escaped-run [] rest h = refl
escaped-run (b ∷ run) rest h =
    ap (λ bytes. bytes ++ escaped (run ++ rest)) (escape-plain b (both_first (is_plain b) (list_all is_plain run) h))
    ∙ ap (λ bytes. b ∷ bytes) (escaped-run run rest (both_second (is_plain b) (list_all is_plain run) h))

-- a text to which plain bytes were appended
pub written_on : (text run rest bytes : List ℕ) → bytes ≡ run ++ rest → list_all is_plain run ≡ true → (text ++ run) ++ escaped rest ≡ text ++ escaped bytes
written_on text run rest bytes whole plain = append_assoc text run (escaped rest) ∙ ap (λ more. text ++ more) (sym (escaped-run run rest plain) ∙ ap escaped (sym whole))

-- a text to which a byte and the plain bytes after it were appended
pub escape_on : (text all run rest left behind : List ℕ) (b : ℕ) → text ++ escaped left ≡ all → left ≡ b ∷ behind → behind ≡ run ++ rest → list_all is_plain run ≡ true
    → ((text ++ escape b) ++ run) ++ escaped rest ≡ all
escape_on text all run rest left behind b is first whole plain =
    written_on (text ++ escape b) run rest behind whole plain ∙ append_assoc text (escape b) (escaped behind) ∙ ap (λ bytes. text ++ escaped bytes) (sym first) ∙ is

-- a byte of the field was taken, and the plain bytes after it
pub one_escape_on : (bytes left behind run rest : List ℕ) (b : ℕ) (all : Option (List ℕ)) → onto bytes (field_of left) ≡ all
    → field_of left ≡ before (Some b) (field_of behind) → behind ≡ run ++ rest → list_all is_plain run ≡ true → onto ((bytes ++ b ∷ []) ++ run) (field_of rest) ≡ all
one_escape_on bytes left behind run rest b all is taken whole plain =
    ap (λ more. onto more (field_of rest)) (append_assoc bytes (b ∷ []) run) ∙ sym (onto-more bytes (b ∷ run) (field_of rest))
    ∙ ap (onto bytes) (sym (before-is b run (field_of rest)) ∙ ap (before (Some b)) (sym (field-run run rest plain) ∙ ap field_of (sym whole)) ∙ sym taken) ∙ is
