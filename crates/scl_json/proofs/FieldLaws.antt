-- The fields of a row by their names, one after another.
use Rattle.std.proofs.Common.{◌≡◌, ◌≢◌, ℕ, List, [], ◌∷◌, ◌++◌, Vec, length, codes, refl, arith, ap, sym, ◌∙◌, append_assoc, append-nil}
use Rattle.std.specs.List.{flat_map}
use Rattle.std.specs.declared.alloc.Global.{Global}
use Rattle.scl_values.specs.Words.{words_of}
use Rattle.scl_json.specs.Objects.{members_by}
use Rattle.scl_json.specs.Texts.{behind_comma, joined, member, text, texts}

-- one more member, after a comma
pub behind-step : (json comma more rest total one : List ℕ) → json ++ (behind_comma one ++ rest) ≡ total → comma ≡ json ++ 44 ∷ [] → more ≡ comma ++ one → more ++ rest ≡ total
behind-step json comma more rest total one h c m =
    ap (λ ms. ms ++ rest) m ∙ ap (λ ms. (ms ++ one) ++ rest) c ∙ append_assoc (json ++ 44 ∷ []) one rest ∙ append_assoc json (44 ∷ []) (one ++ rest) ∙ h

-- one more name and word
pub named-step : (json comma more total : List ℕ) (names words rest : List (List ℕ)) (name word : List ℕ) → json ++ flat_map behind_comma (members_by (name ∷ names) words) ≡ total
    → words ≡ word ∷ rest → comma ≡ json ++ 44 ∷ [] → more ≡ comma ++ member name (text word) → more ++ flat_map behind_comma (members_by names rest) ≡ total
named-step json comma more total names words rest name word h e c m =
    behind-step json comma more (flat_map behind_comma (members_by names rest)) total (member name (text word))
    (ap (λ ws. json ++ flat_map behind_comma (members_by (name ∷ names) ws)) (sym e) ∙ h) c m

-- no word is left
pub named-end : (json total : List ℕ) (names : List (List ℕ)) → json ++ flat_map behind_comma (members_by names []) ≡ total → json ≡ total
named-end json total [] h = sym (append-nil json) ∙ h
named-end json total (name ∷ names) h = sym (append-nil json) ∙ h

-- the same for a list of words that is empty
pub no-words : (json total : List ℕ) (names : List (List ℕ)) (left : List (Vec ℕ Global)) → length left ≡ 0 → json ++ flat_map behind_comma (members_by names (words_of left)) ≡ total
    → json ≡ total
no-words json total names [] n h = named-end json total names h
no-words json total names (word ∷ left) n h = absurd (omega arith)

-- names without words have no members
pub no-fields : (names : List (List ℕ)) (left : List (Vec ℕ Global)) → length left ≡ 0 → members_by names (words_of left) ≡ []
no-fields [] [] n = refl
no-fields (name ∷ names) [] n = refl
no-fields names (word ∷ left) n = absurd (omega arith)

pub none-joined : (json : List ℕ) (names : List (List ℕ)) (left : List (Vec ℕ Global)) → length left ≡ 0 → json ≡ json ++ joined (members_by names (words_of left))
none-joined json names left n = sym (append-nil json) ∙ ap (λ ms. json ++ joined ms) (sym (no-fields names left n))

-- the words that have no names
pub unnamed-end : (json comma more total : List ℕ) (left : List (Vec ℕ Global)) → length left ≢ 0 → json ++ flat_map behind_comma (members_by [] (words_of left)) ≡ total
    → comma ≡ json ++ 44 ∷ [] → more ≡ comma ++ member (codes "words") (texts (words_of left)) → more ≡ total
unnamed-end json comma more total [] n h c m = absurd (n refl)
unnamed-end json comma more total (word ∷ left) n h c m =
    let one : List ℕ = member (codes "words") (texts (words_of (word ∷ left))) in
    m ∙ ap (λ ms. ms ++ one) c ∙ append_assoc json (44 ∷ []) one ∙ ap (λ ms. json ++ ms) (sym (append-nil (44 ∷ one))) ∙ h

pub ruleset field_rules = (named-step, named-end, no-words, no-fields, unnamed-end)
