-- Names, each once, found one after another.
use Rattle.std.proofs.Common.{◌≡◌, ◌<◌, ◌+◌, ℕ, Bool, true, false, cond, List, [], ◌∷◌, ◌++◌, Vec, length, drop, get_or, refl, ap, sym, ◌∙◌, append-nil}
use Rattle.std.proofs.lemmas.List.{drop_more}
use Rattle.std.specs.declared.alloc.Global.{Global}
use Rattle.std.specs.List.{list_any}
use Rattle.std.specs.Str.{bytes_eq}
use Rattle.scl_values.specs.Words.{words_of}
use Rattle.scl_text.specs.Records.{distinct_words}
use Rattle.scl_text.proofs.ArchLemmas.{new_words, new_words-nil, new_words-seen, new_words-unseen}
use Rattle.scl_json.specs.Objects.{with_name}

name-as : (names : List (List ℕ)) (name : List ℕ) (words : List (List ℕ)) (known : Bool) → list_any (bytes_eq name) names ≡ known
    → names ++ new_words names (name ∷ words) ≡ cond known names (names ++ name ∷ []) ++ new_words (cond known names (names ++ name ∷ [])) words
name-as names name words true h = ap (λ ws. names ++ ws) (new_words-seen names name words h)
name-as names name words false h = new_words-unseen names name words h

pub name-step : (names more total : List (List ℕ)) (name : List ℕ) (words : List (List ℕ)) → names ++ new_words names (name ∷ words) ≡ total → more ≡ with_name names name
    → more ++ new_words more words ≡ total
name-step names more total name words h m =
    ap (λ ns. ns ++ new_words ns words) m ∙ sym (name-as names name words (list_any (bytes_eq name) names) refl) ∙ h

-- the same for a word of a list of words
pub name-preserved : (all : List (Vec ℕ Global)) (i : ℕ) (d : Vec ℕ Global) (names more total : List (List ℕ)) (name : List ℕ) → i < length all → name ≡ (get_or all i d).items
    → names ++ new_words names (words_of (drop i all)) ≡ total → more ≡ with_name names name → more ++ new_words more (words_of (drop (i + 1) all)) ≡ total
name-preserved all i d names more total name inside is h m =
    name-step names more total name (words_of (drop (i + 1) all))
    (ap (λ ws. names ++ new_words names ws) (ap (λ n. n ∷ words_of (drop (i + 1) all)) is ∙ ap words_of (sym (drop_more all i d inside))) ∙ h) m

pub name-end : (names total : List (List ℕ)) → names ++ new_words names [] ≡ total → names ≡ total
name-end names total h = sym (append-nil names) ∙ h

pub name-start : (words : List (List ℕ)) → [] ++ new_words [] words ≡ distinct_words words
name-start = new_words-nil

pub ruleset name_rules = (name-start, name-step, name-end)
