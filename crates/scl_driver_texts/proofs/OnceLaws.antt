-- For a test of texts, those held once are as good as those of the expanded files.
use Rattle.std.proofs.Common.{◌≡◌, ℕ, zero, suc, ◌||◌, ◌&&◌, Bool, true, false, cond, not, filter, List, [], ◌∷◌, ◌++◌, length, Option, None, Some, refl, sym, ap, ◌∙◌}
use Rattle.std.proofs.lemmas.Bool.{false≢true}
use Rattle.std.proofs.lemmas.List.Folds.{list_all-append, list_any-append}
use Rattle.std.proofs.lemmas.Grind.{flat_map-append}
use Rattle.std.specs.List.{list_all, list_any}
use Rattle.std.specs.Option.{option_to_list, is_some}
use Rattle.scl_files.specs.Paths.{same_path}
use Rattle.scl_files.specs.Views.{File, bytes_at}
use Rattle.scl_files.specs.ResponseFiles.{files_inside, hides}
use Rattle.scl_files.specs.Expand.{OpenFile, opened}
use Rattle.scl_files.specs.Openings.{each_once, opening, openings, openings_within, texts_at, texts_once}
use Rattle.scl_files.specs.declared.expand.ExpansionKind.{ExpansionKind}
use Rattle.scl_files.proofs.FilesLemmas.{bytes_at-inside}
use Rattle.scl_files.proofs.OpenLemmas.{opened-found}
use Rattle.scl_files.proofs.SamePath.{same_path-right}
use Rattle.scl_driver_texts.specs.InPlace.{texts_in_place, texts_within, with_text}

-- ---- the paths that are opened are those of the texts

-- each of the paths has a file
abbrev all_found : List File → List (List ℕ) → Bool
all_found files paths = list_all (λ path. is_some (bytes_at path files)) paths

both : (a b : Bool) → (a && b) ≡ true → (a ≡ true) × (b ≡ true)
both true b h = (refl, h)
both false b h = absurd (false≢true h)

shown : {X : Type 0} (hidden : Bool) (o : Option X) → is_some (cond hidden None o) ≡ true → cond hidden None o ≡ o
shown true o h = absurd (false≢true h)
shown false o h = refl

found-inside : (kind : ExpansionKind) (other path : List ℕ) (files : List File) → is_some (bytes_at path (files_inside kind other files)) ≡ true → bytes_at path (files_inside kind other files) ≡ bytes_at path files
found-inside kind other path files h =
    let inside = bytes_at-inside kind path other files in
    inside ∙ shown (hides kind other path) (bytes_at path files) (ap is_some (sym inside) ∙ h)

-- what is found inside a file is also found outside, with the same bytes
inside-outside : (kind : ExpansionKind) (other : List ℕ) (files : List File) (paths : List (List ℕ)) → all_found (files_inside kind other files) paths ≡ true
    → (all_found files paths ≡ true) × (texts_at (files_inside kind other files) paths ≡ texts_at files paths)
inside-outside kind other files [] h = (refl, refl)
inside-outside kind other files (path ∷ paths) h =
    let parts = both (is_some (bytes_at path (files_inside kind other files))) (all_found (files_inside kind other files) paths) h in
    let same = found-inside kind other path files parts.0 in
    let rest = inside-outside kind other files paths parts.1 in
    let here : is_some (bytes_at path files) ≡ true = ap is_some (sym same) ∙ parts.0 in (
      rw here rest.0,
      ap (λ o. option_to_list o ++ texts_at (files_inside kind other files) paths) same ∙ ap (λ (ts : List (List ℕ)). option_to_list (bytes_at path files) ++ ts) rest.1,
    )

-- the openings are of files that are found, and the texts are theirs
abbrev AreOf : List File → List (List ℕ) → List (List ℕ) → Type 0
AreOf files paths texts = (all_found files paths ≡ true) × (texts ≡ texts_at files paths)

joined : (files : List File) (ps qs ts us : List (List ℕ)) → AreOf files ps ts → AreOf files qs us → AreOf files (ps ++ qs) (ts ++ us)
joined files ps qs ts us e f = (
  list_all-append (λ path. is_some (bytes_at path files)) ps qs ∙ rw (e.0, f.0) refl,
  rw (e.1, f.1) (sym (flat_map-append (λ path. option_to_list (bytes_at path files)) ps qs)),
)

of_word : (kind : ExpansionKind) (files : List File) (paths texts : OpenFile → List (List ℕ)) (o : Option OpenFile)
    → ((file : OpenFile) → o ≡ Some file → (is_some (bytes_at file.path files) ≡ true) × AreOf (files_inside kind file.path files) (paths file) (texts file)) → AreOf files (opening paths o) (with_text files texts o)
of_word kind files paths texts None h = (refl, refl)
of_word kind files paths texts (Some file) h =
    let here = h file refl in
    let out = inside-outside kind file.path files (paths file) here.1.0 in (
      rw here.0 out.0,
      ap (λ (ts : List (List ℕ)). option_to_list (bytes_at file.path files) ++ ts) (here.1.1 ∙ out.1),
    )

within-are : (n : ℕ) (kind : ExpansionKind) (directory : List ℕ) (files : List File) (words : List (List ℕ)) → AreOf files (openings_within n kind directory files words) (texts_within n kind directory files words)
within-are zero kind directory files words = (refl, refl)
within-are (suc n) kind directory files [] = (refl, refl)
within-are (suc n) kind directory files (word ∷ words) =
    joined files _ (openings_within (suc n) kind directory files words) _ (texts_within (suc n) kind directory files words)
    (of_word kind files (λ file. openings_within n kind directory (files_inside kind file.path files) file.words) (λ file. texts_within n kind directory (files_inside kind file.path files) file.words) (opened kind directory files word)
    (λ file e. (opened-found kind directory files word file e, within-are n kind directory (files_inside kind file.path files) file.words)))
    (within-are (suc n) kind directory files words)

-- ---- each path once

bytes-same : (a b : List ℕ) (files : List File) → same_path a b ≡ true → bytes_at a files ≡ bytes_at b files
bytes-same a b [] h = refl
bytes-same a b (file ∷ files) h = rw (same_path-right file.path a b h, bytes-same a b files h) refl

any-texts : (test : List ℕ → Bool) (files : List File) (paths : List (List ℕ)) → list_any test (texts_at files paths) ≡ list_any (λ path. list_any test (option_to_list (bytes_at path files))) paths
any-texts test files [] = refl
any-texts test files (path ∷ paths) =
    list_any-append test (option_to_list (bytes_at path files)) (texts_at files paths)
    ∙ ap (λ b. list_any test (option_to_list (bytes_at path files)) || b) (any-texts test files paths)

known : (x y kept all : Bool) → x ≡ y → (x || kept) ≡ (x || all) → (x || kept) ≡ (x || (y || all))
known true y kept all e h = refl
known false true kept all e h = absurd (false≢true e)
known false false kept all e h = h

another : (x y kept all : Bool) → (x || kept) ≡ (x || all) → (x || (y || kept)) ≡ (x || (y || all))
another true y kept all h = refl
another false y kept all h = ap (λ b. y || b) h

-- a test with the same result for paths with the same components
module _ (q : List ℕ → Bool) (alike : (a b : List ℕ) → same_path a b ≡ true → q a ≡ q b) where
  any-others : (path : List ℕ) (paths : List (List ℕ)) → (q path || list_any q (filter (λ other. not (same_path path other)) paths)) ≡ (q path || list_any q paths)
  any-others path [] = refl
  any-others path (p ∷ ps) =
      let kept = filter (λ other. not (same_path path other)) ps in
      elim (same_path path p) as (λ b. same_path path p ≡ b → (q path || list_any q (cond (not b) (p ∷ kept) kept)) ≡ (q path || (q p || list_any q ps))) [
        | true ↦ λ e. known (q path) (q p) (list_any q kept) (list_any q ps) (alike path p e) (any-others path ps)
        | false ↦ λ _. another (q path) (q p) (list_any q kept) (list_any q ps) (any-others path ps)
      ] refl

  any-once : (paths : List (List ℕ)) → list_any q (each_once paths) ≡ list_any q paths
  any-once [] = refl
  any-once (path ∷ paths) = any-others path (each_once paths) ∙ ap (λ b. q path || b) (any-once paths)

pub once-serves : (test : List ℕ → Bool) (kind : ExpansionKind) (directory : List ℕ) (files : List File) (words : List (List ℕ)) → list_any test (texts_once kind directory files words) ≡ list_any test (texts_in_place kind directory files words)
unfolding texts_once texts_in_place openings
once-serves test kind directory files words =
    let paths = openings_within (length files) kind directory files words in
    let are : AreOf files paths (texts_within (length files) kind directory files words) = within-are (length files) kind directory files words in
    any-texts test files (each_once paths)
    ∙ any-once (λ path. list_any test (option_to_list (bytes_at path files))) (λ a b h. ap (λ o. list_any test (option_to_list o)) (bytes-same a b files h)) paths
    ∙ sym (any-texts test files paths) ∙ ap (list_any test) (sym are.1)
