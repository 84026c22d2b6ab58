-- Each path once: what one more path adds.
use Rattle.std.proofs.Common.{◌≡◌, ℕ, Bool, true, false, cond, not, ◌||◌, filter, List, [], ◌∷◌, ◌++◌, Option, None, Some, refl, sym, ap, ◌∙◌, append_assoc}
use Rattle.std.specs.List.{flat_map}
use Rattle.std.specs.Option.{option_to_list, is_some}
use Rattle.scl_files.specs.Paths.{same_path}
use Rattle.scl_files.specs.PathMaps.{value_at}
use Rattle.scl_files.specs.Views.{File, bytes_at, is_among}
use Rattle.scl_files.specs.Openings.{each_once, texts_at}
use Rattle.std.proofs.lemmas.List.{append-nil}
use Rattle.scl_files.proofs.SamePath.{same_path-right}

or-true : (b : Bool) → (b || true) ≡ true
or-true true = refl
or-true false = refl

-- the path, unless it is among others
abbrev pub if_new : Bool → List ℕ → List (List ℕ)
if_new true path = []
if_new false path = path ∷ []

filter-append : (p : List ℕ → Bool) (xs ys : List (List ℕ)) → filter p (xs ++ ys) ≡ filter p xs ++ filter p ys
filter-append p [] ys = refl
filter-append p (x ∷ xs) ys = elim (p x) as (λ b. cond b (x ∷ filter p (xs ++ ys)) (filter p (xs ++ ys)) ≡ cond b (x ∷ filter p xs) (filter p xs) ++ filter p ys) [
  | true ↦ ap (λ l. x ∷ l) (filter-append p xs ys)
  | false ↦ filter-append p xs ys
]

new-filtered : (p : List ℕ → Bool) (here among : Bool) (path : List ℕ) → p path ≡ not here → filter p (if_new among path) ≡ if_new (here || among) path
new-filtered p true true path h = refl
new-filtered p true false path h = rw h refl
new-filtered p false true path h = refl
new-filtered p false false path h = rw h refl

pub once-more : (paths : List (List ℕ)) (path : List ℕ) → each_once (paths ++ path ∷ []) ≡ each_once paths ++ if_new (is_among path paths) path
once-more [] path = refl
once-more (p ∷ ps) path =
    ap (λ l. p ∷ l) (
    ap (filter (λ other. not (same_path p other))) (once-more ps path)
    ∙ filter-append (λ other. not (same_path p other)) (each_once ps) (if_new (is_among path ps) path)
    ∙ ap (λ l. filter (λ other. not (same_path p other)) (each_once ps) ++ l) (new-filtered (λ other. not (same_path p other)) (same_path p path) (is_among path ps) path refl))

pub texts-append : (files : List File) (xs ys : List (List ℕ)) → texts_at files (xs ++ ys) ≡ texts_at files xs ++ texts_at files ys
texts-append files [] ys = refl
texts-append files (x ∷ xs) ys =
    ap (λ l. option_to_list (bytes_at x files) ++ l) (texts-append files xs ys)
    ∙ sym (append_assoc (option_to_list (bytes_at x files)) (texts_at files xs) (texts_at files ys))

-- a path that is among the others adds no text, another one adds its own
pub text-known : (files : List File) (paths : List (List ℕ)) (path : List ℕ) → is_among path paths ≡ true → texts_at files (each_once (paths ++ path ∷ [])) ≡ texts_at files (each_once paths)
text-known files paths path h = rw (once-more paths path, h) (ap (texts_at files) (append-nil (each_once paths)))

pub text-new : (files : List File) (paths : List (List ℕ)) (path : List ℕ) → is_among path paths ≡ false
    → texts_at files (each_once (paths ++ path ∷ [])) ≡ texts_at files (each_once paths) ++ option_to_list (bytes_at path files)
text-new files paths path h =
    rw (once-more paths path, h) (texts-append files (each_once paths) (path ∷ []) ∙ ap (λ l. texts_at files (each_once paths) ++ l) (append-nil (option_to_list (bytes_at path files))))

-- ---- the paths that were seen

pub among-more : (other : List ℕ) (paths : List (List ℕ)) (path : List ℕ) → is_among other (paths ++ path ∷ []) ≡ same_path path other || is_among other paths
among-more other [] path = refl
among-more other (p ∷ ps) path =
    ap (λ b. same_path p other || b) (among-more other ps path)
    ∙ elim (same_path p other) as (λ b. (b || (same_path path other || is_among other ps)) ≡ (same_path path other || (b || is_among other ps))) [
      | true ↦ sym (or-true (same_path path other))
      | false ↦ refl
    ]

among-alike : (a b : List ℕ) (paths : List (List ℕ)) → same_path a b ≡ true → is_among a paths ≡ is_among b paths
among-alike a b [] h = refl
among-alike a b (p ∷ ps) h = rw (same_path-right p a b h, among-alike a b ps h) refl

-- one more path that is among the others already changes nothing
pub among-known : (other : List ℕ) (paths : List (List ℕ)) (path : List ℕ) → is_among path paths ≡ true → is_among other (paths ++ path ∷ []) ≡ is_among other paths
among-known other paths path h =
    among-more other paths path
    ∙ elim (same_path path other) as (λ b. same_path path other ≡ b → (b || is_among other paths) ≡ is_among other paths) [
      | true ↦ λ e. sym (sym (among-alike path other paths e) ∙ h)
      | false ↦ λ _. refl
    ] refl

-- the entries are those of these paths
abbrev pub LeadsTo : List (List ℕ) → List (List ℕ × Unit {0}) → Type 0
LeadsTo paths entries = (other : List ℕ) → is_some (value_at other entries) ≡ is_among other paths

pub leads-known : (paths : List (List ℕ)) (entries : List (List ℕ × Unit {0})) (path : List ℕ) → LeadsTo paths entries → is_among path paths ≡ true → LeadsTo (paths ++ path ∷ []) entries
leads-known paths entries path h k = λ other. h other ∙ sym (among-known other paths path k)

pub leads-new : (paths : List (List ℕ)) (entries : List (List ℕ × Unit {0})) (path : List ℕ) → LeadsTo paths entries → LeadsTo (paths ++ path ∷ []) ((path, tt) ∷ entries)
leads-new paths entries path h = λ other.
    elim (same_path path other) as (λ b. is_some (cond b (Some tt) (value_at other entries)) ≡ (b || is_among other paths)) [
      | true ↦ refl
      | false ↦ h other
    ]
    ∙ sym (among-more other paths path)

-- these are the texts at the paths, each once, and the entries are those of the paths
pub record Once (files : List File) (paths found : List (List ℕ)) (entries : List (List ℕ × Unit {0})) : Type 0 where
  pub texts : found ≡ texts_at files (each_once paths)
  pub leads : LeadsTo paths entries

pub nothing_once : (files : List File) → Once files [] [] []
nothing_once files = record { texts = refl; leads = λ other. refl }
