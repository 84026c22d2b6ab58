-- What a word opens.
use Rattle.std.proofs.Common.{◌≡◌, ℕ, ◌<◌, Bool, true, false, cond, ◌||◌, List, [], ◌∷◌, length, Option, None, Some, not, IsTrue, ◌↔◌, ◌⊎◌, inl, inr, refl, sym, ap, ◌∙◌}
use Rattle.std.proofs.lemmas.Bool.{false≢true}
use Rattle.std.specs.Option.{option_and_then, is_some}
use Rattle.scl_files.specs.Views.{File, bytes_at}
use Rattle.scl_files.specs.ResponseFiles.{named, arguments, hides, files_inside}
use Rattle.scl_files.specs.Expand.{OpenFile, open_file_at, opened}
use Rattle.scl_files.specs.declared.expansion.WordsLeft.{WordsLeft}
use Rattle.scl_files.specs.ExpansionState.{words_left, open_files, is_shut, closed}
use Rattle.scl_files.specs.Paths.{same_path}
use Rattle.scl_files.specs.PathMaps.{value_at}
use Rattle.scl_files.specs.declared.expand.ExpansionKind.TheVariants as kinds
use Rattle.scl_files.specs.declared.expand.ExpansionKind.{ExpansionKind}
use Rattle.scl_files.proofs.FilesLemmas.{inside-less, bytes_at-inside}

hide_twice : {X : Type 0} (a b : Bool) (y : Option X) → cond a None (cond b None y) ≡ cond (a || b) None y
hide_twice true b y = refl
hide_twice false b y = refl

pub bytes_at-closed : (kind : ExpansionKind) (path : List ℕ) (files : List File) (open_files : List OpenFile) → bytes_at path (closed kind files open_files) ≡ cond (is_shut kind path open_files) None (bytes_at path files)
bytes_at-closed kind path files [] = refl
bytes_at-closed kind path files (open_file ∷ open_files) =
    bytes_at-inside kind path open_file.path (closed kind files open_files) ∙ rw (bytes_at-closed kind path files open_files)
    (hide_twice (hides kind open_file.path path) (is_shut kind path open_files) (bytes_at path files))

pub opened-none : (kind : ExpansionKind) (directory word : List ℕ) → opened kind directory [] word ≡ None
unfolding opened
opened-none kind directory word = elim (named kind directory word) as (λ p. option_and_then (λ path. open_file_at path (option_and_then (arguments kind) (bytes_at path []))) p ≡ None) [ None ↦ refl | Some p ↦ refl ]

open_file_at-path : (path : List ℕ) (words : Option (List (List ℕ))) (file : OpenFile) → open_file_at path words ≡ Some file → file.path ≡ path
open_file_at-path path None file h = absurd (cc)
open_file_at-path path (Some words) file h = let e : record { path = path; words = words } ≡ file = cc in sym (ap (λ (l : OpenFile). l.path) e)

read_less : (kind : ExpansionKind) (path : List ℕ) (files : List File) (file : OpenFile) → open_file_at path (option_and_then (arguments kind) (bytes_at path files)) ≡ Some file → length (files_inside kind path files) < length files
read_less kind path files file h =
    elim (bytes_at path files) as (λ b. bytes_at path files ≡ b → open_file_at path (option_and_then (arguments kind) b) ≡ Some file → length (files_inside kind path files) < length files) [
      | None ↦ λ _ g. absurd (cc)
      | Some bytes ↦ λ e _. inside-less kind path files bytes e
    ] refl h

pub opened-less : (kind : ExpansionKind) (directory : List ℕ) (files : List File) (word : List ℕ) (file : OpenFile) → opened kind directory files word ≡ Some file → length (files_inside kind file.path files) < length files
unfolding opened
opened-less kind directory files word file h =
    elim (named kind directory word) as (λ p. option_and_then (λ path. open_file_at path (option_and_then (arguments kind) (bytes_at path files))) p ≡ Some file → length (files_inside kind file.path files) < length files) [
      | None ↦ λ g. absurd (cc)
      | Some path ↦ λ g. rw (open_file_at-path path (option_and_then (arguments kind) (bytes_at path files)) file g) (read_less kind path files file g)
    ] h

pub opened-at : (kind : ExpansionKind) (directory : List ℕ) (files : List File) (open_files : List OpenFile) (word path : List ℕ) → named kind directory word ≡ Some path
    → opened kind directory (closed kind files open_files) word ≡ open_file_at path (option_and_then (arguments kind) (cond (is_shut kind path open_files) None (bytes_at path files)))
unfolding opened
opened-at kind directory files open_files word path e = rw (e, bytes_at-closed kind path files open_files) refl

pub opened-no_name : (kind : ExpansionKind) (directory : List ℕ) (files : List File) (word : List ℕ) → named kind directory word ≡ None → opened kind directory files word ≡ None
unfolding opened
opened-no_name kind directory files word e = rw e refl

pub opened-hidden : (kind : ExpansionKind) (directory : List ℕ) (files : List File) (open_files : List OpenFile) (word path : List ℕ) → named kind directory word ≡ Some path → is_shut kind path open_files ≡ true
    → opened kind directory (closed kind files open_files) word ≡ None
opened-hidden kind directory files open_files word path e h = rw (opened-at kind directory files open_files word path e, h) refl

pub opened-absent : (kind : ExpansionKind) (directory : List ℕ) (files : List File) (open_files : List OpenFile) (word path : List ℕ) → named kind directory word ≡ Some path → is_shut kind path open_files ≡ false → bytes_at path files ≡ None
    → opened kind directory (closed kind files open_files) word ≡ None
opened-absent kind directory files open_files word path e h a = rw (opened-at kind directory files open_files word path e, h, a) refl

pub opened-unread : (kind : ExpansionKind) (directory : List ℕ) (files : List File) (open_files : List OpenFile) (word path bytes : List ℕ) → named kind directory word ≡ Some path → is_shut kind path open_files ≡ false → bytes_at path files ≡ Some bytes → arguments kind bytes ≡ None
    → opened kind directory (closed kind files open_files) word ≡ None
opened-unread kind directory files open_files word path bytes e h b a = rw (opened-at kind directory files open_files word path e, h, b, a) refl

pub opened-read : (kind : ExpansionKind) (directory : List ℕ) (files : List File) (open_files : List OpenFile) (word path bytes : List ℕ) (words : List (List ℕ)) → named kind directory word ≡ Some path → is_shut kind path open_files ≡ false → bytes_at path files ≡ Some bytes → arguments kind bytes ≡ Some words
    → opened kind directory (closed kind files open_files) word ≡ Some (record { path = path; words = words })
opened-read kind directory files open_files word path bytes words e h b a = rw (opened-at kind directory files open_files word path e, h, b, a) refl

read_found : (kind : ExpansionKind) (path : List ℕ) (files : List File) (file : OpenFile) → open_file_at path (option_and_then (arguments kind) (bytes_at path files)) ≡ Some file → is_some (bytes_at path files) ≡ true
read_found kind path files file h =
    elim (bytes_at path files) as (λ b. open_file_at path (option_and_then (arguments kind) b) ≡ Some file → is_some b ≡ true) [
      | None ↦ λ g. cc
      | Some bytes ↦ λ _. refl
    ] h

pub opened-found : (kind : ExpansionKind) (directory : List ℕ) (files : List File) (word : List ℕ) (file : OpenFile) → opened kind directory files word ≡ Some file → is_some (bytes_at file.path files) ≡ true
unfolding opened
opened-found kind directory files word file h =
    elim (named kind directory word) as (λ p. option_and_then (λ path. open_file_at path (option_and_then (arguments kind) (bytes_at path files))) p ≡ Some file → is_some (bytes_at file.path files) ≡ true) [
      | None ↦ λ g. cc
      | Some path ↦ λ g. rw (open_file_at-path path (option_and_then (arguments kind) (bytes_at path files)) file g) (read_found kind path files file g)
    ] h

pub ruleset opened_rules = (opened-no_name, opened-hidden, opened-absent, opened-unread, opened-read)

-- ---- the open files, by their paths

pub is_shut-gnu : (path : List ℕ) (inner : List (List ℕ)) (files : List (List ℕ × WordsLeft)) → is_shut kinds.Gnu path (open_files inner files) ≡ is_some (value_at path files)
is_shut-gnu path inner [] = refl
is_shut-gnu path inner (file ∷ files) =
    elim (same_path file.0 path) as (λ b. (b || is_shut kinds.Gnu path (open_files (words_left file.1) files)) ≡ is_some (cond b (Some file.1) (value_at path files))) [
      | true ↦ refl
      | false ↦ is_shut-gnu path (words_left file.1) files
    ]

pub is_shut-diab : (path : List ℕ) (inner : List (List ℕ)) (files : List (List ℕ × WordsLeft)) → is_shut kinds.Diab path (open_files inner files) ≡ is_some (value_at path files)
is_shut-diab path inner [] = refl
is_shut-diab path inner (file ∷ files) =
    elim (same_path file.0 path) as (λ b. (b || is_shut kinds.Diab path (open_files (words_left file.1) files)) ≡ is_some (cond b (Some file.1) (value_at path files))) [
      | true ↦ refl
      | false ↦ is_shut-diab path (words_left file.1) files
    ]

pub is_shut-msvc : (path : List ℕ) (inner : List (List ℕ)) (files : List (List ℕ × WordsLeft)) (empty : Bool) → (IsTrue empty ↔ (files ≡ [])) → is_shut kinds.Msvc path (open_files inner files) ≡ not empty
is_shut-msvc path inner [] true h = refl
is_shut-msvc path inner [] false h = absurd (false≢true (h.1 refl))
is_shut-msvc path inner (file ∷ files) true h = absurd (let e : file ∷ files ≡ [] = h.0 refl in cc)
is_shut-msvc path inner (file ∷ files) false h = refl

pub is_shut-compared : (kind : ExpansionKind) (path : List ℕ) (inner : List (List ℕ)) (files : List (List ℕ × WordsLeft)) → (kind ≡ kinds.Gnu) ⊎ (kind ≡ kinds.Diab)
    → is_shut kind path (open_files inner files) ≡ is_some (value_at path files)
is_shut-compared kind path inner files (inl e) = rw e (is_shut-gnu path inner files)
is_shut-compared kind path inner files (inr e) = rw e (is_shut-diab path inner files)
