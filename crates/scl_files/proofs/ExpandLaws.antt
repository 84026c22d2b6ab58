-- What is expanded, and what stays.
use Rattle.std.proofs.Common.{◌≡◌, ℕ, Bool, true, false, cond, ◌||◌, List, [], ◌∷◌, ◌++◌, Option, None, Some, refl, sym, ap, ◌∙◌}
use Rattle.std.proofs.lemmas.Bool.{false≢true}
use Rattle.std.specs.List.{list_any}
use Rattle.std.specs.Option.{option_map, is_some}
use Rattle.scl_files.specs.Paths.{same_path, join}
use Rattle.scl_files.specs.Views.{File, bytes_at}
use Rattle.scl_files.specs.ResponseFiles.{file_name_in, named, hides, files_inside}
use Rattle.scl_files.specs.Expand.{opened, expand}
use Rattle.scl_values.specs.Each.{Each}
use Rattle.scl_files.specs.ExpansionLaws.{WordsAreExpandedOneByOne, WordsOfMsvcFilesStand, AbsentFilesLeaveTheirWords, UnreadableFilesLeaveTheirWords, OpenFilesAreAbsentInside, PlainWordsStand, EachFileIsOpenOnce, IsChain, none, opens, AllApart}
use Rattle.scl_files.specs.declared.expand.ExpansionKind.{ExpansionKind}
use Rattle.scl_files.specs.declared.expand.ExpansionKind.TheVariants as kinds
use Rattle.scl_files.proofs.SamePath.{same_path-same}
use Rattle.scl_files.proofs.FilesLemmas.{bytes_at-inside, inside_msvc}
use Rattle.scl_files.proofs.OpenLemmas.{opened-no_name, opened-found}
use Rattle.scl_files.proofs.ExpandLemmas.{expand-cons, expand-nil, expand-no_files, in_place-same}

pub one_by_one : WordsAreExpandedOneByOne
one_by_one kind directory files word words = expand-cons kind directory files word words

pub msvc_stands : WordsOfMsvcFilesStand
msvc_stands directory files word words =
    expand-cons kinds.Msvc directory files word words
    ∙ ap (λ ws. ws ++ expand kinds.Msvc directory files words) (in_place-same word _ _ (opened kinds.Msvc directory files word) (λ file e. rw (inside_msvc file.path files) (expand-no_files kinds.Msvc directory file.words)))

-- a word that opens no file stays
pub unopened_stays : (kind : ExpansionKind) (directory : List ℕ) (files : List File) (word : List ℕ) (words : List (List ℕ)) → opened kind directory files word ≡ None
    → expand kind directory files (word ∷ words) ≡ word ∷ expand kind directory files words
unopened_stays kind directory files word words e = rw (expand-cons kind directory files word words, e) refl

pub absent_stays : AbsentFilesLeaveTheirWords
unfolding opened
absent_stays kind directory files word path words e a = unopened_stays kind directory files word words (rw (e, a) refl)

pub unreadable_stays : UnreadableFilesLeaveTheirWords
unfolding opened
unreadable_stays kind directory files word path bytes words e b a = unopened_stays kind directory files word words (rw (e, b, a) refl)

hides-same : (kind : ExpansionKind) (path : List ℕ) → hides kind path path ≡ true
hides-same kinds.Gnu path = same_path-same path
hides-same kinds.Msvc path = refl
hides-same kinds.Diab path = same_path-same path

pub open_is_absent : OpenFilesAreAbsentInside
open_is_absent kind path files = rw (bytes_at-inside kind path path files, hides-same kind path) refl

pub unnamed : (kind : ExpansionKind) (directory word : List ℕ) → is_some (file_name_in kind word) ≡ false → named kind directory word ≡ None
unfolding named
unnamed kind directory word h = elim (file_name_in kind word) as (λ o. is_some o ≡ false → option_map (join directory) o ≡ None) [ None ↦ λ _. refl | Some name ↦ λ e. absurd (false≢true (sym e)) ] h

pub neither : (a b : Bool) → (a || b) ≡ false → (a ≡ false) × (b ≡ false)
neither true b h = absurd (false≢true (sym h))
neither false b h = (refl, h)

plain_stay : (kind : ExpansionKind) (directory : List ℕ) (files : List File) (words : List (List ℕ)) → list_any (λ word. is_some (file_name_in kind word)) words ≡ false → expand kind directory files words ≡ words
plain_stay kind directory files [] h = expand-nil kind directory files
plain_stay kind directory files (word ∷ words) h =
    let parts = neither (is_some (file_name_in kind word)) (list_any (λ w. is_some (file_name_in kind w)) words) h in
    unopened_stays kind directory files word words (opened-no_name kind directory files word (unnamed kind directory word parts.0))
    ∙ ap (λ ws. word ∷ ws) (plain_stay kind directory files words parts.1)

pub plain_words : PlainWordsStand
plain_words kind directory files words h = plain_stay kind directory files words h

-- ---- chains of open files

found_apart : (b : Bool) (o : Option (List ℕ)) → is_some (cond b None o) ≡ true → (b ≡ false) × (is_some o ≡ true)
found_apart true o h = absurd (false≢true h)
found_apart false o h = (refl, h)

apart_paths : (kind : ExpansionKind) (path other : List ℕ) → hides kind path other ≡ false → same_path path other ≡ false
apart_paths kinds.Gnu path other h = h
apart_paths kinds.Msvc path other h = absurd (false≢true (sym h))
apart_paths kinds.Diab path other h = h

-- a file's words can't name that file, and each file that they name is found among the files
apart : (kind : ExpansionKind) (path other : List ℕ) (files : List File) → is_some (bytes_at other (files_inside kind path files)) ≡ true → (same_path path other ≡ false) × (is_some (bytes_at other files) ≡ true)
apart kind path other files h =
    let parts = found_apart (hides kind path other) (bytes_at other files) (rw (bytes_at-inside kind other path files) at h) in
    (apart_paths kind path other parts.0, parts.1)

abbrev Found : List File → List (List ℕ) → Type 0
Found files paths = Each (λ other. is_some (bytes_at other files) ≡ true) paths

found_all : (kind : ExpansionKind) (path : List ℕ) (files : List File) (paths : List (List ℕ)) → Found (files_inside kind path files) paths → Found files paths × Each (λ other. same_path path other ≡ false) paths
found_all kind path files [] h = (tt, tt)
found_all kind path files (p ∷ ps) h = let here = apart kind path p files h.0 in let more = found_all kind path files ps h.1 in ((here.1, more.0), (here.0, more.1))

both : (kind : ExpansionKind) (directory : List ℕ) (files : List File) (paths : List (List ℕ)) → IsChain kind directory files paths → Found files paths × AllApart paths
both kind directory _ _ (none files) = (tt, tt)
both kind directory _ _ (opens files word open_file paths o chain) =
    let more = both kind directory (files_inside kind open_file.path files) paths chain in
    let all = found_all kind open_file.path files paths more.0 in
    ((opened-found kind directory files word open_file o, all.0), (all.1, more.1))

pub open_once : EachFileIsOpenOnce
open_once kind directory files paths chain = (both kind directory files paths chain).1
