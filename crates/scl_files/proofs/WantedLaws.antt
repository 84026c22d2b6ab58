-- If the disk has none of the wanted files, it gives the same words.
use Rattle.std.proofs.Common.{◌≡◌, ℕ, zero, suc, ◌≤◌, Bool, true, false, cond, List, [], ◌∷◌, ◌++◌, length, Option, None, Some, refl, sym, ap, ◌∙◌, arith}
use Rattle.std.specs.Option.{option_and_then}
use Rattle.scl_values.specs.Each.{Each}
use Rattle.scl_files.specs.Views.{File, bytes_at}
use Rattle.scl_files.specs.ResponseFiles.{named, arguments, hides, files_inside}
use Rattle.scl_files.specs.Expand.{OpenFile, open_file_at, opened, in_place, expand}
use Rattle.scl_files.specs.declared.expand.ExpansionKind.{ExpansionKind}
use Rattle.scl_files.specs.declared.expand.ExpansionKind.TheVariants as kinds
use Rattle.scl_files.proofs.FilesLemmas.{bytes_at-inside, inside_msvc}
use Rattle.scl_files.proofs.OpenLemmas.{opened-less}
use Rattle.scl_files.proofs.ExpandLemmas.{expand-cons, expand-nil}
use Rattle.scl_files.specs.Wanted.{if_absent, lacked_at, lacked_by, lacked, wanted, HasFiles, HasNone, WantedFilesDecide}

-- ---- lists

each-front : (P : List ℕ → Type 0) (xs ys : List (List ℕ)) → Each P (xs ++ ys) → Each P xs
each-front P [] ys h = tt
each-front P (x ∷ xs) ys h = (h.0, each-front P xs ys h.1)

each-back : (P : List ℕ → Type 0) (xs ys : List (List ℕ)) → Each P (xs ++ ys) → Each P ys
each-back P [] ys h = h
each-back P (x ∷ xs) ys h = each-back P xs ys h.1

each-mapped : (P Q : List ℕ → Type 0) (xs : List (List ℕ)) → ((x : List ℕ) → P x → Q x) → Each P xs → Each Q xs
each-mapped P Q [] f h = tt
each-mapped P Q (x ∷ xs) f h = (f x h.0, each-mapped P Q xs f h.1)

-- ---- one word

-- the disk has no file for which the word asks in vain
abbrev IsAnswered : ExpansionKind → List ℕ → List File → List File → List ℕ → Type 0
IsAnswered kind directory files disk word = HasNone disk (lacked_by kind directory files word)

by_words : (kind : ExpansionKind) (directory : List ℕ) (files disk : List File) (words : List (List ℕ)) → HasNone disk (lacked kind directory files words) → Each (IsAnswered kind directory files disk) words
by_words kind directory files disk [] h = tt
by_words kind directory files disk (word ∷ words) h = (
  each-front (λ path. bytes_at path disk ≡ None) (lacked_by kind directory files word) (lacked kind directory files words) h,
  by_words kind directory files disk words (each-back (λ path. bytes_at path disk ≡ None) (lacked_by kind directory files word) (lacked kind directory files words) h),
)

found-same : (path : List ℕ) (files disk : List File) → HasFiles disk files → HasNone disk (if_absent path (bytes_at path files)) → bytes_at path disk ≡ bytes_at path files
found-same path files disk h a =
    elim (bytes_at path files) as (λ b. bytes_at path files ≡ b → HasNone disk (if_absent path b) → bytes_at path disk ≡ b) [
      | None ↦ λ _ k. k.0
      | Some bytes ↦ λ e _. h path bytes e
    ] refl a

opened-same : (kind : ExpansionKind) (directory : List ℕ) (files disk : List File) (word : List ℕ) → HasFiles disk files → IsAnswered kind directory files disk word → opened kind directory disk word ≡ opened kind directory files word
unfolding opened
opened-same kind directory files disk word h a =
    elim (named kind directory word) as (λ p. HasNone disk (lacked_at files p)
    → option_and_then (λ path. open_file_at path (option_and_then (arguments kind) (bytes_at path disk))) p ≡ option_and_then (λ path. open_file_at path (option_and_then (arguments kind) (bytes_at path files))) p) [
      | None ↦ λ _. refl
      | Some path ↦ λ k. rw (found-same path files disk h k) refl
    ] a

present : (kind : ExpansionKind) (path : List ℕ) (files disk : List File) (file : OpenFile) → open_file_at path (option_and_then (arguments kind) (bytes_at path files)) ≡ Some file → HasNone disk (if_absent path (bytes_at path files))
present kind path files disk file g =
    elim (bytes_at path files) as (λ b. open_file_at path (option_and_then (arguments kind) b) ≡ Some file → HasNone disk (if_absent path b)) [
      | None ↦ λ k. absurd (cc)
      | Some bytes ↦ λ _. tt
    ] g

-- a word that opens a file asks for none in vain
opened-answered : (kind : ExpansionKind) (directory : List ℕ) (files disk : List File) (word : List ℕ) (file : OpenFile) → opened kind directory files word ≡ Some file → IsAnswered kind directory files disk word
unfolding opened
opened-answered kind directory files disk word file g =
    elim (named kind directory word) as (λ p. option_and_then (λ path. open_file_at path (option_and_then (arguments kind) (bytes_at path files))) p ≡ Some file → HasNone disk (lacked_at files p)) [
      | None ↦ λ _. tt
      | Some path ↦ λ k. present kind path files disk file k
    ] g

-- ---- inside a file

visible : (hidden : Bool) (x y : Option (List ℕ)) (bytes : List ℕ) → (x ≡ Some bytes → y ≡ Some bytes) → cond hidden None x ≡ Some bytes → cond hidden None y ≡ Some bytes
visible true x y bytes h e = absurd (cc)
visible false x y bytes h e = h e

hidden-none : (hidden : Bool) (x y : Option (List ℕ)) → (x ≡ None → y ≡ None) → cond hidden None x ≡ None → cond hidden None y ≡ None
hidden-none true x y h e = refl
hidden-none false x y h e = h e

inside-has : (kind : ExpansionKind) (path : List ℕ) (files disk : List File) → HasFiles disk files → HasFiles (files_inside kind path disk) (files_inside kind path files)
inside-has kind path files disk h other bytes e =
    bytes_at-inside kind other path disk
    ∙ visible (hides kind path other) (bytes_at other files) (bytes_at other disk) bytes (λ k. h other bytes k) (sym (bytes_at-inside kind other path files) ∙ e)

none-at : (disk : List File) (path : List ℕ) (b : Option (List ℕ)) → (b ≡ None → bytes_at path disk ≡ None) → HasNone disk (if_absent path b)
none-at disk path None h = (h refl, tt)
none-at disk path (Some bytes) h = tt

none-of : (disk : List File) (path : List ℕ) (b : Option (List ℕ)) → HasNone disk (if_absent path b) → b ≡ None → bytes_at path disk ≡ None
none-of disk path None a e = a.0
none-of disk path (Some bytes) a e = absurd (cc)

path-inside : (kind : ExpansionKind) (path other : List ℕ) (files disk : List File) → HasNone disk (if_absent other (bytes_at other files)) → HasNone (files_inside kind path disk) (if_absent other (bytes_at other (files_inside kind path files)))
path-inside kind path other files disk a =
    none-at (files_inside kind path disk) other (bytes_at other (files_inside kind path files)) (λ e.
    bytes_at-inside kind other path disk
    ∙ hidden-none (hides kind path other) (bytes_at other files) (bytes_at other disk) (λ k. none-of disk other (bytes_at other files) a k) (sym (bytes_at-inside kind other path files) ∙ e))

word-inside : (kind : ExpansionKind) (directory path : List ℕ) (files disk : List File) (word : List ℕ) → IsAnswered kind directory files disk word → IsAnswered kind directory (files_inside kind path files) (files_inside kind path disk) word
word-inside kind directory path files disk word a =
    elim (named kind directory word) as (λ p. HasNone disk (lacked_at files p) → HasNone (files_inside kind path disk) (lacked_at (files_inside kind path files) p)) [
      | None ↦ λ _. tt
      | Some other ↦ λ k. path-inside kind path other files disk k
    ] a

-- ---- all words

-- the disk gives the words that the files give, if it has none of the wanted files that are absent
abbrev Decides : ExpansionKind → List ℕ → List File → List File → Type 0
Decides kind directory files disk =
    (words : List (List ℕ)) → HasFiles disk files → Each (IsAnswered kind directory files disk) (expand kind directory files words) → expand kind directory disk words ≡ expand kind directory files words

-- the same for the words of each file that a word opens
abbrev DecidesInside : ExpansionKind → List ℕ → List File → List File → Type 0
DecidesInside kind directory files disk =
    (word : List ℕ) (file : OpenFile) → opened kind directory files word ≡ Some file → Decides kind directory (files_inside kind file.path files) (files_inside kind file.path disk)

place-same : (kind : ExpansionKind) (directory : List ℕ) (files disk : List File) (word : List ℕ) → DecidesInside kind directory files disk → HasFiles disk files
    → Each (IsAnswered kind directory files disk) (in_place word (λ file. expand kind directory (files_inside kind file.path files) file.words) (opened kind directory files word))
    → in_place word (λ file. expand kind directory (files_inside kind file.path disk) file.words) (opened kind directory disk word)
    ≡ in_place word (λ file. expand kind directory (files_inside kind file.path files) file.words) (opened kind directory files word)
place-same kind directory files disk word inside h a =
    elim (opened kind directory files word) as (λ o. opened kind directory files word ≡ o
    → Each (IsAnswered kind directory files disk) (in_place word (λ file. expand kind directory (files_inside kind file.path files) file.words) o)
    → in_place word (λ file. expand kind directory (files_inside kind file.path disk) file.words) (opened kind directory disk word)
    ≡ in_place word (λ file. expand kind directory (files_inside kind file.path files) file.words) o) [
      | None ↦ λ e k. rw (opened-same kind directory files disk word h k.0, e) refl
      | Some file ↦ λ e k. rw (opened-same kind directory files disk word h (opened-answered kind directory files disk word file e), e)
          (inside word file e file.words (inside-has kind file.path files disk h)
          (each-mapped (IsAnswered kind directory files disk) (IsAnswered kind directory (files_inside kind file.path files) (files_inside kind file.path disk)) (expand kind directory (files_inside kind file.path files) file.words)
          (λ w q. word-inside kind directory file.path files disk w q) k))
    ] refl a

over_words : (kind : ExpansionKind) (directory : List ℕ) (files disk : List File) → DecidesInside kind directory files disk → Decides kind directory files disk
over_words kind directory files disk inside [] h a = expand-nil kind directory disk ∙ sym (expand-nil kind directory files)
over_words kind directory files disk inside (word ∷ words) h a =
    let here = in_place word (λ file. expand kind directory (files_inside kind file.path files) file.words) (opened kind directory files word) in
    let split : Each (IsAnswered kind directory files disk) (here ++ expand kind directory files words) = rw (expand-cons kind directory files word words) at a in
    let first = place-same kind directory files disk word inside h (each-front (IsAnswered kind directory files disk) here (expand kind directory files words) split) in
    let others = over_words kind directory files disk inside words h (each-back (IsAnswered kind directory files disk) here (expand kind directory files words) split) in
    rw (expand-cons kind directory disk word words, expand-cons kind directory files word words, first, others) refl

within : (n : ℕ) (kind : ExpansionKind) (directory : List ℕ) (files disk : List File) → length files ≤ n → Decides kind directory files disk
within zero kind directory files disk m = over_words kind directory files disk (λ word file e. let less = opened-less kind directory files word file e in absurd (omega (arith, less, m)))
within (suc n) kind directory files disk m =
    over_words kind directory files disk (λ word file e. let less = opened-less kind directory files word file e in within n kind directory (files_inside kind file.path files) (files_inside kind file.path disk) (omega (arith, less, m)))

-- ---- MSVC, where words inside a file name none

msvc-inside : (directory path : List ℕ) (files disk : List File) (words : List (List ℕ)) → expand kinds.Msvc directory (files_inside kinds.Msvc path disk) words ≡ expand kinds.Msvc directory (files_inside kinds.Msvc path files) words
msvc-inside directory path files disk words = rw (inside_msvc path files, inside_msvc path disk) refl

place-msvc : (directory : List ℕ) (files disk : List File) (word : List ℕ) (o : Option OpenFile)
    → in_place word (λ file. expand kinds.Msvc directory (files_inside kinds.Msvc file.path disk) file.words) o ≡ in_place word (λ file. expand kinds.Msvc directory (files_inside kinds.Msvc file.path files) file.words) o
place-msvc directory files disk word None = refl
place-msvc directory files disk word (Some file) = msvc-inside directory file.path files disk file.words

msvc_words : (directory : List ℕ) (files disk : List File) (words : List (List ℕ)) → HasFiles disk files → Each (IsAnswered kinds.Msvc directory files disk) words → expand kinds.Msvc directory disk words ≡ expand kinds.Msvc directory files words
msvc_words directory files disk [] h a = expand-nil kinds.Msvc directory disk ∙ sym (expand-nil kinds.Msvc directory files)
msvc_words directory files disk (word ∷ words) h a =
    rw (expand-cons kinds.Msvc directory disk word words, expand-cons kinds.Msvc directory files word words, opened-same kinds.Msvc directory files disk word h a.0, msvc_words directory files disk words h a.1)
    (ap (λ ws. ws ++ expand kinds.Msvc directory files words) (place-msvc directory files disk word (opened kinds.Msvc directory files word)))

pub wanted_decides : WantedFilesDecide
unfolding wanted
wanted_decides kinds.Gnu directory files disk words h a = within (length files) kinds.Gnu directory files disk (omega arith) words h (by_words kinds.Gnu directory files disk (expand kinds.Gnu directory files words) a)
wanted_decides kinds.Msvc directory files disk words h a = msvc_words directory files disk words h (by_words kinds.Msvc directory files disk words a)
wanted_decides kinds.Diab directory files disk words h a = within (length files) kinds.Diab directory files disk (omega arith) words h (by_words kinds.Diab directory files disk (expand kinds.Diab directory files words) a)
