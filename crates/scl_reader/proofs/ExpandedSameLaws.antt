-- Where the disk answers each word as the files do, it gives the same expansion: the words, which given word brought each, the texts, and what is lacked.
use Rattle.std.proofs.Common.{◌≡◌, ℕ, Bool, true, false, cond, not, List, [], ◌∷◌, ◌++◌, filter, drop, Option, None, Some, refl, sym, ap, ◌∙◌}
use Rattle.std.specs.Option.{is_some, option_and_then}
use Rattle.scl_values.specs.Each.{Each}
use Rattle.scl_files.specs.Expand.{OpenFile, open_file_at, opened, in_place, expand}
use Rattle.scl_files.specs.Expanded.{expanded_by}
use Rattle.scl_files.specs.ExpansionState.{is_shut, closed}
use Rattle.scl_files.specs.Openings.{opening, openings, each_once, texts_at, texts_once}
use Rattle.scl_files.specs.Paths.{same_path}
use Rattle.scl_files.specs.ResponseFiles.{named, arguments}
use Rattle.scl_files.specs.Sources.{ats_expanded}
use Rattle.scl_files.specs.Views.{File, bytes_at}
use Rattle.scl_files.specs.Wanted.{if_absent, lacked_at, lacked_by, lacked, words_asked, wanted, HasFiles, HasNone}
use Rattle.scl_files.specs.declared.expand.ExpansionKind.{ExpansionKind}
use Rattle.scl_files.specs.declared.expand.ExpansionKind.TheVariants as kinds
use Rattle.scl_files.proofs.ExpandLemmas.{expand-cons, expand-nil}
use Rattle.scl_files.proofs.OpenLemmas.{opened-at, opened-no_name}
use Rattle.scl_files.proofs.OpeningLemmas.{openings-cons, openings-nil}

-- ---- lists

pub each-front : {A : Type 0} (P : A → Type 0) (xs ys : List A) → Each P (xs ++ ys) → Each P xs
each-front P [] ys h = tt
each-front P (x ∷ xs) ys h = (h.0, each-front P xs ys h.1)

pub each-back : {A : Type 0} (P : A → Type 0) (xs ys : List A) → Each P (xs ++ ys) → Each P ys
each-back P [] ys h = h
each-back P (x ∷ xs) ys h = each-back P xs ys h.1

pub each-joined : {A : Type 0} (P : A → Type 0) (xs ys : List A) → Each P xs → Each P ys → Each P (xs ++ ys)
each-joined P [] ys h k = k
each-joined P (x ∷ xs) ys h k = (h.0, each-joined P xs ys h.1 k)

pub each-mapped : {A : Type 0} (P Q : A → Type 0) (xs : List A) → ((x : A) → P x → Q x) → Each P xs → Each Q xs
each-mapped P Q [] f h = tt
each-mapped P Q (x ∷ xs) f h = (f x h.0, each-mapped P Q xs f h.1)

each-kept : {A : Type 0} (P : A → Type 0) (p : A → Bool) (xs : List A) → Each P xs → Each P (filter p xs)
each-kept P p [] h = tt
each-kept P p (x ∷ xs) h = elim (p x) as (λ b. Each P (cond b (x ∷ filter p xs) (filter p xs))) [
  | true ↦ (h.0, each-kept P p xs h.1)
  | false ↦ each-kept P p xs h.1
]

-- ---- one path

module _ (files disk : List File) (has : HasFiles disk files) where
  pub bytes-same : (path : List ℕ) → HasNone disk (if_absent path (bytes_at path files)) → bytes_at path disk ≡ bytes_at path files
  bytes-same path a =
      elim (bytes_at path files) as (λ b. bytes_at path files ≡ b → HasNone disk (if_absent path b) → bytes_at path disk ≡ b) [
        | None ↦ λ _ k. k.0
        | Some bytes ↦ λ e _. has path bytes e
      ] refl a

  bytes-found : (path : List ℕ) → is_some (bytes_at path files) ≡ true → bytes_at path disk ≡ bytes_at path files
  bytes-found path s =
      elim (bytes_at path files) as (λ b. bytes_at path files ≡ b → is_some b ≡ true → bytes_at path disk ≡ b) [
        | None ↦ λ _ k. absurd (cc)
        | Some bytes ↦ λ e _. has path bytes e
      ] refl s

  abbrev IsFound : List ℕ → Type 0
  IsFound path = is_some (bytes_at path files) ≡ true

  found-once : (paths : List (List ℕ)) → Each IsFound paths → Each IsFound (each_once paths)
  found-once [] f = tt
  found-once (path ∷ paths) f = (f.0, each-kept IsFound (λ other. not (same_path path other)) (each_once paths) (found-once paths f.1))

  texts-same : (paths : List (List ℕ)) → Each IsFound paths → texts_at disk paths ≡ texts_at files paths
  texts-same [] f = refl
  texts-same (path ∷ paths) f = rw (bytes-found path f.0, texts-same paths f.1) refl

module _ (kind : ExpansionKind) (directory : List ℕ) (files disk : List File) (has : HasFiles disk files) where
  -- the disk has no file that the word asks for in vain
  abbrev pub IsAnswered : List ℕ → Type 0
  IsAnswered word = HasNone disk (lacked_by kind directory files word)

  pub by-words : (words : List (List ℕ)) → HasNone disk (lacked kind directory files words) → Each IsAnswered words
  by-words [] h = tt
  by-words (word ∷ words) h =
      let here = lacked_by kind directory files word in
      let others = lacked kind directory files words in
      (each-front (λ path. bytes_at path disk ≡ None) here others h, by-words words (each-back (λ path. bytes_at path disk ≡ None) here others h))

  lacked-one : (word : List ℕ) → IsAnswered word → lacked_by kind directory disk word ≡ lacked_by kind directory files word
  lacked-one word a = elim (named kind directory word) as (λ p. HasNone disk (lacked_at files p) → lacked_at disk p ≡ lacked_at files p) [
    | None ↦ λ _. refl
    | Some path ↦ λ k. ap (if_absent path) (bytes-same files disk has path k)
  ] a

  lacked-same : (words : List (List ℕ)) → Each IsAnswered words → lacked kind directory disk words ≡ lacked kind directory files words
  lacked-same [] a = refl
  lacked-same (word ∷ words) a = rw (lacked-one word a.0, lacked-same words a.1) refl

  -- ---- what a word opens, while files are open

  abbrev text_of : List OpenFile → List ℕ → List File → Option OpenFile
  text_of around path fs = open_file_at path (option_and_then (arguments kind) (cond (is_shut kind path around) None (bytes_at path fs)))

  pub opened-same : (around : List OpenFile) (word : List ℕ) → IsAnswered word → opened kind directory (closed kind disk around) word ≡ opened kind directory (closed kind files around) word
  opened-same around word a = elim (named kind directory word) as (λ p. named kind directory word ≡ p → HasNone disk (lacked_at files p) → opened kind directory (closed kind disk around) word ≡ opened kind directory (closed kind files around) word) [
    | None ↦ λ e _. opened-no_name kind directory (closed kind disk around) word e ∙ sym (opened-no_name kind directory (closed kind files around) word e)
    | Some path ↦ λ e k.
        opened-at kind directory disk around word path e
        ∙ ap (λ b. open_file_at path (option_and_then (arguments kind) (cond (is_shut kind path around) None b))) (bytes-same files disk has path k)
        ∙ sym (opened-at kind directory files around word path e)
  ] refl a

  found-at : (around : List OpenFile) (path : List ℕ) (file : OpenFile) (shut : Bool) (bytes : Option (List ℕ))
      → open_file_at path (option_and_then (arguments kind) (cond shut None bytes)) ≡ Some file → open_file_at path (option_and_then (arguments kind) bytes) ≡ Some file
  found-at around path file true bytes e = absurd (cc)
  found-at around path file false bytes e = e

  -- what it opens while others are open, it opens
  pub opened-alone : (around : List OpenFile) (word : List ℕ) (file : OpenFile) → opened kind directory (closed kind files around) word ≡ Some file → opened kind directory files word ≡ Some file
  opened-alone around word file e = elim (named kind directory word) as (λ p. named kind directory word ≡ p → opened kind directory files word ≡ Some file) [
    | None ↦ λ k. absurd (let no : None ≡ Some file = sym (opened-no_name kind directory (closed kind files around) word k) ∙ e in cc)
    | Some path ↦ λ k.
        opened-at kind directory files [] word path k
        ∙ found-at around path file (is_shut kind path around) (bytes_at path files) (sym (opened-at kind directory files around word path k) ∙ e)
  ] refl

  file-path : (path : List ℕ) (words : Option (List (List ℕ))) (file : OpenFile) → open_file_at path words ≡ Some file → file.path ≡ path
  file-path path None file h = absurd (cc)
  file-path path (Some words) file h = let e : record { path = path; words = words } ≡ file = cc in sym (ap (λ (l : OpenFile). l.path) e)

  file-words : (path : List ℕ) (words : Option (List (List ℕ))) (file : OpenFile) → open_file_at path words ≡ Some file → words ≡ Some file.words
  file-words path None file h = absurd (cc)
  file-words path (Some words) file h = let e : record { path = path; words = words } ≡ file = cc in ap (λ (l : OpenFile). Some l.words) e

  -- a file that is opened is there, its words are those of its text, and it is opened wherever it is not shut
  pub record IsOpened (word : List ℕ) (file : OpenFile) : Type 0 where
    pub found : is_some (bytes_at file.path files) ≡ true
    pub words : option_and_then (arguments kind) (bytes_at file.path files) ≡ Some file.words
    pub answered : IsAnswered word
    pub anywhere : (around : List OpenFile) → is_shut kind file.path around ≡ false → opened kind directory (closed kind files around) word ≡ Some file

  there : (bytes : Option (List ℕ)) (words : List (List ℕ)) → option_and_then (arguments kind) bytes ≡ Some words → is_some bytes ≡ true
  there None words e = absurd (cc)
  there (Some bytes) words e = refl

  none-absent : (path : List ℕ) (bytes : Option (List ℕ)) → is_some bytes ≡ true → HasNone disk (if_absent path bytes)
  none-absent path None e = absurd (cc)
  none-absent path (Some bytes) e = tt

  opened-at-path : (word path : List ℕ) (file : OpenFile) → named kind directory word ≡ Some path → open_file_at path (option_and_then (arguments kind) (bytes_at path files)) ≡ Some file → IsOpened word file
  opened-at-path word path file n e =
      let is : file.path ≡ path = file-path path (option_and_then (arguments kind) (bytes_at path files)) file e in
      let words : option_and_then (arguments kind) (bytes_at path files) ≡ Some file.words = file-words path (option_and_then (arguments kind) (bytes_at path files)) file e in
      let found : is_some (bytes_at path files) ≡ true = there (bytes_at path files) file.words words in
      record {
        found = ap (λ p. is_some (bytes_at p files)) is ∙ found;
        words = ap (λ p. option_and_then (arguments kind) (bytes_at p files)) is ∙ words;
        answered = rw n (none-absent path (bytes_at path files) found);
        anywhere = λ around shut.
            opened-at kind directory files around word path n
            ∙ ap (λ b. open_file_at path (option_and_then (arguments kind) (cond b None (bytes_at path files)))) (ap (λ p. is_shut kind p around) (sym is) ∙ shut)
            ∙ e;
      }

  pub is-opened : (word : List ℕ) (file : OpenFile) → opened kind directory files word ≡ Some file → IsOpened word file
  is-opened word file e = elim (named kind directory word) as (λ p. named kind directory word ≡ p → IsOpened word file) [
    | None ↦ λ k. absurd (let no : None ≡ Some file = sym (opened-no_name kind directory files word k) ∙ e in cc)
    | Some path ↦ λ k. opened-at-path word path file k (sym (opened-at kind directory files [] word path k) ∙ e)
  ] refl

  -- ---- an expansion, while files are open

  abbrev IsThere : List ℕ → Type 0
  IsThere path = is_some (bytes_at path files) ≡ true

  pub record IsAlike (around : List OpenFile) (words : List (List ℕ)) : Type 0 where
    pub words_same : expand kind directory (closed kind disk around) words ≡ expand kind directory (closed kind files around) words
    pub openings_same : openings kind directory (closed kind disk around) words ≡ openings kind directory (closed kind files around) words
    pub found : Each IsThere (openings kind directory (closed kind files around) words)

  -- the same of what a word opens
  record IsPlaced (around : List OpenFile) (word : List ℕ) (o : Option OpenFile) : Type 0 where
    words_same : in_place word (λ file. expand kind directory (closed kind disk (file ∷ around)) file.words) o ≡ in_place word (λ file. expand kind directory (closed kind files (file ∷ around)) file.words) o
    openings_same : opening (λ file. openings kind directory (closed kind disk (file ∷ around)) file.words) o ≡ opening (λ file. openings kind directory (closed kind files (file ∷ around)) file.words) o
    found : Each IsThere (opening (λ file. openings kind directory (closed kind files (file ∷ around)) file.words) o)

  abbrev AreInside : List OpenFile → List ℕ → Type 0
  AreInside around word = (file : OpenFile) → opened kind directory (closed kind files around) word ≡ Some file → IsAlike (file ∷ around) file.words

  placed : (around : List OpenFile) (word : List ℕ) (o : Option OpenFile) → opened kind directory (closed kind files around) word ≡ o → AreInside around word → IsPlaced around word o
  placed around word None e inside = record { words_same = refl; openings_same = refl; found = tt }
  placed around word (Some file) e inside =
      let same : IsAlike (file ∷ around) file.words = inside file e in
      let is : IsOpened word file = is-opened word file (opened-alone around word file e) in
      record { words_same = same.words_same; openings_same = ap (λ ps. file.path ∷ ps) same.openings_same; found = (is.found, same.found) }

  pub alike-words : (around : List OpenFile) (words : List (List ℕ)) → Each (λ word. IsAnswered word × AreInside around word) words → IsAlike around words
  alike-words around [] h = record {
    words_same = expand-nil kind directory (closed kind disk around) ∙ sym (expand-nil kind directory (closed kind files around));
    openings_same = openings-nil kind directory (closed kind disk around) ∙ sym (openings-nil kind directory (closed kind files around));
    found = rw (openings-nil kind directory (closed kind files around)) tt;
  }
  alike-words around (word ∷ words) h =
      let here : IsPlaced around word (opened kind directory (closed kind files around) word) = placed around word (opened kind directory (closed kind files around) word) refl h.0.1 in
      let rest : IsAlike around words = alike-words around words h.1 in
      let same : opened kind directory (closed kind disk around) word ≡ opened kind directory (closed kind files around) word = opened-same around word h.0.0 in
      record {
        words_same = rw (expand-cons kind directory (closed kind disk around) word words, expand-cons kind directory (closed kind files around) word words, same, here.words_same, rest.words_same) refl;
        openings_same = rw (openings-cons kind directory (closed kind disk around) word words, openings-cons kind directory (closed kind files around) word words, same, here.openings_same, rest.openings_same) refl;
        found = rw (openings-cons kind directory (closed kind files around) word words) (each-joined IsThere _ (openings kind directory (closed kind files around) words) here.found rest.found);
      }

  -- ---- all that is said of an expansion

  ats-same : (words : List (List ℕ)) (ats : List (Option ℕ)) → Each (λ word. IsAlike [] (word ∷ [])) words → ats_expanded kind directory disk words ats ≡ ats_expanded kind directory files words ats
  ats-same [] ats h = refl
  ats-same (word ∷ words) ats h = rw (h.0.words_same, ats-same words (drop 1 ats) h.1) refl

  texts-once-same : (words : List (List ℕ)) → IsAlike [] words → texts_once kind directory disk words ≡ texts_once kind directory files words
  unfolding texts_once
  texts-once-same words same =
      ap (λ paths. texts_at disk (each_once paths)) same.openings_same
      ∙ texts-same files disk has (each_once (openings kind directory files words)) (found-once files disk has (openings kind directory files words) same.found)

  asked-same : (k : ExpansionKind) (words : List (List ℕ)) → expand k directory disk words ≡ expand k directory files words → words_asked k directory disk words ≡ words_asked k directory files words
  asked-same kinds.Gnu words e = e
  asked-same kinds.Msvc words e = refl
  asked-same kinds.Diab words e = e

  wanted-same : (words : List (List ℕ)) → IsAlike [] words → HasNone disk (wanted kind directory files words) → wanted kind directory disk words ≡ wanted kind directory files words
  unfolding wanted
  wanted-same words same n =
      ap (lacked kind directory disk) (asked-same kind words same.words_same)
      ∙ lacked-same (words_asked kind directory files words) (by-words (words_asked kind directory files words) n)

  pub expanded-same : (words : List (List ℕ)) (ats : List (Option ℕ)) → HasNone disk (wanted kind directory files words) → IsAlike [] words → Each (λ word. IsAlike [] (word ∷ [])) words
      → expanded_by kind directory disk words ats ≡ expanded_by kind directory files words ats
  expanded-same words ats n all each =
      rw (all.words_same, ats-same words ats each, texts-once-same words all, wanted-same words all n) refl
