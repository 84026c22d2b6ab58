-- Where the disk has no file that an expansion asks for in vain, it has none that is asked for by any word that is reached: so it answers an inner line of those words too.
use Rattle.std.proofs.Common.{◌≡◌, ℕ, zero, suc, ◌<◌, ◌≤◌, true, false, ◌||◌, List, [], ◌∷◌, ◌++◌, length, Option, None, Some, refl, sym, ap, subst, ◌∙◌, arith}
use Rattle.std.specs.Option.{option_and_then}
use Rattle.scl_values.specs.Each.{Each}
use Rattle.scl_files.specs.Expand.{OpenFile, opened, in_place, expand}
use Rattle.scl_files.specs.ExpansionState.{is_shut, closed}
use Rattle.scl_files.specs.Paths.{same_path}
use Rattle.scl_files.specs.ResponseFiles.{arguments, hides}
use Rattle.scl_files.specs.Views.{File, bytes_at}
use Rattle.scl_files.specs.Wanted.{lacked, HasFiles, HasNone}
use Rattle.scl_files.specs.declared.expand.ExpansionKind.{ExpansionKind}
use Rattle.scl_files.proofs.ExpandLemmas.{expand-cons, expand-nil}
use Rattle.scl_files.proofs.OpenLemmas.{opened-less}
use Rattle.scl_files.proofs.SamePath.{same_path-right}
use Rattle.scl_reader.proofs.ExpandedSameLaws.{each-front, each-back, each-joined, each-mapped, IsAnswered, IsAlike, IsOpened, by-words, is-opened, opened-alone, alike-words}

bytes-alike : (files : List File) (a b : List ℕ) → same_path a b ≡ true → bytes_at a files ≡ bytes_at b files
bytes-alike [] a b h = refl
bytes-alike (file ∷ files) a b h = rw (same_path-right file.path a b h, bytes-alike files a b h) refl

words-alike : (a b : Option (List (List ℕ))) (xs ys : List (List ℕ)) → a ≡ b → a ≡ Some xs → b ≡ Some ys → xs ≡ ys
words-alike a b xs ys e f g = let both : Some xs ≡ Some ys = sym f ∙ e ∙ g in cc

module _ (kind : ExpansionKind) (compares : (path other : List ℕ) → hides kind path other ≡ same_path path other) (directory : List ℕ) (files disk : List File) (has : HasFiles disk files) where
  abbrev Answered : List ℕ → Type 0
  Answered = IsAnswered kind directory files disk has

  -- the disk has no file that the word asks for in vain, nor one that a word of a file does that it leads to by one step less
  abbrev Good : ℕ → List ℕ → Type 0
  Good zero word = Unit {0}
  Good (suc n) word = Answered word × ((file : OpenFile) → opened kind directory files word ≡ Some file → Each (Good n) file.words)

  good-less : (n : ℕ) (word : List ℕ) → Good (suc n) word → Good n word
  good-less zero word g = tt
  good-less (suc n) word g = (g.0, λ file e. each-mapped (Good (suc n)) (Good n) file.words (good-less n) (g.1 file e))

  -- so are the words of each of the open files
  abbrev AreHeld : ℕ → List OpenFile → Type 0
  AreHeld n around = (word : List ℕ) (file : OpenFile) → opened kind directory files word ≡ Some file → is_shut kind file.path around ≡ true → Each (Good n) file.words

  held-less : (n : ℕ) (around : List OpenFile) → AreHeld (suc n) around → AreHeld n around
  held-less n around h word file e shut = each-mapped (Good (suc n)) (Good n) file.words (good-less n) (h word file e shut)

  abbrev expanded : List OpenFile → List (List ℕ) → List (List ℕ)
  expanded around words = expand kind directory (closed kind files around) words

  -- the words are so, where their expansion is answered while these files are open
  abbrev AreReached : ℕ → Type 0
  AreReached n = (around : List OpenFile) (words : List (List ℕ)) → Each Answered (expanded around words) → AreHeld n around → Each (Good (suc n)) words

  none-good : (words : List (List ℕ)) → Each (Good 0) words
  none-good [] = tt
  none-good (word ∷ words) = (tt, none-good words)

  same-words : (word other : List ℕ) (file open_file : OpenFile) → opened kind directory files word ≡ Some file → opened kind directory files other ≡ Some open_file → hides kind open_file.path file.path ≡ true → open_file.words ≡ file.words
  same-words word other file open_file e f h =
      let is : IsOpened kind directory files disk has word file = is-opened kind directory files disk has word file e in
      let was : IsOpened kind directory files disk has other open_file = is-opened kind directory files disk has other open_file f in
      words-alike (option_and_then (arguments kind) (bytes_at open_file.path files)) (option_and_then (arguments kind) (bytes_at file.path files)) open_file.words file.words
      (ap (option_and_then (arguments kind)) (bytes-alike files open_file.path file.path (sym (compares open_file.path file.path) ∙ h))) was.words is.words

  -- one more file is open
  held-more : (m : ℕ) (around : List OpenFile) (other : List ℕ) (open_file : OpenFile) → opened kind directory files other ≡ Some open_file → Each (Good m) open_file.words → AreHeld m around → AreHeld m (open_file ∷ around)
  held-more m around other open_file f good h word file e shut =
      elim (hides kind open_file.path file.path) as (λ b. hides kind open_file.path file.path ≡ b → (b || is_shut kind file.path around) ≡ true → Each (Good m) file.words) [
        | true ↦ λ k _. subst (Each (Good m)) (same-words word other file open_file e f k) good
        | false ↦ λ _ k. h word file e k
      ] refl shut

  module _ (n : ℕ) (below : (m : ℕ) → m < n → AreReached m) where
    -- the words of a file that is opened
    inside : (around : List OpenFile) (word : List ℕ) (file : OpenFile) → opened kind directory files word ≡ Some file → Each Answered (expanded (file ∷ around) file.words)
        → (m : ℕ) → m ≤ n → AreHeld m around → Each (Good m) file.words
    inside around word file e a zero le h = none-good file.words
    inside around word file e a (suc m) le h =
        let less : AreHeld m around = held-less m around h in
        below m (omega (arith, le)) (file ∷ around) file.words a (held-more m around word file e (inside around word file e a m (omega (arith, le)) less) less)

    one-word : (around : List OpenFile) (word : List ℕ) (o : Option OpenFile) → opened kind directory (closed kind files around) word ≡ o
        → Each Answered (in_place word (λ file. expanded (file ∷ around) file.words) o) → AreHeld n around → Good (suc n) word
    one-word around word None none a h = (
      a.0,
      λ file e.
          elim (is_shut kind file.path around) as (λ b. is_shut kind file.path around ≡ b → Each (Good n) file.words) [
            | true ↦ λ k. h word file e k
            | false ↦ λ k.
                let is : IsOpened kind directory files disk has word file = is-opened kind directory files disk has word file e in
                absurd (let no : None ≡ Some file = sym none ∙ is.anywhere around k in cc)
          ] refl,
    )
    one-word around word (Some file) some a h =
        let e : opened kind directory files word ≡ Some file = opened-alone kind directory files disk has around word file some in
        let is : IsOpened kind directory files disk has word file = is-opened kind directory files disk has word file e in
        let good : Each (Good n) file.words = inside around word file e a n (omega arith) h in
        (is.answered, λ other f. let both : Some file ≡ Some other = sym e ∙ f in subst (λ (w : OpenFile). Each (Good n) w.words) (let same : file ≡ other = cc in same) good)

    all-words : AreReached n
    all-words around [] a h = tt
    all-words around (word ∷ words) a h =
        let o = opened kind directory (closed kind files around) word in
        let here : List (List ℕ) = in_place word (λ file. expanded (file ∷ around) file.words) o in
        let split : Each Answered (here ++ expanded around words) = rw (expand-cons kind directory (closed kind files around) word words) at a in
        (one-word around word o refl (each-front Answered here (expanded around words) split) h, all-words around words (each-back Answered here (expanded around words) split) h)

  all-below : (n m : ℕ) → m < n → AreReached m
  all-below zero m less = absurd (omega (arith, less))
  all-below (suc n) m less = all-words m (λ k lesser. all-below n k (omega (arith, less, lesser)))

  -- however many steps
  abbrev pub IsSettled : List ℕ → Type 0
  IsSettled word = (n : ℕ) → Good n word

  each-settled : (words : List (List ℕ)) → ((n : ℕ) → Each (Good n) words) → Each IsSettled words
  each-settled [] h = tt
  each-settled (word ∷ words) h = (λ n. (h n).0, each-settled words (λ n. (h n).1))

  nothing-held : (n : ℕ) → AreHeld n []
  nothing-held n word file e shut = absurd (cc)

  good-words : (words : List (List ℕ)) → Each Answered (expand kind directory files words) → (n : ℕ) → Each (Good n) words
  good-words words a zero = none-good words
  good-words words a (suc n) = all-below (suc n) n (omega arith) [] words a (nothing-held n)

  -- where an expansion asks for nothing in vain, each word is settled
  pub settled : (words : List (List ℕ)) → HasNone disk (lacked kind directory files (expand kind directory files words)) → Each IsSettled words
  settled words n = each-settled words (good-words words (by-words kind directory files disk has (expand kind directory files words) n))

  pub settled-answered : (word : List ℕ) → IsSettled word → Answered word
  settled-answered word s = (s 1).0

  settled-inside : (word : List ℕ) (file : OpenFile) → IsSettled word → opened kind directory files word ≡ Some file → Each IsSettled file.words
  settled-inside word file s e = each-settled file.words (λ n. (s (suc n)).1 file e)

  -- ---- expansions of settled words

  abbrev AreAlike : List OpenFile → Type 0
  AreAlike around = (words : List (List ℕ)) → Each IsSettled words → IsAlike kind directory files disk has around words

  alike-at : (around : List OpenFile) → ((word : List ℕ) (file : OpenFile) → opened kind directory (closed kind files around) word ≡ Some file → AreAlike (file ∷ around)) → AreAlike around
  alike-at around inner words s =
      alike-words kind directory files disk has around words
      (each-mapped IsSettled _ words (λ word t. (
        settled-answered word t,
        λ file e. inner word file e file.words (settled-inside word file t (opened-alone kind directory files disk has around word file e)),
      )) s)

  alike-within : (n : ℕ) (around : List OpenFile) → length (closed kind files around) ≤ n → AreAlike around
  alike-within zero around m = alike-at around (λ word file e. let less = opened-less kind directory (closed kind files around) word file e in absurd (omega (arith, less, m)))
  alike-within (suc n) around m = alike-at around (λ word file e. let less = opened-less kind directory (closed kind files around) word file e in alike-within n (file ∷ around) (omega (arith, less, m)))

  pub alike : (words : List (List ℕ)) → Each IsSettled words → IsAlike kind directory files disk has [] words
  alike words s = alike-within (length files) [] (omega arith) words s

  -- the words of an expansion are settled
  abbrev AreSettled : List OpenFile → Type 0
  AreSettled around = (words : List (List ℕ)) → Each IsSettled words → Each IsSettled (expanded around words)

  settled-place : (around : List OpenFile) (word : List ℕ) (o : Option OpenFile) → opened kind directory (closed kind files around) word ≡ o → IsSettled word
      → ((file : OpenFile) → opened kind directory (closed kind files around) word ≡ Some file → AreSettled (file ∷ around)) → Each IsSettled (in_place word (λ file. expanded (file ∷ around) file.words) o)
  settled-place around word None e s inner = (s, tt)
  settled-place around word (Some file) e s inner = inner file e file.words (settled-inside word file s (opened-alone kind directory files disk has around word file e))

  settled-at : (around : List OpenFile) → ((word : List ℕ) (file : OpenFile) → opened kind directory (closed kind files around) word ≡ Some file → AreSettled (file ∷ around)) → AreSettled around
  settled-at around inner [] s = rw (expand-nil kind directory (closed kind files around)) tt
  settled-at around inner (word ∷ words) s =
      let o = opened kind directory (closed kind files around) word in
      rw (expand-cons kind directory (closed kind files around) word words)
      (each-joined IsSettled (in_place word (λ file. expanded (file ∷ around) file.words) o) (expanded around words) (settled-place around word o refl s.0 (inner word)) (settled-at around inner words s.1))

  settled-within : (n : ℕ) (around : List OpenFile) → length (closed kind files around) ≤ n → AreSettled around
  settled-within zero around m = settled-at around (λ word file e. let less = opened-less kind directory (closed kind files around) word file e in absurd (omega (arith, less, m)))
  settled-within (suc n) around m = settled-at around (λ word file e. let less = opened-less kind directory (closed kind files around) word file e in settled-within n (file ∷ around) (omega (arith, less, m)))

  pub settled-words : (words : List (List ℕ)) → Each IsSettled words → Each IsSettled (expand kind directory files words)
  settled-words words s = settled-within (length files) [] (omega arith) words s
