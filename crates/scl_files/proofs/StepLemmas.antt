-- The steps of an expansion.
use Rattle.std.proofs.Common.{◌≡◌, ◌≢◌, ℕ, zero, suc, ◌+◌, ◌<◌, ◌≤◌, List, [], ◌∷◌, ◌++◌, length, Option, None, Some, Result, IfOk, refl, sym, ap, append_assoc, arith}
use Rattle.std.specs.declared.alloc.AllocError.{AllocError}
use Rattle.scl_files.specs.Views.{File}
use Rattle.scl_files.specs.ResponseFiles.{files_inside}
use Rattle.scl_files.specs.Expand.{OpenFile, opened, in_place, expand}
use Rattle.scl_files.specs.Openings.{opening, openings}
use Rattle.scl_files.specs.declared.expansion.Step.{Step}
use Rattle.scl_files.specs.declared.expansion.Expansion.{Expansion}
use Rattle.scl_files.specs.declared.expansion.WordsLeft.{WordsLeft}
use Rattle.scl_files.specs.ExpansionState.{StepsFrom, words_left, open_files, closed, left, openings_left, total, cost, steps_within, steps, steps_left}
use Rattle.scl_files.specs.declared.expand.ExpansionKind.{ExpansionKind}
use Rattle.scl_files.proofs.OpenLemmas.{opened-none, opened-less}
use Rattle.scl_files.proofs.ExpandLemmas.{no_files, expand-cons, expand-nil}
use Rattle.scl_files.proofs.OpeningLemmas.{openings-cons, openings-nil}

total-same : (f g : List ℕ → ℕ) (words : List (List ℕ)) → ((word : List ℕ) → f word ≡ g word) → total f words ≡ total g words
total-same f g [] h = refl
total-same f g (w ∷ ws) h = rw (h w, total-same f g ws h) refl

total-length : (f : List ℕ → ℕ) (words : List (List ℕ)) → ((word : List ℕ) → f word ≡ 1) → total f words ≡ length words
total-length f [] h = refl
total-length f (w ∷ ws) h = rw (h w, total-length f ws h) (omega arith)

cost-same : (f g : OpenFile → ℕ) (o : Option OpenFile) → ((file : OpenFile) → o ≡ Some file → f file ≡ g file) → cost f o ≡ cost g o
cost-same f g None h = refl
cost-same f g (Some file) h = ap (λ n. 2 + n) (h file refl)

steps-no_files : (n : ℕ) (kind : ExpansionKind) (directory : List ℕ) (words : List (List ℕ)) → steps_within n kind directory [] words ≡ length words
steps-no_files zero kind directory words = refl
steps-no_files (suc n) kind directory words = total-length _ words (λ word. rw (opened-none kind directory word) refl)

steps-stable : (n m : ℕ) (kind : ExpansionKind) (directory : List ℕ) (files : List File) (words : List (List ℕ)) → length files ≤ n → length files ≤ m → steps_within n kind directory files words ≡ steps_within m kind directory files words
steps-stable zero m kind directory files words h k = rw (no_files files h) (sym (steps-no_files m kind directory words))
steps-stable (suc n) zero kind directory files words h k = rw (no_files files k) (steps-no_files (suc n) kind directory words)
steps-stable (suc n) (suc m) kind directory files words h k =
    total-same _ _ words (λ word. cost-same _ _ (opened kind directory files word)
    (λ file e. let less = opened-less kind directory files word file e in steps-stable n m kind directory (files_inside kind file.path files) file.words (omega (arith, less)) (omega (arith, less))))

pub steps-cons : (kind : ExpansionKind) (directory : List ℕ) (files : List File) (word : List ℕ) (words : List (List ℕ))
    → steps kind directory files (word ∷ words) ≡ cost (λ file. steps kind directory (files_inside kind file.path files) file.words) (opened kind directory files word) + steps kind directory files words
unfolding steps
steps-cons kind directory files word words =
    elim files as (λ fs. steps_within (length fs) kind directory fs (word ∷ words) ≡ cost (λ file. steps_within (length (files_inside kind file.path fs)) kind directory (files_inside kind file.path fs) file.words) (opened kind directory fs word) + steps_within (length fs) kind directory fs words) [
      | [] ↦ rw (opened-none kind directory word) (omega arith)
      | f ∷ fs ↦ ap (λ n. n + steps_within (length (f ∷ fs)) kind directory (f ∷ fs) words)
          (cost-same _ _ (opened kind directory (f ∷ fs) word)
          (λ file e. let less = opened-less kind directory (f ∷ fs) word file e in steps-stable (length fs) _ kind directory (files_inside kind file.path (f ∷ fs)) file.words (omega (arith, less)) (omega arith)))
    ]

-- ---- one step

module _ (kind : ExpansionKind) (directory : List ℕ) (files : List File) where
  abbrev From : List (List ℕ) → List ℕ → List File → List (List ℕ)
  From rest word closed = in_place word (λ file. expand kind directory (files_inside kind file.path closed) file.words) (opened kind directory closed word) ++ rest

  abbrev OpensFrom : List (List ℕ) → List ℕ → List File → List (List ℕ)
  OpensFrom rest word closed = opening (λ file. openings kind directory (files_inside kind file.path closed) file.words) (opened kind directory closed word) ++ rest

  abbrev CostFrom : ℕ → List ℕ → List File → ℕ
  CostFrom rest word closed = cost (λ file. steps kind directory (files_inside kind file.path closed) file.words) (opened kind directory closed word) + rest

  pub left-first : (words : List (List ℕ)) (word : List ℕ) → left kind directory files [] (word ∷ words) ≡ From (left kind directory files [] words) word files
  left-first words word = expand-cons kind directory files word words

  pub openings-first : (words : List (List ℕ)) (word : List ℕ) → openings_left kind directory files [] (word ∷ words) ≡ OpensFrom (openings_left kind directory files [] words) word files
  openings-first words word = openings-cons kind directory files word words

  pub steps-first : (words : List (List ℕ)) (word : List ℕ) → steps_left kind directory files [] (word ∷ words) ≡ CostFrom (steps_left kind directory files [] words) word files
  steps-first words word = let e = steps-cons kind directory files word words in omega arith

  -- the file opened last has this word and others left
  pub left-next : (open_files : List OpenFile) (words : List (List ℕ)) (path : List ℕ) (word : List ℕ) (others : List (List ℕ))
      → left kind directory files (record { path = path; words = word ∷ others } ∷ open_files) words
      ≡ From (left kind directory files (record { path = path; words = others } ∷ open_files) words) word (files_inside kind path (closed kind files open_files))
  left-next open_files words path word others =
      rw (expand-cons kind directory (files_inside kind path (closed kind files open_files)) word others) (simp append_assoc)

  pub openings-next : (open_files : List OpenFile) (words : List (List ℕ)) (path : List ℕ) (word : List ℕ) (others : List (List ℕ))
      → openings_left kind directory files (record { path = path; words = word ∷ others } ∷ open_files) words
      ≡ OpensFrom (openings_left kind directory files (record { path = path; words = others } ∷ open_files) words) word (files_inside kind path (closed kind files open_files))
  openings-next open_files words path word others =
      rw (openings-cons kind directory (files_inside kind path (closed kind files open_files)) word others) (simp append_assoc)

  pub steps-next : (open_files : List OpenFile) (words : List (List ℕ)) (path : List ℕ) (word : List ℕ) (others : List (List ℕ))
      → steps_left kind directory files (record { path = path; words = word ∷ others } ∷ open_files) words
      ≡ CostFrom (steps_left kind directory files (record { path = path; words = others } ∷ open_files) words) word (files_inside kind path (closed kind files open_files))
  steps-next open_files words path word others =
      rw (steps-cons kind directory (files_inside kind path (closed kind files open_files)) word others) (omega arith)

  -- the file opened last has no word left
  pub left-close : (open_files : List OpenFile) (words : List (List ℕ)) (path : List ℕ)
      → left kind directory files (record { path = path; words = [] } ∷ open_files) words ≡ left kind directory files open_files words
  left-close open_files words path = rw (expand-nil kind directory (files_inside kind path (closed kind files open_files))) refl

  pub openings-close : (open_files : List OpenFile) (words : List (List ℕ)) (path : List ℕ)
      → openings_left kind directory files (record { path = path; words = [] } ∷ open_files) words ≡ openings_left kind directory files open_files words
  openings-close open_files words path = rw (openings-nil kind directory (files_inside kind path (closed kind files open_files))) refl

  pub steps-close : (open_files : List OpenFile) (words : List (List ℕ)) (path : List ℕ)
      → steps_left kind directory files open_files words < steps_left kind directory files (record { path = path; words = [] } ∷ open_files) words
  steps-close open_files words path = omega arith

  -- the file opened last, whichever it is, has this word and others left
  pub left-inner : (those : List (List ℕ × WordsLeft)) (words : List (List ℕ)) (word : List ℕ) (others : List (List ℕ)) → those ≢ []
      → left kind directory files (open_files (word ∷ others) those) words ≡ From (left kind directory files (open_files others those) words) word (closed kind files (open_files others those))
  left-inner [] words word others h = absurd (h refl)
  left-inner (file ∷ those) words word others h = left-next (open_files (words_left file.1) those) words file.0 word others

  pub openings-inner : (those : List (List ℕ × WordsLeft)) (words : List (List ℕ)) (word : List ℕ) (others : List (List ℕ)) → those ≢ []
      → openings_left kind directory files (open_files (word ∷ others) those) words ≡ OpensFrom (openings_left kind directory files (open_files others those) words) word (closed kind files (open_files others those))
  openings-inner [] words word others h = absurd (h refl)
  openings-inner (file ∷ those) words word others h = openings-next (open_files (words_left file.1) those) words file.0 word others

  pub steps-inner : (those : List (List ℕ × WordsLeft)) (words : List (List ℕ)) (word : List ℕ) (others : List (List ℕ)) → those ≢ []
      → steps_left kind directory files (open_files (word ∷ others) those) words ≡ CostFrom (steps_left kind directory files (open_files others those) words) word (closed kind files (open_files others those))
  steps-inner [] words word others h = absurd (h refl)
  steps-inner (file ∷ those) words word others h = steps-next (open_files (words_left file.1) those) words file.0 word others

pub steps_by : (a b p q : List (List ℕ)) (n m : ℕ) (r : Result Step AllocError) (t : Expansion) → a ≡ b → p ≡ q → n ≡ m → IfOk r (λ step. StepsFrom b q m step t) → IfOk r (λ step. StepsFrom a p n step t)
steps_by a b p q n m r t e o f h = rw (e, o, f) h
