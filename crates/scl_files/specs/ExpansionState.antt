-- What is left of an expansion that has begun.
use Rattle.std.specs.Prelude.{◌≡◌, ℕ, zero, suc, ◌+◌, ◌<◌, List, [], ◌∷◌, ◌++◌, length, Bool, Option, None, Some, Vec}
use Rattle.std.specs.declared.alloc.Global.{Global}
use Rattle.std.specs.List.{list_any}
use Rattle.std.specs.Vec.Iter.{into_iter_items}
use Rattle.scl_files.specs.Views.{File}
use Rattle.scl_values.specs.Words.{words_of}
use Rattle.scl_files.specs.ResponseFiles.{hides, files_inside}
use Rattle.scl_files.specs.Expand.{OpenFile, opened, in_place, expand}
use Rattle.scl_files.specs.Openings.{opening, openings}
use Rattle.scl_files.specs.declared.expand.ExpansionKind.{ExpansionKind}
use Rattle.scl_files.specs.declared.expansion.WordsLeft.{WordsLeft}
use Rattle.scl_files.specs.declared.expansion.Expansion.{Expansion}
use Rattle.scl_files.specs.declared.expansion.Step.{Step}
use Rattle.scl_files.specs.declared.expansion.Step.TheVariants as step

abbrev pub words_left : WordsLeft → List (List ℕ)
words_left w = words_of (into_iter_items w.words)

-- a file that a word opens, as the definitions see it
abbrev pub opens : (Vec ℕ Global × WordsLeft) → OpenFile
opens file = record { path = file.0.items; words = words_left file.1 }

-- the open files, the last opened first: that one has these words left, each other has those left around the next
abbrev pub open_files : List (List ℕ) → List (List ℕ × WordsLeft) → List OpenFile
open_files inner [] = []
open_files inner (file ∷ files) = record { path = file.0; words = inner } ∷ open_files (words_left file.1) files

-- while these files are open, no word opens one at the path
abbrev pub is_shut : ExpansionKind → List ℕ → List OpenFile → Bool
is_shut kind path open_files = list_any (λ open_file. hides kind open_file.path path) open_files

-- the files that a word may open while these are open
abbrev pub closed : ExpansionKind → List File → List OpenFile → List File
closed kind files [] = files
closed kind files (open_file ∷ open_files) = files_inside kind open_file.path (closed kind files open_files)

-- what is left of the open files
abbrev pub left_open : ExpansionKind → List ℕ → List File → List OpenFile → List (List ℕ)
left_open kind directory files [] = []
left_open kind directory files (open_file ∷ open_files) = expand kind directory (closed kind files (open_file ∷ open_files)) open_file.words ++ left_open kind directory files open_files

abbrev pub left : ExpansionKind → List ℕ → List File → List OpenFile → List (List ℕ) → List (List ℕ)
left kind directory files open_files words = left_open kind directory files open_files ++ expand kind directory files words

-- the paths of the files that are still opened while these are open
abbrev pub openings_open : ExpansionKind → List ℕ → List File → List OpenFile → List (List ℕ)
openings_open kind directory files [] = []
openings_open kind directory files (open_file ∷ open_files) = openings kind directory (closed kind files (open_file ∷ open_files)) open_file.words ++ openings_open kind directory files open_files

abbrev pub openings_left : ExpansionKind → List ℕ → List File → List OpenFile → List (List ℕ) → List (List ℕ)
openings_left kind directory files open_files words = openings_open kind directory files open_files ++ openings kind directory files words

-- the sum of a number for each word
abbrev pub total : (List ℕ → ℕ) → List (List ℕ) → ℕ
total f [] = 0
total f (word ∷ words) = f word + total f words

abbrev pub cost : (OpenFile → ℕ) → Option OpenFile → ℕ
cost inside None = 1
cost inside (Some file) = 2 + inside file

-- the number of steps of the words: one for each word, and one to close each file
abbrev pub steps_within : ℕ → ExpansionKind → List ℕ → List File → List (List ℕ) → ℕ
steps_within zero kind directory files words = length words
steps_within (suc n) kind directory files words =
    total (λ word. cost (λ file. steps_within n kind directory (files_inside kind file.path files) file.words) (opened kind directory files word)) words

unfoldable pub steps : ExpansionKind → List ℕ → List File → List (List ℕ) → ℕ
steps kind directory files words = steps_within (length files) kind directory files words

abbrev pub steps_open : ExpansionKind → List ℕ → List File → List OpenFile → ℕ
steps_open kind directory files [] = 0
steps_open kind directory files (open_file ∷ open_files) = 1 + steps kind directory (closed kind files (open_file ∷ open_files)) open_file.words + steps_open kind directory files open_files

abbrev pub steps_left : ExpansionKind → List ℕ → List File → List OpenFile → List (List ℕ) → ℕ
steps_left kind directory files open_files words = steps_open kind directory files open_files + steps kind directory files words

abbrev pub open_files_of : Expansion → List OpenFile
open_files_of e = open_files (words_left e.inner) e.open_files

abbrev pub left_of : Expansion → List (List ℕ)
left_of e = left e.kind e.directory.now e.view.now.files (open_files_of e) (words_of e.words.now)

abbrev pub openings_of : Expansion → List (List ℕ)
openings_of e = openings_left e.kind e.directory.now e.view.now.files (open_files_of e) (words_of e.words.now)

abbrev pub steps_of : Expansion → ℕ
steps_of e = steps_left e.kind e.directory.now e.view.now.files (open_files_of e) (words_of e.words.now)

abbrev pub closed_of : Expansion → List File
closed_of e = closed e.kind e.view.now.files (open_files_of e)

-- what was left before this word was taken
abbrev pub left_before : Expansion → List ℕ → List (List ℕ)
left_before e word = in_place word (λ file. expand e.kind e.directory.now (files_inside e.kind file.path (closed_of e)) file.words) (opened e.kind e.directory.now (closed_of e) word) ++ left_of e

abbrev pub openings_before : Expansion → List ℕ → List (List ℕ)
openings_before e word = opening (λ file. openings e.kind e.directory.now (files_inside e.kind file.path (closed_of e)) file.words) (opened e.kind e.directory.now (closed_of e) word) ++ openings_of e

abbrev pub steps_before : Expansion → List ℕ → ℕ
steps_before e word = cost (λ file. steps e.kind e.directory.now (files_inside e.kind file.path (closed_of e)) file.words) (opened e.kind e.directory.now (closed_of e) word) + steps_of e

-- a step gave the first of these words, or opened the first of these files, or came nearer to either, or reached the end of
-- both
abbrev pub StepsFrom : List (List ℕ) → List (List ℕ) → ℕ → Step → Expansion → Type 0
StepsFrom words paths n (step.Word w) t = (words ≡ w.items ∷ left_of t) × (paths ≡ openings_of t) × (steps_of t < n)
StepsFrom words paths n (step.Opened path) t = (words ≡ left_of t) × (paths ≡ path.items ∷ openings_of t) × (steps_of t < n)
StepsFrom words paths n step.Closed t = (words ≡ left_of t) × (paths ≡ openings_of t) × (steps_of t < n)
StepsFrom words paths n step.End t = (words ≡ []) × (paths ≡ [])

abbrev pub Steps : Expansion → Step → Expansion → Type 0
Steps s r t = StepsFrom (left_of s) (openings_of s) (steps_of s) r t
