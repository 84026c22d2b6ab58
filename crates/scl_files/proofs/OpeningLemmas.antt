-- The recursion of the openings of an expansion, with no limit on its depth; and words that name no file.
use Rattle.std.proofs.Common.{◌≡◌, ℕ, zero, suc, ◌≤◌, Bool, false, List, [], ◌∷◌, ◌++◌, length, Option, None, Some, is_some, refl, sym, ap, ◌∙◌, arith}
use Rattle.std.specs.List.{flat_map, list_any}
use Rattle.scl_files.specs.Views.{File}
use Rattle.scl_files.specs.ResponseFiles.{file_name_in, files_inside}
use Rattle.scl_files.specs.Expand.{OpenFile, opened}
use Rattle.scl_files.specs.Openings.{opening, openings_within, openings}
use Rattle.scl_files.specs.declared.expand.ExpansionKind.{ExpansionKind}
use Rattle.scl_files.proofs.OpenLemmas.{opened-none, opened-less, opened-no_name}
use Rattle.scl_files.proofs.ExpandLemmas.{no_files, flat_map-same}

opening-same : (f g : OpenFile → List (List ℕ)) (o : Option OpenFile) → ((file : OpenFile) → o ≡ Some file → f file ≡ g file) → opening f o ≡ opening g o
opening-same f g None h = refl
opening-same f g (Some file) h = ap (λ ps. file.path ∷ ps) (h file refl)

flat_map-none : (f : List ℕ → List (List ℕ)) (words : List (List ℕ)) → ((word : List ℕ) → f word ≡ []) → flat_map f words ≡ []
flat_map-none f [] h = refl
flat_map-none f (w ∷ ws) h = rw (h w, flat_map-none f ws h) refl

within-no_files : (n : ℕ) (kind : ExpansionKind) (directory : List ℕ) (words : List (List ℕ)) → openings_within n kind directory [] words ≡ []
within-no_files zero kind directory words = refl
within-no_files (suc n) kind directory words = flat_map-none _ words (λ word. rw (opened-none kind directory word) refl)

within-stable : (n m : ℕ) (kind : ExpansionKind) (directory : List ℕ) (files : List File) (words : List (List ℕ)) → length files ≤ n → length files ≤ m → openings_within n kind directory files words ≡ openings_within m kind directory files words
within-stable zero m kind directory files words h k = rw (no_files files h) (sym (within-no_files m kind directory words))
within-stable (suc n) zero kind directory files words h k = rw (no_files files k) (within-no_files (suc n) kind directory words)
within-stable (suc n) (suc m) kind directory files words h k =
    flat_map-same _ _ words (λ word. opening-same _ _ (opened kind directory files word)
    (λ file e. let less = opened-less kind directory files word file e in within-stable n m kind directory (files_inside kind file.path files) file.words (omega (arith, less)) (omega (arith, less))))

-- a word opens its file and what its words open, and then the others follow
pub openings-cons : (kind : ExpansionKind) (directory : List ℕ) (files : List File) (word : List ℕ) (words : List (List ℕ))
    → openings kind directory files (word ∷ words) ≡ opening (λ file. openings kind directory (files_inside kind file.path files) file.words) (opened kind directory files word) ++ openings kind directory files words
unfolding openings
openings-cons kind directory files word words =
    elim files as (λ fs. openings_within (length fs) kind directory fs (word ∷ words) ≡ opening (λ file. openings_within (length (files_inside kind file.path fs)) kind directory (files_inside kind file.path fs) file.words) (opened kind directory fs word) ++ openings_within (length fs) kind directory fs words) [
      | [] ↦ rw (opened-none kind directory word) refl
      | f ∷ fs ↦ ap (λ ps. ps ++ openings_within (length (f ∷ fs)) kind directory (f ∷ fs) words)
          (opening-same _ _ (opened kind directory (f ∷ fs) word)
          (λ file e. let less = opened-less kind directory (f ∷ fs) word file e in within-stable (length fs) _ kind directory (files_inside kind file.path (f ∷ fs)) file.words (omega (arith, less)) (omega arith)))
    ]

pub openings-nil : (kind : ExpansionKind) (directory : List ℕ) (files : List File) → openings kind directory files [] ≡ []
unfolding openings
openings-nil kind directory [] = refl
openings-nil kind directory (f ∷ fs) = refl
