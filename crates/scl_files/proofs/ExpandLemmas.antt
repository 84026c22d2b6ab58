-- The recursion of an expansion, with no limit on its depth.
use Rattle.std.proofs.Common.{◌≡◌, ℕ, zero, suc, ◌≤◌, List, [], ◌∷◌, ◌++◌, length, Option, None, Some, refl, sym, ap, arith}
use Rattle.std.specs.List.{flat_map}
use Rattle.scl_files.specs.Views.{File}
use Rattle.scl_files.specs.ResponseFiles.{files_inside}
use Rattle.scl_files.specs.Expand.{OpenFile, opened, in_place, expand_within, expand}
use Rattle.scl_files.specs.declared.expand.ExpansionKind.{ExpansionKind}
use Rattle.scl_files.proofs.OpenLemmas.{opened-none, opened-less}

pub no_files : (files : List File) → length files ≤ 0 → files ≡ []
no_files [] h = refl
no_files (f ∷ fs) h = absurd (omega arith)

pub flat_map-same : (f g : List ℕ → List (List ℕ)) (words : List (List ℕ)) → ((word : List ℕ) → f word ≡ g word) → flat_map f words ≡ flat_map g words
flat_map-same f g [] h = refl
flat_map-same f g (w ∷ ws) h = rw (h w, flat_map-same f g ws h) refl

flat_map-self : (f : List ℕ → List (List ℕ)) (words : List (List ℕ)) → ((word : List ℕ) → f word ≡ word ∷ []) → flat_map f words ≡ words
flat_map-self f [] h = refl
flat_map-self f (w ∷ ws) h = rw (h w, flat_map-self f ws h) refl

pub in_place-same : (word : List ℕ) (f g : OpenFile → List (List ℕ)) (o : Option OpenFile) → ((file : OpenFile) → o ≡ Some file → f file ≡ g file) → in_place word f o ≡ in_place word g o
in_place-same word f g None h = refl
in_place-same word f g (Some file) h = h file refl

within-no_files : (n : ℕ) (kind : ExpansionKind) (directory : List ℕ) (words : List (List ℕ)) → expand_within n kind directory [] words ≡ words
within-no_files zero kind directory words = refl
within-no_files (suc n) kind directory words = flat_map-self _ words (λ word. rw (opened-none kind directory word) refl)

within-stable : (n m : ℕ) (kind : ExpansionKind) (directory : List ℕ) (files : List File) (words : List (List ℕ)) → length files ≤ n → length files ≤ m → expand_within n kind directory files words ≡ expand_within m kind directory files words
within-stable zero m kind directory files words h k = rw (no_files files h) (sym (within-no_files m kind directory words))
within-stable (suc n) zero kind directory files words h k = rw (no_files files k) (within-no_files (suc n) kind directory words)
within-stable (suc n) (suc m) kind directory files words h k =
    flat_map-same _ _ words (λ word. in_place-same word _ _ (opened kind directory files word)
    (λ file e. let less = opened-less kind directory files word file e in within-stable n m kind directory (files_inside kind file.path files) file.words (omega (arith, less)) (omega (arith, less))))

-- a word gives itself or what is in its file, and then the others follow
pub expand-cons : (kind : ExpansionKind) (directory : List ℕ) (files : List File) (word : List ℕ) (words : List (List ℕ))
    → expand kind directory files (word ∷ words) ≡ in_place word (λ file. expand kind directory (files_inside kind file.path files) file.words) (opened kind directory files word) ++ expand kind directory files words
unfolding expand
expand-cons kind directory files word words =
    elim files as (λ fs. expand_within (length fs) kind directory fs (word ∷ words) ≡ in_place word (λ file. expand_within (length (files_inside kind file.path fs)) kind directory (files_inside kind file.path fs) file.words) (opened kind directory fs word) ++ expand_within (length fs) kind directory fs words) [
      | [] ↦ rw (opened-none kind directory word) refl
      | f ∷ fs ↦ ap (λ ws. ws ++ expand_within (length (f ∷ fs)) kind directory (f ∷ fs) words)
          (in_place-same word _ _ (opened kind directory (f ∷ fs) word)
          (λ file e. let less = opened-less kind directory (f ∷ fs) word file e in within-stable (length fs) _ kind directory (files_inside kind file.path (f ∷ fs)) file.words (omega (arith, less)) (omega arith)))
    ]

pub expand-nil : (kind : ExpansionKind) (directory : List ℕ) (files : List File) → expand kind directory files [] ≡ []
unfolding expand
expand-nil kind directory [] = refl
expand-nil kind directory (f ∷ fs) = refl

pub expand-no_files : (kind : ExpansionKind) (directory : List ℕ) (words : List (List ℕ)) → expand kind directory [] words ≡ words
unfolding expand
expand-no_files kind directory words = refl
