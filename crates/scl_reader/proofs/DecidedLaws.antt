-- Where the disk has none of the files that an expansion asks for, all that is said of the expansion is the same; and nothing more is asked by inner lines of its words.
use Rattle.std.proofs.Common.{◌≡◌, ℕ, zero, suc, List, [], ◌∷◌, Option, None, Some, refl, sym, ◌∙◌}
use Rattle.scl_values.specs.Each.{Each}
use Rattle.scl_files.specs.Expand.{OpenFile, expand}
use Rattle.scl_files.specs.Expanded.{expanded_by}
use Rattle.scl_files.specs.Openings.{openings}
use Rattle.scl_files.specs.ResponseFiles.{named}
use Rattle.scl_files.specs.Views.{File, bytes_at}
use Rattle.scl_files.specs.Wanted.{lacked_by, lacked, wanted, HasFiles, HasNone}
use Rattle.scl_files.specs.declared.expand.ExpansionKind.{ExpansionKind}
use Rattle.scl_files.specs.declared.expand.ExpansionKind.TheVariants as kinds
use Rattle.scl_files.proofs.FilesLemmas.{inside_msvc}
use Rattle.scl_files.proofs.OpenLemmas.{opened-no_name}
use Rattle.scl_reader.proofs.ExpandedSameLaws.{each-joined, each-mapped, IsAnswered, IsAlike, by-words, alike-words, expanded-same}
use Rattle.scl_reader.proofs.ReachLaws.{IsSettled, settled, settled-answered, settled-words, alike}

no-openings : (kind : ExpansionKind) (directory : List ℕ) (words : List (List ℕ)) → openings kind directory [] words ≡ []
unfolding openings
no-openings kind directory words = refl

module _ (directory : List ℕ) (files disk : List File) (has : HasFiles disk files) where
  -- ---- texts of GNU and Diab

  abbrev pub IsGnuSettled : List ℕ → Type 0
  IsGnuSettled = IsSettled kinds.Gnu (λ path other. refl) directory files disk has

  -- the empty word names no file
  pub nothing-settled : IsGnuSettled []
  unfolding named
  nothing-settled zero = tt
  nothing-settled (suc n) = (tt, λ file e. absurd (let no : None ≡ Some file = sym (opened-no_name kinds.Gnu directory files [] refl) ∙ e in cc))

  pub gnu-settled : (words : List (List ℕ)) → HasNone disk (wanted kinds.Gnu directory files words) → Each IsGnuSettled words
  unfolding wanted
  gnu-settled words n = settled kinds.Gnu (λ path other. refl) directory files disk has words n

  none-lacked : (words : List (List ℕ)) → Each (IsAnswered kinds.Gnu directory files disk has) words → HasNone disk (lacked kinds.Gnu directory files words)
  none-lacked [] a = tt
  none-lacked (word ∷ words) a = each-joined (λ path. bytes_at path disk ≡ None) (lacked_by kinds.Gnu directory files word) (lacked kinds.Gnu directory files words) a.0 (none-lacked words a.1)

  -- settled words ask for no file of the disk
  pub settled-wanted : (words : List (List ℕ)) → Each IsGnuSettled words → HasNone disk (wanted kinds.Gnu directory files words)
  unfolding wanted
  settled-wanted words s =
      none-lacked (expand kinds.Gnu directory files words)
      (each-mapped IsGnuSettled (IsAnswered kinds.Gnu directory files disk has) (expand kinds.Gnu directory files words) (settled-answered kinds.Gnu (λ path other. refl) directory files disk has)
      (settled-words kinds.Gnu (λ path other. refl) directory files disk has words s))

  pub gnu-expanded : (words : List (List ℕ)) → Each IsGnuSettled words → Each IsGnuSettled (expand kinds.Gnu directory files words)
  gnu-expanded words s = settled-words kinds.Gnu (λ path other. refl) directory files disk has words s

  gnu-same : (words : List (List ℕ)) (ats : List (Option ℕ)) → HasNone disk (wanted kinds.Gnu directory files words) → expanded_by kinds.Gnu directory disk words ats ≡ expanded_by kinds.Gnu directory files words ats
  gnu-same words ats n =
      let alone = alike kinds.Gnu (λ path other. refl) directory files disk has in
      let s : Each IsGnuSettled words = gnu-settled words n in
      expanded-same kinds.Gnu directory files disk has words ats n (alone words s)
      (each-mapped IsGnuSettled (λ word. IsAlike kinds.Gnu directory files disk has [] (word ∷ [])) words (λ word t. alone (word ∷ []) (t, tt)) s)

  abbrev IsDiabSettled : List ℕ → Type 0
  IsDiabSettled = IsSettled kinds.Diab (λ path other. refl) directory files disk has

  diab-settled : (words : List (List ℕ)) → HasNone disk (wanted kinds.Diab directory files words) → Each IsDiabSettled words
  unfolding wanted
  diab-settled words n = settled kinds.Diab (λ path other. refl) directory files disk has words n

  diab-same : (words : List (List ℕ)) (ats : List (Option ℕ)) → HasNone disk (wanted kinds.Diab directory files words) → expanded_by kinds.Diab directory disk words ats ≡ expanded_by kinds.Diab directory files words ats
  diab-same words ats n =
      let alone = alike kinds.Diab (λ path other. refl) directory files disk has in
      let s : Each IsDiabSettled words = diab-settled words n in
      expanded-same kinds.Diab directory files disk has words ats n (alone words s)
      (each-mapped IsDiabSettled (λ word. IsAlike kinds.Diab directory files disk has [] (word ∷ [])) words (λ word t. alone (word ∷ []) (t, tt)) s)

  -- ---- texts of MSVC, in which no word opens a file

  abbrev IsMsvcAnswered : List ℕ → Type 0
  IsMsvcAnswered = IsAnswered kinds.Msvc directory files disk has

  inside-alike : (file : OpenFile) (words : List (List ℕ)) → IsAlike kinds.Msvc directory files disk has (file ∷ []) words
  inside-alike file words = record {
    words_same = rw (inside_msvc file.path disk, inside_msvc file.path files) refl;
    openings_same = rw (inside_msvc file.path disk, inside_msvc file.path files) refl;
    found = rw (inside_msvc file.path files, no-openings kinds.Msvc directory words) tt;
  }

  msvc-alike : (words : List (List ℕ)) → Each IsMsvcAnswered words → IsAlike kinds.Msvc directory files disk has [] words
  msvc-alike words a = alike-words kinds.Msvc directory files disk has [] words (each-mapped IsMsvcAnswered _ words (λ word t. (t, λ file e. inside-alike file file.words)) a)

  msvc-answered : (words : List (List ℕ)) → HasNone disk (wanted kinds.Msvc directory files words) → Each IsMsvcAnswered words
  unfolding wanted
  msvc-answered words n = by-words kinds.Msvc directory files disk has words n

  msvc-same : (words : List (List ℕ)) (ats : List (Option ℕ)) → HasNone disk (wanted kinds.Msvc directory files words) → expanded_by kinds.Msvc directory disk words ats ≡ expanded_by kinds.Msvc directory files words ats
  msvc-same words ats n =
      let a : Each IsMsvcAnswered words = msvc-answered words n in
      expanded-same kinds.Msvc directory files disk has words ats n (msvc-alike words a)
      (each-mapped IsMsvcAnswered (λ word. IsAlike kinds.Msvc directory files disk has [] (word ∷ [])) words (λ word t. msvc-alike (word ∷ []) (t, tt)) a)

  -- ---- whatever the texts

  pub expanded-decided : (kind : ExpansionKind) (words : List (List ℕ)) (ats : List (Option ℕ)) → HasNone disk (wanted kind directory files words)
      → expanded_by kind directory disk words ats ≡ expanded_by kind directory files words ats
  expanded-decided kinds.Gnu words ats n = gnu-same words ats n
  expanded-decided kinds.Msvc words ats n = msvc-same words ats n
  expanded-decided kinds.Diab words ats n = diab-same words ats n
