-- Files that stay while one is open.
use Rattle.std.proofs.Common.{◌≡◌, ℕ, suc, ◌<◌, ◌≤◌, Bool, true, false, cond, not, List, [], ◌∷◌, length, Option, None, Some, refl, sym, ◌∙◌, arith}
use Rattle.std.proofs.lemmas.Bool.{false≢true}
use Rattle.scl_files.specs.Paths.{same_path}
use Rattle.scl_files.specs.Views.{File, bytes_at}
use Rattle.scl_files.specs.ResponseFiles.{hides, files_inside}
use Rattle.scl_files.proofs.SamePath.{same_path-left, same_path-right, same_path-same}
use Rattle.scl_files.specs.declared.expand.ExpansionKind.{ExpansionKind}
use Rattle.scl_files.specs.declared.expand.ExpansionKind.TheVariants as kinds

-- ---- which paths an open file hides

hides-at : (kind : ExpansionKind) (path other : List ℕ) → same_path path other ≡ true → hides kind path other ≡ true
hides-at kinds.Gnu path other h = h
hides-at kinds.Msvc path other h = refl
hides-at kinds.Diab path other h = h

hides-alike : (kind : ExpansionKind) (path a b : List ℕ) → same_path a b ≡ true → hides kind path a ≡ hides kind path b
hides-alike kinds.Gnu path a b h = same_path-right path a b h
hides-alike kinds.Msvc path a b h = refl
hides-alike kinds.Diab path a b h = same_path-right path a b h

not_here : (kind : ExpansionKind) (path other : List ℕ) → hides kind path other ≡ false → same_path other path ≡ false
not_here kind path other e =
    elim (same_path other path) as (λ b. same_path other path ≡ b → b ≡ false) [
      | true ↦ λ h. absurd (false≢true (sym e ∙ hides-at kind path other (same_path-left other path other h ∙ same_path-same other)))
      | false ↦ λ _. refl
    ] refl

apart_from : (kind : ExpansionKind) (path a b : List ℕ) → hides kind path a ≡ false → hides kind path b ≡ true → same_path a b ≡ false
apart_from kind path a b e h =
    elim (same_path a b) as (λ s. same_path a b ≡ s → s ≡ false) [
      | true ↦ λ k. absurd (false≢true (sym e ∙ hides-alike kind path a b k ∙ h))
      | false ↦ λ _. refl
    ] refl

-- ---- the files inside it

pub inside_msvc : (path : List ℕ) (files : List File) → files_inside kinds.Msvc path files ≡ []
inside_msvc path [] = refl
inside_msvc path (file ∷ files) = inside_msvc path files

inside-fewer : (kind : ExpansionKind) (path : List ℕ) (files : List File) → length (files_inside kind path files) ≤ length files
inside-fewer kind path [] = omega arith
inside-fewer kind path (file ∷ files) =
    elim (hides kind path file.path) as (λ b. length (cond (not b) (file ∷ files_inside kind path files) (files_inside kind path files)) ≤ suc (length files)) [
      | true ↦ omega (arith, inside-fewer kind path files)
      | false ↦ omega (arith, inside-fewer kind path files)
    ]

pub inside-less : (kind : ExpansionKind) (path : List ℕ) (files : List File) (bytes : List ℕ) → bytes_at path files ≡ Some bytes → length (files_inside kind path files) < length files
inside-less kind path [] bytes h = absurd (cc)
inside-less kind path (file ∷ files) bytes h =
    elim (hides kind path file.path) as (λ b. hides kind path file.path ≡ b → length (cond (not b) (file ∷ files_inside kind path files) (files_inside kind path files)) < suc (length files)) [
      | true ↦ λ _. omega (arith, inside-fewer kind path files)
      | false ↦ λ e. omega (arith, inside-less kind path files bytes (rw (not_here kind path file.path e) at h))
    ] refl

hide_none : {X : Type 0} (b : Bool) → cond {A = Option X} b None None ≡ None
hide_none true = refl
hide_none false = refl

skip_hidden : {X : Type 0} (hidden here : Bool) (x y : Option X) → (here ≡ true → hidden ≡ true) → cond hidden None y ≡ cond hidden None (cond here x y)
skip_hidden true here x y h = refl
skip_hidden false true x y h = absurd (false≢true (h refl))
skip_hidden false false x y h = refl

look_past : {X : Type 0} (hidden here : Bool) (x y z : Option X) → z ≡ cond hidden None y → (hidden ≡ true → here ≡ false) → cond here x z ≡ cond hidden None (cond here x y)
look_past true here x y z e h = rw (h refl) e
look_past false here x y z e h = rw e refl

pub bytes_at-inside : (kind : ExpansionKind) (path other : List ℕ) (files : List File) → bytes_at path (files_inside kind other files) ≡ cond (hides kind other path) None (bytes_at path files)
bytes_at-inside kind path other [] = sym (hide_none (hides kind other path))
bytes_at-inside kind path other (file ∷ files) =
    elim (hides kind other file.path) as (λ b. hides kind other file.path ≡ b
    → bytes_at path (cond (not b) (file ∷ files_inside kind other files) (files_inside kind other files)) ≡ cond (hides kind other path) None (cond (same_path file.path path) (Some file.bytes) (bytes_at path files))) [
      | true ↦ λ e. bytes_at-inside kind path other files
          ∙ skip_hidden (hides kind other path) (same_path file.path path) (Some file.bytes) (bytes_at path files) (λ h. sym (hides-alike kind other file.path path h) ∙ e)
      | false ↦ λ e. look_past (hides kind other path) (same_path file.path path) (Some file.bytes) (bytes_at path files) (bytes_at path (files_inside kind other files)) (bytes_at-inside kind path other files)
          (λ h. apart_from kind other file.path path e h)
    ] refl
