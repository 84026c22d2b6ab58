-- A view to which something on the disk is added has all that it had, and only what the disk has.
use Rattle.std.proofs.Common.{◌≡◌, ℕ, Bool, true, false, cond, ◌||◌, List, [], ◌∷◌, Some, refl, sym, ap, ◌∙◌}
use Rattle.std.specs.Prelude.{is_some}
use Rattle.scl_files.specs.Paths.{same_path}
use Rattle.scl_files.specs.Views.{File, Viewed, bytes_at, put_file, is_among, is_directory, exists}
use Rattle.scl_files.proofs.SamePath.{same_path-right, same_path-same}
use Rattle.scl_files.proofs.ViewLemmas.{bytes_at-put}
use Rattle.scl_reader.specs.Questions.{Extends}

-- ---- paths with the same components

bytes-alike : (a b : List ℕ) (files : List File) → same_path a b ≡ true → bytes_at a files ≡ bytes_at b files
bytes-alike a b [] e = refl
bytes-alike a b (file ∷ files) e = rw (same_path-right file.path a b e, bytes-alike a b files e) refl

among-alike : (a b : List ℕ) (paths : List (List ℕ)) → same_path a b ≡ true → is_among a paths ≡ is_among b paths
among-alike a b [] e = refl
among-alike a b (path ∷ paths) e = rw (same_path-right path a b e, among-alike a b paths e) refl

exists-alike : (a b : List ℕ) (view : Viewed) → same_path a b ≡ true → exists a view ≡ exists b view
exists-alike a b view e = rw (bytes-alike a b view.files e, among-alike a b view.directories e, among-alike a b view.existing e) refl

file-exists : (path bytes : List ℕ) (view : Viewed) → bytes_at path view.files ≡ Some bytes → exists path view ≡ true
file-exists path bytes view e = rw e refl

or-true : (a b : Bool) → (a || (true || b)) ≡ true
or-true true b = refl
or-true false b = refl

directory-exists : (path : List ℕ) (view : Viewed) → is_directory path view ≡ true → exists path view ≡ true
directory-exists path view e = rw e (or-true (is_some (bytes_at path view.files)) (is_among path view.existing))

-- ---- what is put into the view

module _ (disk before : Viewed) (path : List ℕ) (extends : Extends disk before) where
  abbrev with_file : List ℕ → Viewed
  with_file bytes = record before { files = put_file (record { path = path; bytes = bytes }) before.files }

  abbrev with_directory : Viewed
  with_directory = record before { directories = path ∷ before.directories }

  abbrev with_existing : Viewed
  with_existing = record before { existing = path ∷ before.existing }

  pub extends-file : (bytes : List ℕ) → bytes_at path disk.files ≡ Some bytes → Extends disk (with_file bytes)
  extends-file bytes there = record {
    files = λ other b e.
        elim (same_path path other) as (λ s. same_path path other ≡ s → cond s (Some bytes) (bytes_at other before.files) ≡ Some b → bytes_at other disk.files ≡ Some b) [
          | true ↦ λ k h. sym (bytes-alike path other disk.files k) ∙ there ∙ h
          | false ↦ λ _ h. extends.files other b h
        ] refl (sym (bytes_at-put (record { path = path; bytes = bytes }) other before.files) ∙ e);
    directories = λ other e. extends.directories other e;
    existing = λ other e.
        elim (same_path path other) as (λ s. same_path path other ≡ s
        → (is_some (cond s (Some bytes) (bytes_at other before.files)) || (is_directory other before || is_among other before.existing)) ≡ true → exists other disk ≡ true) [
          | true ↦ λ k _. file-exists other bytes disk (sym (bytes-alike path other disk.files k) ∙ there)
          | false ↦ λ _ h. extends.existing other h
        ] refl (rw (bytes_at-put (record { path = path; bytes = bytes }) other before.files) at e);
    multiarch = extends.multiarch;
  }

  pub extends-directory : is_directory path disk ≡ true → Extends disk with_directory
  extends-directory there = record {
    files = λ other b e. extends.files other b e;
    directories = λ other e.
        elim (same_path path other) as (λ s. same_path path other ≡ s → (s || is_among other before.directories) ≡ true → is_directory other disk ≡ true) [
          | true ↦ λ k _. sym (among-alike path other disk.directories k) ∙ there
          | false ↦ λ _ h. extends.directories other h
        ] refl e;
    existing = λ other e.
        elim (same_path path other) as (λ s. same_path path other ≡ s
        → (is_some (bytes_at other before.files) || ((s || is_among other before.directories) || is_among other before.existing)) ≡ true → exists other disk ≡ true) [
          | true ↦ λ k _. directory-exists other disk (sym (among-alike path other disk.directories k) ∙ there)
          | false ↦ λ _ h. extends.existing other h
        ] refl e;
    multiarch = extends.multiarch;
  }

  pub extends-existing : exists path disk ≡ true → Extends disk with_existing
  extends-existing there = record {
    files = λ other b e. extends.files other b e;
    directories = λ other e. extends.directories other e;
    existing = λ other e.
        elim (same_path path other) as (λ s. same_path path other ≡ s
        → (is_some (bytes_at other before.files) || (is_directory other before || (s || is_among other before.existing))) ≡ true → exists other disk ≡ true) [
          | true ↦ λ k _. sym (exists-alike path other disk k) ∙ there
          | false ↦ λ _ h. extends.existing other h
        ] refl e;
    multiarch = extends.multiarch;
  }

-- the empty view has nothing
pub extends-empty : (disk : Viewed) (multiarch : Bool) → disk.is_multiarch ≡ multiarch → Extends disk (record { files = []; directories = []; existing = []; is_multiarch = multiarch })
extends-empty disk multiarch e = record {
  files = λ other b h. absurd (cc);
  directories = λ other h. absurd (cc);
  existing = λ other h. absurd (cc);
  multiarch = e;
}

-- ---- what the view had

or-true-end : (a b c : Bool) → (a || (b || (true || c))) ≡ true
or-true-end true b c = refl
or-true-end false true c = refl
or-true-end false false c = refl

pub extends-same : (view : Viewed) → Extends view view
extends-same view = record {
  files = λ other b e. e;
  directories = λ other e. e;
  existing = λ other e. e;
  multiarch = refl;
}

pub extends-behind : (last middle first : Viewed) → Extends last middle → Extends middle first → Extends last first
extends-behind last middle first one two = record {
  files = λ other b e. one.files other b (two.files other b e);
  directories = λ other e. one.directories other (two.directories other e);
  existing = λ other e. one.existing other (two.existing other e);
  multiarch = one.multiarch ∙ two.multiarch;
}

or-right : (a b : Bool) → b ≡ true → (a || b) ≡ true
or-right true b e = refl
or-right false b e = e

in-middle : (a s d e : Bool) → (a || (d || e)) ≡ true → (a || ((s || d) || e)) ≡ true
in-middle true s d e h = refl
in-middle false true d e h = refl
in-middle false false d e h = h

at-end : (a d s e : Bool) → (a || (d || e)) ≡ true → (a || (d || (s || e))) ≡ true
at-end true d s e h = refl
at-end false true s e h = refl
at-end false false true e h = refl
at-end false false false e h = h

module _ (before : Viewed) (path : List ℕ) where
  pub keeps-directory : Extends (record before { directories = path ∷ before.directories }) before
  keeps-directory = record {
    files = λ other b e. e;
    directories = λ other e. or-right (same_path path other) (is_directory other before) e;
    existing = λ other e. in-middle (is_some (bytes_at other before.files)) (same_path path other) (is_directory other before) (is_among other before.existing) e;
    multiarch = refl;
  }

  pub keeps-existing : Extends (record before { existing = path ∷ before.existing }) before
  keeps-existing = record {
    files = λ other b e. e;
    directories = λ other e. e;
    existing = λ other e. at-end (is_some (bytes_at other before.files)) (is_directory other before) (same_path path other) (is_among other before.existing) e;
    multiarch = refl;
  }

  -- a file that the disk has
  pub keeps-file : (disk : Viewed) (bytes : List ℕ) → Extends disk before → bytes_at path disk.files ≡ Some bytes
      → Extends (record before { files = put_file (record { path = path; bytes = bytes }) before.files }) before
  keeps-file disk bytes extends there = record {
    files = λ other b e. bytes_at-put (record { path = path; bytes = bytes }) other before.files
        ∙ elim (same_path path other) as (λ s. same_path path other ≡ s → cond s (Some bytes) (bytes_at other before.files) ≡ Some b) [
          | true ↦ λ k. sym there ∙ bytes-alike path other disk.files k ∙ extends.files other b e
          | false ↦ λ _. e
        ] refl;
    directories = λ other e. e;
    existing = λ other e. rw (bytes_at-put (record { path = path; bytes = bytes }) other before.files)
        (elim (same_path path other) as (λ s. (is_some (cond s (Some bytes) (bytes_at other before.files)) || (is_directory other before || is_among other before.existing)) ≡ true) [
          | true ↦ refl
          | false ↦ e
        ]);
    multiarch = refl;
  }

  -- what was added is there
  pub has-file : (bytes : List ℕ) → bytes_at path (put_file (record { path = path; bytes = bytes }) before.files) ≡ Some bytes
  has-file bytes = bytes_at-put (record { path = path; bytes = bytes }) path before.files ∙ ap (λ s. cond s (Some bytes) (bytes_at path before.files)) (same_path-same path)

  pub has-directory : is_directory path (record before { directories = path ∷ before.directories }) ≡ true
  has-directory = ap (λ s. s || is_among path before.directories) (same_path-same path)

  pub has-existing : exists path (record before { existing = path ∷ before.existing }) ≡ true
  has-existing = ap (λ s. is_some (bytes_at path before.files) || (is_directory path before || (s || is_among path before.existing))) (same_path-same path)
      ∙ or-true-end (is_some (bytes_at path before.files)) (is_directory path before) (is_among path before.existing)
