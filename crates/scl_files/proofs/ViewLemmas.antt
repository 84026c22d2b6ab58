-- What a view finds, by what its maps find.
use Rattle.std.proofs.Common.{◌≡◌, ℕ, true, false, cond, ◌||◌, List, [], ◌∷◌, map, Bool, None, Some, Result, Ok, Err, OnOk, Vec, refl, sym, ap, ◌∙◌}
use Rattle.std.proofs.lemmas.Bool.{false≢true}
use Rattle.std.specs.Option.{option_map, is_some}
use Rattle.std.specs.declared.alloc.Global.{Global}
use Rattle.scl_files.specs.Paths.{same_path}
use Rattle.scl_files.specs.PathMaps.{value_at, replaced_at, put_at}
use Rattle.scl_files.specs.Views.{File, bytes_at, is_among, with_bytes, put_file, file_of, entry_path}
use Rattle.scl_files.proofs.SamePath.{same_path-left, same_path-right}

pub bytes_at_lem : (path : List ℕ) (entries : List (List ℕ × Vec ℕ Global)) → bytes_at path (map file_of entries) ≡ option_map (λ bytes. bytes.items) (value_at path entries)
bytes_at_lem path [] = refl
bytes_at_lem path (entry ∷ entries) =
    elim (same_path entry.0 path) as (λ b. cond b (Some entry.1.items) (bytes_at path (map file_of entries)) ≡ option_map (λ (bytes : Vec ℕ Global). bytes.items) (cond b (Some entry.1) (value_at path entries))) [
      | true ↦ refl
      | false ↦ bytes_at_lem path entries
    ]

pub is_among_lem : {T : Type 0} (path : List ℕ) (entries : List (List ℕ × T)) → is_among path (map entry_path entries) ≡ is_some (value_at path entries)
is_among_lem path [] = refl
is_among_lem path (entry ∷ entries) =
    elim (same_path entry.0 path) as (λ b. (b || is_among path (map entry_path entries)) ≡ is_some (cond b (Some entry.1) (value_at path entries))) [
      | true ↦ refl
      | false ↦ is_among_lem path entries
    ]

with_bytes_lem : (path : List ℕ) (bytes : Vec ℕ Global) (entries : List (List ℕ × Vec ℕ Global)) → map file_of (replaced_at path bytes entries) ≡ with_bytes (record { path = path; bytes = bytes.items }) (map file_of entries)
with_bytes_lem path bytes [] = refl
with_bytes_lem path bytes (entry ∷ entries) =
    elim (same_path entry.0 path) as (λ b. map file_of (cond b ((entry.0, bytes) ∷ entries) (entry ∷ replaced_at path bytes entries))
    ≡ cond b (record { path = entry.0; bytes = bytes.items } ∷ map file_of entries) (file_of entry ∷ with_bytes (record { path = path; bytes = bytes.items }) (map file_of entries))) [
      | true ↦ refl
      | false ↦ ap (λ files. file_of entry ∷ files) (with_bytes_lem path bytes entries)
    ]

is_found : (path : List ℕ) (entries : List (List ℕ × Vec ℕ Global)) → is_some (bytes_at path (map file_of entries)) ≡ is_some (value_at path entries)
is_found path entries = rw (bytes_at_lem path entries) (elim (value_at path entries) as (λ o. is_some (option_map (λ (bytes : Vec ℕ Global). bytes.items) o) ≡ is_some o) [ None ↦ refl | Some bytes ↦ refl ])

pub put_file_lem : (path : List ℕ) (bytes : Vec ℕ Global) (entries : List (List ℕ × Vec ℕ Global)) → map file_of (put_at path bytes entries) ≡ put_file (record { path = path; bytes = bytes.items }) (map file_of entries)
put_file_lem path bytes entries =
    rw (is_found path entries) (elim (is_some (value_at path entries)) as (λ b. map file_of (cond b (replaced_at path bytes entries) ((path, bytes) ∷ entries))
    ≡ cond b (with_bytes (record { path = path; bytes = bytes.items }) (map file_of entries)) (record { path = path; bytes = bytes.items } ∷ map file_of entries)) [
      | true ↦ with_bytes_lem path bytes entries
      | false ↦ refl
    ])

-- ---- what is found once a file was put

no_twice : {X : Type 0} (b : Bool) (x y : X) (z : X) → cond b x z ≡ cond b x (cond b y z)
no_twice true x y z = refl
no_twice false x y z = refl

swapped : {X : Type 0} (a b : Bool) (x y z : X) → (a ≡ true → b ≡ false) → cond a x (cond b y z) ≡ cond b y (cond a x z)
swapped true true x y z h = absurd (false≢true (sym (h refl)))
swapped true false x y z h = refl
swapped false b x y z h = refl

found_with_bytes : (file : File) (path : List ℕ) (files : List File) → is_some (bytes_at file.path files) ≡ true → bytes_at path (with_bytes file files) ≡ cond (same_path file.path path) (Some file.bytes) (bytes_at path files)
found_with_bytes file path [] h = absurd (false≢true h)
found_with_bytes file path (other ∷ files) h =
    elim (same_path other.path file.path) as (λ b. same_path other.path file.path ≡ b → is_some (cond b (Some other.bytes) (bytes_at file.path files)) ≡ true
    → bytes_at path (cond b (record { path = other.path; bytes = file.bytes } ∷ files) (other ∷ with_bytes file files)) ≡ cond (same_path file.path path) (Some file.bytes) (cond (same_path other.path path) (Some other.bytes) (bytes_at path files))) [
      | true ↦ λ e _. rw (same_path-left other.path file.path path e) (no_twice (same_path other.path path) (Some file.bytes) (Some other.bytes) (bytes_at path files))
      | false ↦ λ e g. rw (found_with_bytes file path files g)
          (swapped (same_path other.path path) (same_path file.path path) (Some other.bytes) (Some file.bytes) (bytes_at path files)
          (λ same. elim (same_path file.path path) as (λ b. same_path file.path path ≡ b → b ≡ false) [
            | true ↦ λ k. absurd (false≢true (sym e ∙ same_path-right other.path file.path path k ∙ same))
            | false ↦ λ _. refl
          ] refl))
    ] refl h

pub bytes_at-put : (file : File) (path : List ℕ) (files : List File) → bytes_at path (put_file file files) ≡ cond (same_path file.path path) (Some file.bytes) (bytes_at path files)
bytes_at-put file path files =
    elim (is_some (bytes_at file.path files)) as (λ b. is_some (bytes_at file.path files) ≡ b → bytes_at path (cond b (with_bytes file files) (file ∷ files)) ≡ cond (same_path file.path path) (Some file.bytes) (bytes_at path files)) [
      | true ↦ λ e. found_with_bytes file path files e
      | false ↦ λ _. refl
    ] refl

pub on_ok : {X E P Q : Type 0} (r : Result X E) → OnOk r P → (P → Q) → OnOk r Q
on_ok (Ok x) h f = f h
on_ok (Err e) h f = h
