-- The object of a record.
use Rattle.std.proofs.Common.{◌≡◌, ℕ, Bool, true, false, List, [], ◌∷◌, ◌++◌, Option, None, Some, refl, ◌∙◌, cond}
use Rattle.std.specs.Bool.{then_some}
use Rattle.std.specs.List.{find}
use Rattle.std.specs.Option.{option_map}
use Rattle.std.specs.Prelude.{codes, if◌then◌else◌}
use Rattle.std.specs.Str.{bytes_eq}
use Rattle.scl_args.specs.Options.{last_text}
use Rattle.scl_files.specs.Paths.{with_extension}
use Rattle.scl_files.specs.Views.{Viewed}
use Rattle.scl_gnu_reading.specs.FixedTests.{Found}
use Rattle.scl_gnu_reading.specs.Kinds.{any, of}
use Rattle.scl_gnu_reading.specs.Recordings.{record_of}
use Rattle.scl_gnu_reading.specs.declared.gcc.data.Kind.{Kind}
use Rattle.scl_gnu_reading.specs.declared.gcc.data.Kind.TheVariants as kind
use Rattle.scl_text.specs.Commands.{object_of}
use Rattle.scl_text.specs.Languages.{needs_c_preprocessing}
use Rattle.scl_text.specs.Outputs.{output_at, path_at}
use Rattle.scl_text.specs.Records.{Artifact}
use Rattle.scl_text.specs.declared.records.CCompilerKind.{CCompilerKind}
use Rattle.scl_values.specs.Seen.{Seen}

path-behind : (xs ys : List Artifact) (name : List ℕ) → path_at xs name ≡ None → path_at (xs ++ ys) name ≡ path_at ys name
path-behind [] ys name e = refl
path-behind (a ∷ xs) ys name e = elim (bytes_eq name a.name) as (λ b. option_map (λ o. o.path) (cond b (Some a) (find (λ o. bytes_eq name o.name) xs)) ≡ None
    → option_map (λ o. o.path) (cond b (Some a) (find (λ o. bytes_eq name o.name) (xs ++ ys))) ≡ path_at ys name) [
      | true ↦ λ n. absurd (cc)
      | false ↦ λ n. path-behind xs ys name n
    ] e

module _ (name : List ℕ) where
  no-path : (other : List ℕ) (optional : Bool) (path : Option (List ℕ)) → bytes_eq name other ≡ false → path_at (output_at other optional path) name ≡ None
  no-path other optional None e = refl
  no-path other optional (Some path) e = rw e refl

  no-path-behind : (xs : List Artifact) (other : List ℕ) (optional : Bool) (path : Option (List ℕ)) → bytes_eq name other ≡ false → path_at xs name ≡ None → path_at (xs ++ output_at other optional path) name ≡ None
  no-path-behind xs other optional path e none = path-behind xs (output_at other optional path) name none ∙ no-path other optional path e

module _ (depfile diagnostics dwo gcno module_path : Option (List ℕ)) (object : List ℕ) where
  abbrev two : List Artifact
  two = output_at (codes "d") false depfile ++ output_at (codes "dia") false diagnostics

  abbrev three : List Artifact
  three = two ++ output_at (codes "dwo") true dwo

  abbrev four : List Artifact
  four = three ++ output_at (codes "gcno") false gcno

  none-before : path_at (four ++ output_at (codes "module") false module_path) (codes "obj") ≡ None
  none-before =
      no-path-behind (codes "obj") four (codes "module") false module_path refl
      (no-path-behind (codes "obj") three (codes "gcno") false gcno refl
      (no-path-behind (codes "obj") two (codes "dwo") true dwo refl
      (no-path-behind (codes "obj") (output_at (codes "d") false depfile) (codes "dia") false diagnostics refl (no-path (codes "obj") (codes "d") false depfile refl))))

  object-is : path_at (four ++ output_at (codes "module") false module_path ++ output_at (codes "obj") false (Some object)) (codes "obj") ≡ Some object
  object-is = path-behind (four ++ output_at (codes "module") false module_path) (output_at (codes "obj") false (Some object)) (codes "obj") none-before

pub object-found : (compiler : CCompilerKind) (directory : List ℕ) (view : Viewed) (os inside : List (Seen Kind)) (f : Found) → object_of (record_of compiler directory view os inside f) ≡ Some f.object
object-found compiler directory view os inside f =
    object-is (if needs_c_preprocessing f.language then last_text (of (kind.DepArgumentPath ∷ [])) os else None) (last_text (of (kind.SerializeDiagnostics ∷ [])) os)
    (then_some (any (kind.SplitDwarf ∷ []) os) (with_extension f.object (codes "dwo")))
    (then_some (any (kind.Coverage ∷ kind.TestCoverage ∷ []) os) (with_extension f.object (codes "gcno"))) f.module_path f.object
