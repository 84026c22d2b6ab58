-- Outputs in a map.
use Rattle.std.proofs.Common.{◌≡◌, ℕ, true, false, List, [], ◌∷◌, Some, refl, cond, ap, ◌∙◌, map, String}
use Rattle.std.specs.Ordering.{nat_cmp, match_ordering}
use Rattle.std.specs.declared.cmp.Ordering.{Ordering}
use Rattle.std.specs.declared.cmp.Ordering.TheVariants.{Less, Equal, Greater}
use Rattle.std.specs.Prelude.{string_bytes}
use Rattle.std.specs.Cmp.Lexicographic.{slice_cmp}
use Rattle.std.specs.BTreeMap.{insert_entry, is_at}
use Rattle.std.specs.Map.{lookup}
use Rattle.std.specs.List.{find, AllZip}
use Rattle.std.specs.Option.{option_map}
use Rattle.std.specs.Str.{bytes_eq}
use Rattle.std.proofs.lemmas.Map.Text.{is_eq-slice_cmp}
use Rattle.std.specs.declared.alloc.Global.{Global}
use Rattle.scl_text.specs.declared.records.ArtifactDescriptor.{ArtifactDescriptor}
use Rattle.scl_text.specs.Records.{artifact_of}
use Rattle.scl_text.specs.Outputs.{put_output, path_at}

abbrev pub text_cmp : String Global → String Global → Ordering
text_cmp a b = slice_cmp nat_cmp (string_bytes a) (string_bytes b)

map-match_ordering : {A B : Type 0} (f : A → B) (o : Ordering) (x y z : List A) → map f (match_ordering o x y z) ≡ match_ordering o (map f x) (map f y) (map f z)
map-match_ordering f Less x y z = refl
map-match_ordering f Equal x y z = refl
map-match_ordering f Greater x y z = refl

-- the outputs after an insertion
pub put_entry : (es : List (String Global × ArtifactDescriptor)) (k : String Global) (v : ArtifactDescriptor) → map artifact_of (insert_entry text_cmp es k v) ≡ put_output (map artifact_of es) (artifact_of (k, v))
put_entry [] k v = refl
put_entry (e ∷ es) k v =
    map-match_ordering artifact_of (text_cmp k e.0) _ _ _
    ∙ ap (λ rest. match_ordering (text_cmp k e.0) (artifact_of (k, v) ∷ artifact_of e ∷ map artifact_of es) (artifact_of (e.0, v) ∷ map artifact_of es) (artifact_of e ∷ rest)) (put_entry es k v)

-- the path that a look-up by name finds
pub path_at-artifacts : (es : List (String Global × ArtifactDescriptor)) (name : List ℕ) →
    path_at (map artifact_of es) name ≡ option_map (λ a. a.path.items) (lookup (is_at (λ k. slice_cmp nat_cmp name (string_bytes k))) es)
path_at-artifacts [] name = refl
path_at-artifacts (e ∷ es) name =
    rw (is_eq-slice_cmp name (string_bytes e.0)) (elim (bytes_eq name (string_bytes e.0)) as (λ b. option_map (λ output. output.path) (cond b (Some (artifact_of e)) (find (λ output. bytes_eq name output.name) (map artifact_of es))) ≡ option_map (λ a. a.path.items) (cond b (Some e.1) (lookup (is_at (λ k. slice_cmp nat_cmp name (string_bytes k))) es))) [
      | true ↦ refl
      | false ↦ path_at-artifacts es name
    ])

-- the output has the same name and path, and may be missing or not as the other
abbrev pub IsCopied : String Global × ArtifactDescriptor → String Global × ArtifactDescriptor → Type 0
IsCopied e f = (string_bytes f.0 ≡ string_bytes e.0) × ((f.1.path.items ≡ e.1.path.items) × (f.1.optional ≡ e.1.optional))

-- the entries of a copied map
pub copied_entries : (es fs : List (String Global × ArtifactDescriptor)) → AllZip IsCopied es fs → map artifact_of fs ≡ map artifact_of es
copied_entries [] [] h = refl
copied_entries [] (f ∷ fs) h = absurd h
copied_entries (e ∷ es) [] h = absurd h
copied_entries (e ∷ es) (f ∷ fs) h =
    let name : string_bytes f.0 ≡ string_bytes e.0 = h.0.0 in
    let path : f.1.path.items ≡ e.1.path.items = h.0.1.0 in
    let mark : f.1.optional ≡ e.1.optional = h.0.1.1 in
    let rest : map artifact_of fs ≡ map artifact_of es = copied_entries es fs h.1 in
    rw (name, path, mark, rest) refl
