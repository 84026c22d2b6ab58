-- The outputs of a compilation, in the order of their names.
use Rattle.std.specs.Prelude.{ℕ, Bool, List, [], ◌∷◌, Option, Some, None, find}
use Rattle.std.specs.Option.{option_map, option_to_list}
use Rattle.std.specs.Str.{bytes_eq}
use Rattle.std.specs.Ordering.{nat_cmp, match_ordering}
use Rattle.std.specs.Cmp.Lexicographic.{slice_cmp}
use Rattle.scl_text.specs.Records.{Artifact, artifact}

-- the outputs with one more, at its place by name; it replaces one of the same name
abbrev pub put_output : List Artifact → Artifact → List Artifact
put_output [] a = a ∷ []
put_output (b ∷ bs) a = match_ordering (slice_cmp nat_cmp a.name b.name) (a ∷ b ∷ bs) (record { name = b.name; path = a.path; optional = a.optional } ∷ bs) (b ∷ put_output bs a)

-- the path of the output of this name
abbrev pub path_at : List Artifact → List ℕ → Option (List ℕ)
path_at outputs name = option_map (λ output. output.path) (find (λ output. bytes_eq name output.name) outputs)

-- the output of this name, if there is a path for it
abbrev pub output_at : List ℕ → Bool → Option (List ℕ) → List Artifact
output_at name optional path = option_to_list (option_map (λ p. artifact name p optional) path)

-- the outputs with that of this name, if there is a path for it
abbrev pub put_optional : List Artifact → List ℕ → Bool → Option (List ℕ) → List Artifact
put_optional old name optional None = old
put_optional old name optional (Some path) = put_output old (artifact name path optional)
