-- Which versions of Clang are new enough.
use Rattle.std.specs.Prelude.{ℕ, ◌==◌, ◌-◌, Bool, true, false, List, [], Option, find, length, take}
use Rattle.std.specs.List.{list_any, slice_split, suffix_len}
use Rattle.std.specs.Option.{option_and_then, option_map_or}
use Rattle.std.specs.Ordering.{is_ge, nat_cmp, ordering_then}
use Rattle.std.specs.Result.{result_ok}
use Rattle.std.specs.declared.cmp.Ordering.{Ordering}
use Rattle.semver.specs.Order.{pre_cmp}
use Rattle.scl_files.specs.Characters.{dot, double_quote, space}
use Rattle.semver.specs.Parse.{Parts, version_parts}

abbrev pub is_space : ℕ → Bool
is_space byte = byte == space

abbrev pub is_quote : ℕ → Bool
is_quote byte = byte == double_quote

abbrev pub has_dot : List ℕ → Bool
has_dot text = list_any (λ byte. byte == dot) text

-- the text without the quotes at its end
abbrev pub without_quotes : List ℕ → List ℕ
without_quotes text = take (length text - suffix_len is_quote text) text

-- the semantic version that a text names: the first part between spaces that has a dot, without the quotes at its end
abbrev pub version_in : List ℕ → Option Parts
version_in text = option_and_then (λ part. result_ok (version_parts (without_quotes part))) (find has_dot (slice_split is_space text))

-- the order of precedence, which ignores build metadata
abbrev pub precedence : Parts → Parts → Ordering
precedence a b = ordering_then (nat_cmp a.0 b.0) (ordering_then (nat_cmp a.1 b.1) (ordering_then (nat_cmp a.2 b.2) (pre_cmp a.3 b.3)))

-- whether a text names a version that is at least `major`.0.0
abbrev pub names_at_least : ℕ → List ℕ → Bool
names_at_least major text = option_map_or (λ version. is_ge (precedence version (major, 0, 0, [], []))) (version_in text) false

-- whether Clang's version is at least `major`.0.0; never for Apple's clang, whose versions are numbered differently
abbrev pub is_minversion : (is_apple : Bool) → Option (List ℕ) → ℕ → Bool
is_minversion true version major = false
is_minversion false version major = option_map_or (names_at_least major) version false
