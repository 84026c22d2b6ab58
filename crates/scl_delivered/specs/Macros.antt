-- The macros that a command defines, and its key without them.
use Rattle.std.specs.Prelude.{ℕ, nat_eq, Bool, ◌==◌, ◌&&◌, not, List, [], ◌∷◌, filter, length, codes, Option, Some, None, is_some, if◌then◌else◌}
use Rattle.std.specs.Cmp.Lexicographic.{pointwise}
use Rattle.std.specs.List.{flat_map, list_all, list_any, starts_with}
use Rattle.std.specs.Option.{option_to_list}
use Rattle.std.specs.Str.{bytes_eq}
use Rattle.scl_key.specs.Parts.{Part, is, plan, run, run_else}
use Rattle.scl_shared_key.specs.Objects.{is_macro}

-- ---- macros of the command

-- the macro that a fact tells: a common word of the command that defines one
abbrev pub macro_told : List (List ℕ) → Option (List ℕ)
macro_told (name ∷ word ∷ []) = if bytes_eq name (codes "common") && is_macro word then Some word else None
macro_told _ = None

abbrev pub macro_in : Part → List (List ℕ)
macro_in (is row) = option_to_list (macro_told row)
macro_in _ = []

-- the macros that the command defines
abbrev pub macros_in : List Part → List (List ℕ)
macros_in parts = flat_map macro_in parts

-- ---- macros of runs

abbrev pub run_in : Part → List (List (List ℕ))
run_in (run words) = words ∷ []
run_in (run_else words) = words ∷ []
run_in _ = []

-- the words of each run
abbrev pub runs_in : List Part → List (List (List ℕ))
runs_in parts = flat_map run_in parts

-- the words read a file of macros, which no line marker names
abbrev pub reads_macros : List (List ℕ) → Bool
reads_macros words = list_any (λ word. starts_with nat_eq word (codes "-imacros")) words

-- the words define these macros, in this order and no more
abbrev pub defines : (macros words : List (List ℕ)) → Bool
defines macros words = pointwise bytes_eq (filter is_macro words) macros && not (reads_macros words)

-- there are macros and a run, and each run defines these macros and no more
abbrev pub are_defined : (macros : List (List ℕ)) (runs : List (List (List ℕ))) → Bool
are_defined macros runs = not (length macros == 0) && (not (length runs == 0) && list_all (defines macros) runs)

-- ---- a key without macros

abbrev pub others : List (List ℕ) → List (List ℕ)
others words = filter (λ word. not (is_macro word)) words

-- a part without macros; nothing if it tells one
abbrev pub left_of : Part → List Part
left_of (is row) = if is_some (macro_told row) then [] else is row ∷ []
left_of (plan words) = plan (others words) ∷ []
left_of part = part ∷ []

abbrev pub without_macros : List Part → List Part
without_macros parts = flat_map left_of parts
