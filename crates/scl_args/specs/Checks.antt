-- What tables must satisfy so that printed options are cut into themselves: two checks, over all their rows in one list.
use Rattle.std.specs.Prelude.{◌≡◌, ℕ, Bool, true, false, not, ◌&&◌, ◌||◌, nat_lt, List, [], ◌∷◌, length, nat_eq, None, Some, cond}
use Rattle.std.specs.List.{list_all, list_any, starts_with}
use Rattle.std.specs.Str.{bytes_eq}
use Rattle.std.specs.Ordering.{nat_cmp, is_lt}
use Rattle.std.specs.Cmp.Lexicographic.{slice_cmp}
use Rattle.scl_values.specs.declared.argument.NormalizedDisposition.{NormalizedDisposition}
use Rattle.scl_values.specs.declared.argument.NormalizedDisposition.TheVariants as side
use Rattle.scl_args.specs.Empties.{is_either}
use Rattle.scl_values.specs.Row.{Row, Shape, bare, apart, joined, either}
use Rattle.scl_values.specs.Tables.{all_rows}
use Rattle.scl_values.specs.Cuts.{mark}

-- whether the flag begins with the other
abbrev pub extends : List ℕ → List ℕ → Bool
extends f other = starts_with nat_eq f other

-- whether no row has the flag
abbrev pub no_flag : {K : Type 0} → List ℕ → List (Row K) → Bool
no_flag f rows = list_all (λ row. not (extends row.flag f && extends f row.flag)) rows

-- whether an option of the row may be printed differently than it was cut: its shape is either, or it has a delimiter and its
-- kind is kept
abbrev pub is_changing_shape : Bool → Shape → Bool
is_changing_shape kept bare = false
is_changing_shape kept apart = false
is_changing_shape kept (joined None) = false
is_changing_shape kept (joined (Some d)) = kept
is_changing_shape kept (either d) = true

abbrev pub is_changing : {K : Type 0} → (K → Bool) → Row K → Bool
is_changing kept row = is_changing_shape (kept row.kind) row.shape

-- the first check: no later row has the flag of a changing row, and the mark does not begin with that flag
abbrev pub keeps_flags : {K : Type 0} → (Row K → Bool) → List (Row K) → Bool
keeps_flags changing [] = true
keeps_flags changing (row ∷ rows) = (not (changing row) || (no_flag row.flag rows && not (extends mark row.flag))) && keeps_flags changing rows

abbrev pub is_together : NormalizedDisposition → Bool
is_together side.Separated = false
is_together side.Concatenated = true

-- whether the row's flag is printed joined to a value that may have been apart
abbrev pub is_joining : {K : Type 0} → (List ℕ → NormalizedDisposition) → Row K → Bool
is_joining to row = is_either row.shape && is_together (to row.flag)

-- whether no flag of the rows extends the flag
abbrev pub is_last : {K : Type 0} → List ℕ → List (Row K) → Bool
is_last f rows = list_all (λ row. not (extends row.flag f) || not (nat_lt (length f) (length row.flag))) rows

-- the second check: no flag of all the rows extends the flag of a joining row
abbrev pub joins_safely : {K : Type 0} → (Row K → Bool) → List (Row K) → List (Row K) → Bool
joins_safely joining all [] = true
joins_safely joining all (row ∷ rows) = (not (joining row) || is_last row.flag all) && joins_safely joining all rows

-- whether no row of a kept kind has the flag
abbrev pub has_no_kept : {K : Type 0} → (K → Bool) → List ℕ → List (Row K) → Bool
has_no_kept kept f rows = list_all (λ row. not (bytes_eq row.flag f && kept row.kind)) rows

-- the second check of one flag and one table, whose rows are sorted: the next greater flag does not extend it
abbrev pub next_is_clear : {K : Type 0} → List ℕ → List (Row K) → Bool
next_is_clear f [] = true
next_is_clear f (row ∷ rows) = cond (is_lt (slice_cmp nat_cmp f row.flag)) (not (extends row.flag f)) (next_is_clear f rows)

-- the tables pass both checks for options of kept kinds, each printed on the side of its flag
pub record PassChecks {K : Type 0} (tables : List (List (Row K))) (kept : K → Bool) (to : List ℕ → NormalizedDisposition) : Type 0 where
  pub keeps : keeps_flags (is_changing kept) (all_rows tables) ≡ true
  pub safe : joins_safely (is_joining to) (all_rows tables) (all_rows tables) ≡ true

-- whether the row has one of the flags
abbrev pub has_one_of : {K : Type 0} → List (List ℕ) → Row K → Bool
has_one_of flags row = list_any (bytes_eq row.flag) flags

-- the rows with the flags of own words pass both checks, as if each were printed joined
pub record JoinSafely {K : Type 0} (tables : List (List (Row K))) (flags : List (List ℕ)) : Type 0 where
  pub keeps : keeps_flags (has_one_of flags) (all_rows tables) ≡ true
  pub safe : joins_safely (has_one_of flags) (all_rows tables) (all_rows tables) ≡ true
