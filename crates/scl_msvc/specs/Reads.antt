-- A command line of cl or clang-cl, read with the words of its environment.
use Rattle.std.specs.Prelude.{ℕ, ◌&&◌, Bool, true, List, ◌++◌, length, replicate, Option, None, Result, Ok, Err}
use Rattle.scl_files.specs.Expanded.{ExpandedWords, expanded_by}
use Rattle.scl_files.specs.Openings.{is_expanded_within}
use Rattle.scl_files.specs.Sources.{indices}
use Rattle.scl_files.specs.Views.{Viewed}
use Rattle.scl_files.specs.declared.expand.ExpansionKind.TheVariants as expansions
use Rattle.scl_files.specs.declared.expand.Limits.{Limits}
use Rattle.scl_text.specs.Records.{Verdict}
use Rattle.scl_msvc_reading.specs.Reads.{MsvcRead, are_inner_within, read_by, refused_by}
use Rattle.scl_msvc.specs.Environment.{surroundings}

-- the words of a command line between those before and after it
abbrev pub words_between : List (List ℕ) → (List (List ℕ) × List (List ℕ)) → List (List ℕ)
words_between words both = both.0 ++ words ++ both.1

-- of each the index of the given word, if it is one
abbrev pub ats_between : List (List ℕ) → (List (List ℕ) × List (List ℕ)) → List (Option ℕ)
ats_between words both = replicate (length both.0) None ++ indices (length words) ++ replicate (length both.1) None

abbrev pub expanded_between : List ℕ → Viewed → List (List ℕ) → (List (List ℕ) × List (List ℕ)) → ExpandedWords
expanded_between directory view words both = expanded_by expansions.Msvc directory view.files (words_between words both) (ats_between words both)

abbrev pub read_between : Bool → List ℕ → Viewed → List (List ℕ) → (List (List ℕ) × List (List ℕ)) → MsvcRead
read_between is_clang directory view words both = read_by is_clang directory view (both.0 ++ both.1) (expanded_between directory view words both)

-- whether the words and openings of it and of each inner line are within the limits
abbrev pub is_read_within : Limits → Bool → List ℕ → Viewed → List (List ℕ) → (List (List ℕ) × List (List ℕ)) → Bool
is_read_within most is_clang directory view words both =
    is_expanded_within most expansions.Msvc directory view.files (words_between words both) && are_inner_within most is_clang directory view (expanded_between directory view words both)

-- the reading, by the words that the environment adds; if the value of a variable is not a text, nothing is read
abbrev pub read_by_both : Bool → List ℕ → Viewed → List (List ℕ) → Result (List (List ℕ) × List (List ℕ)) Verdict → MsvcRead
read_by_both is_clang directory view words (Ok both) = read_between is_clang directory view words both
read_by_both is_clang directory view words (Err broken) = refused_by is_clang (Err broken)

abbrev pub surrounded_read : Bool → List ℕ → List (List ℕ × List ℕ) → Viewed → List (List ℕ) → MsvcRead
surrounded_read is_clang directory pairs view words = read_by_both is_clang directory view words (surroundings pairs)

abbrev pub is_within_both : Limits → Bool → List ℕ → Viewed → List (List ℕ) → Result (List (List ℕ) × List (List ℕ)) Verdict → Bool
is_within_both most is_clang directory view words (Ok both) = is_read_within most is_clang directory view words both
is_within_both most is_clang directory view words (Err broken) = true

abbrev pub is_surrounded_within : Limits → Bool → List ℕ → List (List ℕ × List ℕ) → Viewed → List (List ℕ) → Bool
is_surrounded_within most is_clang directory pairs view words = is_within_both most is_clang directory view words (surroundings pairs)
