-- The text of a dependency file, from the lines of an error output that name included files.
use Rattle.std.specs.Prelude.{ℕ, ◌≡◌, Bool, not, ◌||◌, nat_eq, if◌then◌else◌, List, [], ◌∷◌, ◌++◌, length, map, filter, drop, Option, None, Some, Result, Ok, Err, Vec, codes}
use Rattle.std.specs.BTreeSet.{BTreeSet}
use Rattle.std.specs.Char.{is_whitespace}
use Rattle.std.specs.Cmp.Lexicographic.{slice_cmp}
use Rattle.std.specs.List.{filter_map, flat_map, list_any, starts_with}
use Rattle.std.specs.List.Sorted.{IsStrictlySortedBy}
use Rattle.std.specs.Ordering.{nat_cmp}
use Rattle.std.specs.Str.{IsUtf8, bytes_eq}
use Rattle.std.specs.declared.alloc.Global.{Global}
use Rattle.bstr.specs.Text.{lines_of, without_terminator}
use Rattle.bstr.specs.Trim.{trim_end_by, trim_start_by}
use Rattle.scl_values.specs.Words.{words_of}
use Rattle.scl_files.specs.Characters.{line_feed, space}
use Rattle.scl_text.specs.Commands.{object_of}
use Rattle.scl_text.specs.Records.{Parsed, distinct_words}
use Rattle.scl_msvc.specs.declared.msvc.depfile.DepfileText.{DepfileText}
use Rattle.scl_msvc.specs.declared.msvc.depfile.DepfileError.{DepfileError}
use Rattle.scl_msvc.specs.declared.msvc.depfile.DepfileError.TheVariants as errors

-- the lines of a text: each ends at a line feed, without one carriage return before it
abbrev pub lines : List ℕ → List (List ℕ)
lines text = map without_terminator (lines_of text)

-- without white space at either end
abbrev pub trimmed : List ℕ → List ℕ
trimmed text = trim_end_by is_whitespace (trim_start_by is_whitespace text)

abbrev pub unspaced : List ℕ → Option (List ℕ)
unspaced name = if list_any (λ b. nat_eq b space) name then None else Some name

-- the file that a line names after the prefix; none if the name has a space
abbrev pub name_in : List ℕ → List ℕ → Option (List ℕ)
name_in prefix line = if starts_with nat_eq line prefix then unspaced (trimmed (drop (length prefix) line)) else None

-- the files that the lines name, each unless an earlier line gives the same text
abbrev pub names : List ℕ → List ℕ → List (List ℕ)
names prefix stderr = distinct_words (filter_map (name_in prefix) (lines stderr))

-- each word, with this after it
abbrev pub ended_by : List ℕ → List (List ℕ) → List ℕ
ended_by end words = flat_map (λ word. word ++ end) words

-- a line is kept if all are, or if it does not begin with the prefix
abbrev pub is_kept : Bool → List ℕ → List ℕ → Bool
is_kept keeps_all prefix line = keeps_all || not (starts_with nat_eq line prefix)

-- the kept lines, each with a line feed
abbrev pub kept_text : Bool → List ℕ → List ℕ → List ℕ
kept_text keeps_all prefix stderr = ended_by (line_feed ∷ []) (filter (is_kept keeps_all prefix) (lines stderr))

-- the second list has the words of the first, each once, in the order of their bytes
pub record AreInOrder (words sorted : List (List ℕ)) : Type 0 where
  pub ascend : IsStrictlySortedBy (slice_cmp nat_cmp) sorted
  pub are_the_same : (word : List ℕ) → list_any (bytes_eq word) sorted ≡ list_any (bytes_eq word) words

-- the set has these words and no others
pub record HasWords (set : BTreeSet (Vec ℕ Global)) (words : List (List ℕ)) : Type 0 where
  pub are_the_same : (word : List ℕ) → list_any (bytes_eq word) (words_of set.keys) ≡ list_any (bytes_eq word) words

-- the rule of the object, then an empty rule for the input and for each file
abbrev pub rules : List ℕ → List ℕ → List (List ℕ) → List (List ℕ) → List ℕ
rules object input names sorted =
    object ++ codes ": " ++ input ++ codes " " ++ ended_by (codes " ") names ++ (line_feed ∷ []) ++ input ++ codes ":" ++ (line_feed ∷ []) ++ ended_by (codes ":" ++ line_feed ∷ []) sorted

-- the text of the dependency file of an object, and what is kept of the error output
pub record IsDepfile (parsed : Parsed) (object prefix stderr : List ℕ) (made : DepfileText) : Type 0 where
  pub sorted : List (List ℕ)
  pub are_in_order : AreInOrder (names prefix stderr) sorted
  pub text_is : made.text.items ≡ rules object parsed.input (names prefix stderr) sorted
  pub kept_is : made.kept.items ≡ kept_text parsed.msvc_show_includes prefix stderr

-- the object whose dependency file is wanted: that of a record for clang which has a dependency file
abbrev pub object_by : Option (List ℕ) → Option (List ℕ) → Option (List ℕ)
object_by None object = None
object_by (Some depfile) object = object

abbrev pub depfile_object : Bool → Parsed → Option (List ℕ)
depfile_object is_clang parsed = if is_clang then object_by parsed.depfile (object_of parsed) else None

-- Nothing if no object wants the file; else an error if the error output is not UTF-8; else its text, or a failed allocation.
abbrev pub IsDepfileAnswer : Parsed → List ℕ → List ℕ → Option (List ℕ) → Result (Option DepfileText) DepfileError → Type 0
IsDepfileAnswer parsed prefix stderr None (Ok None) = Unit {0}
IsDepfileAnswer parsed prefix stderr None (Ok (Some made)) = ⊥
IsDepfileAnswer parsed prefix stderr None (Err errors.NotUtf8) = ⊥
IsDepfileAnswer parsed prefix stderr None (Err errors.Memory) = ⊥
IsDepfileAnswer parsed prefix stderr (Some object) (Ok None) = ⊥
IsDepfileAnswer parsed prefix stderr (Some object) (Ok (Some made)) = IsUtf8 stderr × IsDepfile parsed object prefix stderr made
IsDepfileAnswer parsed prefix stderr (Some object) (Err errors.NotUtf8) = IsUtf8 stderr → ⊥
IsDepfileAnswer parsed prefix stderr (Some object) (Err errors.Memory) = IsUtf8 stderr
