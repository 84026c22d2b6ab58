-- Inner command lines: where the words of inner options go, the verdict of each, and the outcome of the line.
use Rattle.std.specs.Prelude.{ℕ, Bool, false, List, [], Option, None, Some, Result, codes, if◌then◌else◌}
use Rattle.std.specs.List.{flat_map}
use Rattle.std.specs.Str.{bytes_eq, is_utf8}
use Rattle.scl_args.specs.Options.{last, list, side_of_flag}
use Rattle.scl_values.specs.Seen.{Seen, Raw, Unknown, Known, flag_of}
use Rattle.scl_args.specs.Wrapped.{wrapped_apart}
use Rattle.scl_files.specs.declared.expand.ExpansionKind.TheVariants as expansions
use Rattle.scl_text.specs.Records.{Verdict, CannotCache}
use Rattle.scl_text.specs.JudgedWords.{judged_words}
use Rattle.scl_files.specs.Views.{Viewed}
use Rattle.scl_gnu_reading.specs.declared.gcc.data.Kind.{Kind}
use Rattle.scl_gnu_reading.specs.contracts.gcc.place.PlacePartialEq.TheImpl.{ghosts}
use Rattle.scl_gnu_reading.specs.declared.gcc.place.Place.{Place}
use Rattle.scl_gnu_reading.specs.declared.gcc.place.Place.TheVariants as places
use Rattle.scl_gnu_reading.specs.ClangRows.{clang_tables}
use Rattle.scl_gnu_reading.specs.Places.{places_of}
use Rattle.scl_gnu_reading.specs.Verdicts.{flag_verdict}

-- ---- places

abbrev pub inner_place : Kind → Place
inner_place k = (places_of k).1

abbrev pub inner_place_of : Seen Kind → Place
inner_place_of (Raw w) = places.Common
inner_place_of (Unknown w) = places.Refused
inner_place_of (Known f k v how) = inner_place k

abbrev pub goes_inside_to : Place → Seen Kind → Bool
goes_inside_to there o = ghosts.eq (inner_place_of o) there

-- the words of the inner options of this place, in order, each on the side of its flag, each word after `-Xclang`
abbrev pub inner_words_at : Place → List (Seen Kind) → List (List ℕ)
inner_words_at there inner = flat_map (wrapped_apart (codes "-Xclang")) (list side_of_flag (goes_inside_to there) inner)

-- ---- verdicts

-- whether a raw word may follow this option, or be first
abbrev pub takes_raw : Option (Seen Kind) → Bool
takes_raw None = false
takes_raw (Some o) = bytes_eq (flag_of o) (codes "-plugin-arg")

-- the word; the empty text if it is not UTF-8
abbrev pub text_or_empty : List ℕ → List ℕ
text_or_empty word = if is_utf8 word then word else []

-- a word is refused for the reason, with the word beside it
abbrev pub word_refusal : (reason word : List ℕ) → Option Verdict
word_refusal reason word = Some (CannotCache reason (Some (text_or_empty word)))

abbrev pub raw_verdict : Bool → List ℕ → Option Verdict
raw_verdict is_taken word = if is_taken then None else word_refusal (codes "Can't handle Raw arguments with -Xclang") word

-- the verdict of an inner option; only the option directly before it counts
abbrev pub inner_verdict : List (Seen Kind) → Seen Kind → Option Verdict
inner_verdict before (Raw w) = raw_verdict (takes_raw (last before)) w
inner_verdict before (Unknown w) = word_refusal (codes "Can't handle UnknownFlag arguments with -Xclang") w
inner_verdict before (Known f k v how) = flag_verdict (inner_place k) f

-- ---- readings

-- the options of an inner command line: words cut by Clang's tables, whatever tables cut the outer ones, without `--`, and
-- judged, empty values first
abbrev pub inner_reading : (List (Seen Kind) → Seen Kind → Option Verdict) → List ℕ → Viewed → List (List ℕ) → Result (List (Seen Kind)) Verdict
inner_reading verdict directory view words = judged_words expansions.Gnu verdict clang_tables false directory view words
