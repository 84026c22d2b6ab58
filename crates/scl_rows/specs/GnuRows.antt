-- The rows of the command lines of Gcc and Clang.
use Rattle.std.specs.Prelude.{◌≡◌, ℕ, Bool, true, false, List, [], ◌∷◌, ◌++◌, Option, None, Some, Result, Ok, Err, codes, is_some, unwrap_or, if◌then◌else◌}
use Rattle.std.specs.Str.{bytes_eq}
use Rattle.scl_args.specs.Options.{last_flag, last_text, side_of_flag}
use Rattle.scl_files.specs.Expanded.{ExpandedWords}
use Rattle.scl_files.specs.Paths.{with_extension}
use Rattle.scl_files.specs.Views.{Viewed}
use Rattle.scl_gnu_reading.specs.Inners.{inner_place_of}
use Rattle.scl_gnu_reading.specs.Kinds.{any, of}
use Rattle.scl_gnu_reading.specs.Places.{place_of}
use Rattle.scl_gnu_reading.specs.Reads.{GnuRead, read_by}
use Rattle.scl_gnu_reading.specs.Recordings.{needs_target}
use Rattle.scl_gnu_reading.specs.declared.gcc.data.Kind.{Kind}
use Rattle.scl_gnu_reading.specs.declared.gcc.data.Kind.TheVariants as kind
use Rattle.scl_gnu_reading.specs.declared.gcc.place.Place.{Place}
use Rattle.scl_gnu_reading.specs.declared.gcc.place.Place.TheVariants as places
use Rattle.scl_text.specs.Commands.{object_of}
use Rattle.scl_text.specs.Records.{Parsed, Verdict}
use Rattle.scl_text.specs.declared.language.Language.{Language}
use Rattle.scl_text.specs.declared.records.CCompilerKind.{CCompilerKind}
use Rattle.scl_values.specs.Cuts.{mark}
use Rattle.scl_values.specs.Row.{Row}
use Rattle.scl_values.specs.Seen.{Seen, Raw, Unknown, Known}
use Rattle.scl_kinds.specs.KindNames.{gnu_kind_name}
use Rattle.scl_rows.specs.Lines.{Ways, line_rows}
use Rattle.scl_rows.specs.Rows.{Told, Tells, words_given}
use Rattle.scl_rows.specs.contracts.destination.DestinationPartialEq.TheImpl.{ghosts}
use Rattle.scl_rows.specs.declared.destination.Destination.{Destination}
use Rattle.scl_rows.specs.declared.destination.Destination.TheVariants as destinations
use Rattle.scl_rows.specs.declared.origin.Origin.TheVariants as origins

-- ---- where options go

-- the destination of an option whose words go to no list, by its kind
abbrev pub unlisted_kind : Kind → Destination
unlisted_kind kind.DiagnosticsColor = destinations.Color
unlisted_kind kind.DiagnosticsColorFlag = destinations.Color
unlisted_kind kind.DepTarget = destinations.DependencyTarget
unlisted_kind kind.DoCompilation = destinations.CompileFlag
unlisted_kind kind.Language = destinations.Language
unlisted_kind kind.Output = destinations.Output
unlisted_kind kind.SerializeDiagnostics = destinations.Output
unlisted_kind kind.XClang = destinations.HandedOn
unlisted_kind _ = destinations.Ignored

-- the destination of a raw word
abbrev pub raw_goes : List ℕ → Destination
raw_goes word = if bytes_eq word mark then destinations.Mark else destinations.Input

abbrev pub unlisted : Seen Kind → Destination
unlisted (Raw w) = raw_goes w
unlisted (Unknown w) = destinations.Ignored
unlisted (Known f k v how) = unlisted_kind k

-- the destination of a place; another one if the place is no list
abbrev pub destination_at : Place → Destination → Destination
destination_at places.Common other = destinations.Common
destination_at places.Unhashed other = destinations.Unhashed
destination_at places.Arch other = destinations.Architecture
destination_at places.Preprocessor other = destinations.Preprocessor
destination_at places.Dependency other = destinations.Dependency
destination_at places.Nowhere other = other
destination_at places.Refused other = destinations.Refused

abbrev pub outer_goes : Seen Kind → Destination
outer_goes o = destination_at (place_of o) (unlisted o)

abbrev pub inner_goes : Seen Kind → Destination
inner_goes o = destination_at (inner_place_of o) destinations.Ignored

abbrev pub outer_ways : Ways Kind
outer_ways = record { name = gnu_kind_name; goes = outer_goes; side = side_of_flag; origin = origins.Given }

abbrev pub inner_ways : Ways Kind
inner_ways = record { name = gnu_kind_name; goes = inner_goes; side = side_of_flag; origin = origins.Xclang }

-- ---- the rows that the rules add

-- the words of an added option in this list: two about dependencies, else one
abbrev pub words_added : Destination → List ℕ → List ℕ → List (List ℕ)
words_added there flag value = if ghosts.eq there destinations.Dependency then flag ∷ value ∷ [] else (flag ++ value) ∷ []

-- an added row of a flag of this kind with its value
abbrev pub row_added : Destination → List ℕ → List ℕ → Kind → Told
row_added there flag value k = record {
  given = [];
  flag = Some flag;
  value = Some value;
  kind = gnu_kind_name k;
  destination = there;
  origin = origins.Added;
  printed = words_added there flag value;
  refusal = None;
  at = None;
}

abbrev pub rows_depfile : Bool → List ℕ → List Told
rows_depfile true object = []
rows_depfile false object = row_added destinations.Dependency (codes "-MF") (with_extension object (codes "d")) kind.DepArgumentPath ∷ []

abbrev pub rows_target : (is_needed has_path : Bool) (flag target : Option (List ℕ)) → List ℕ → List Told
rows_target true has_path flag target object = row_added destinations.Dependency (unwrap_or flag (codes "-MT")) (unwrap_or target object) kind.DepTarget ∷ rows_depfile has_path object
rows_target false has_path flag target object = []

abbrev pub rows_split : Bool → List ℕ → List Told
rows_split true object = row_added destinations.Common (codes "-D_gsplit_dwarf_path=") (with_extension object (codes "dwo")) kind.PassThrough ∷ []
rows_split false object = []

-- those of the compilation of an input in this language to this object
abbrev pub rows_added : List (Seen Kind) → Language → List ℕ → List Told
rows_added os language object =
    rows_target (needs_target language os) (is_some (last_text (of (kind.DepArgumentPath ∷ [])) os))
    (last_flag (of (kind.DepTarget ∷ [])) os) (last_text (of (kind.DepTarget ∷ [])) os) object
    ++ rows_split (any (kind.SplitDwarf ∷ []) os) object

abbrev pub rows_for : List (Seen Kind) → Language → Option (List ℕ) → List Told
rows_for os language None = []
rows_for os language (Some object) = rows_added os language object

-- those of options with this outcome, if it is a record
abbrev pub rows_recorded : List (Seen Kind) → Result Parsed Verdict → List Told
rows_recorded os (Ok p) = rows_for os p.language (object_of p)
rows_recorded os (Err said) = []

-- ---- all rows

-- the rows of a reading: of the given line, of the inner one, and the added ones
abbrev pub gnu_rows : GnuRead → List Told
gnu_rows r = line_rows outer_ways r.outer ++ line_rows inner_ways r.inner ++ rows_recorded r.outer.line.options r.outcome

-- ---- laws

-- the rows of a reading say what its outcome is
abbrev pub GnuRowsTell : Type 0
GnuRowsTell =
    (compiler : CCompilerKind) (plusplus : Bool) (tables : List (List (Row Kind))) (directory : List ℕ) (view : Viewed) (e : ExpandedWords) →
    let r = read_by compiler plusplus tables directory view e in
    Tells (gnu_rows r) r.outcome

-- the words that rows were cut from are those of the given line, and then those of the inner one
abbrev pub GnuRowsShareWords : Type 0
GnuRowsShareWords =
    (compiler : CCompilerKind) (plusplus : Bool) (tables : List (List (Row Kind))) (directory : List ℕ) (view : Viewed) (e : ExpandedWords) →
    let r = read_by compiler plusplus tables directory view e in
    words_given (gnu_rows r) ≡ r.outer.words ++ r.inner.words
