-- The rows of the command lines of Msvc's cl and of clang-cl.
use Rattle.std.specs.Prelude.{◌≡◌, ℕ, Bool, List, ◌++◌}
use Rattle.scl_args.specs.Options.{side_of_flag}
use Rattle.scl_files.specs.Expanded.{ExpandedWords}
use Rattle.scl_files.specs.Views.{Viewed}
use Rattle.scl_gnu_reading.specs.declared.gcc.data.Kind as gnu
use Rattle.scl_msvc_reading.specs.Inners.{inner_place_of}
use Rattle.scl_msvc_reading.specs.Places as outer
use Rattle.scl_msvc_reading.specs.Places.{place_of}
use Rattle.scl_msvc_reading.specs.Reads.{MsvcRead, read_by}
use Rattle.scl_msvc_reading.specs.declared.msvc.data.Kind.{Kind}
use Rattle.scl_msvc_reading.specs.declared.msvc.data.Kind.TheVariants as kind
use Rattle.scl_msvc_reading.specs.declared.msvc.place.Place.{Place}
use Rattle.scl_msvc_reading.specs.declared.msvc.place.Place.TheVariants as places
use Rattle.scl_values.specs.Seen.{Seen, Raw, Unknown, Known}
use Rattle.scl_rows.specs.GnuRows.{raw_goes}
use Rattle.scl_kinds.specs.KindNames.{gnu_kind_name, msvc_kind_name}
use Rattle.scl_rows.specs.Lines.{Ways, line_rows}
use Rattle.scl_rows.specs.Rows.{Told, Tells, words_given}
use Rattle.scl_rows.specs.declared.destination.Destination.{Destination}
use Rattle.scl_rows.specs.declared.destination.Destination.TheVariants as destinations
use Rattle.scl_rows.specs.declared.origin.Origin.{Origin}
use Rattle.scl_rows.specs.declared.origin.Origin.TheVariants as origins

-- the destination of an option whose words go to no list, by its kind
abbrev pub unlisted_kind : Kind → Destination
unlisted_kind kind.SuppressCompilation = destinations.Refused
unlisted_kind kind.DoCompilation = destinations.CompileFlag
unlisted_kind kind.Output = destinations.Output
unlisted_kind kind.CInput = destinations.Input
unlisted_kind kind.CxxInput = destinations.Input
unlisted_kind kind.DepFile = destinations.DependencyFile
unlisted_kind kind.XClang = destinations.HandedOn
unlisted_kind kind.Clang = destinations.HandedOn
unlisted_kind _ = destinations.Ignored

abbrev pub unlisted : Seen Kind → Destination
unlisted (Raw w) = raw_goes w
unlisted (Unknown w) = destinations.Ignored
unlisted (Known f k v how) = unlisted_kind k

-- the destination of a place; another one if the place is no list
abbrev pub destination_at : Place → Destination → Destination
destination_at places.Common other = destinations.Common
destination_at places.Unhashed other = destinations.Unhashed
destination_at places.Preprocessor other = destinations.Preprocessor
destination_at places.Dependency other = destinations.Dependency
destination_at places.Nowhere other = other
destination_at places.Refused other = destinations.Refused

abbrev pub outer_goes : Seen Kind → Destination
outer_goes o = destination_at (place_of o) (unlisted o)

abbrev pub inner_goes : Seen gnu.Kind → Destination
inner_goes o = destination_at (inner_place_of o) destinations.Ignored

abbrev pub outer_ways : Ways Kind
outer_ways = record { name = msvc_kind_name; goes = outer_goes; side = outer.side_of_flag; origin = origins.Given }

abbrev pub inner_ways : Origin → Ways gnu.Kind
inner_ways origin = record { name = gnu_kind_name; goes = inner_goes; side = side_of_flag; origin = origin }

-- the rows of a reading: of the given line, of that after `-Xclang`, and of that after `-clang:`
abbrev pub msvc_rows : MsvcRead → List Told
msvc_rows r = line_rows outer_ways r.outer ++ line_rows (inner_ways origins.Xclang) r.xclang ++ line_rows (inner_ways origins.ClangColon) r.clang

-- ---- laws

-- the rows of a reading say what its outcome is
abbrev pub MsvcRowsTell : Type 0
MsvcRowsTell =
    (is_clang : Bool) (directory : List ℕ) (view : Viewed) (environment : List (List ℕ)) (e : ExpandedWords) →
    let r = read_by is_clang directory view environment e in
    Tells (msvc_rows r) r.outcome

-- the words that rows were cut from are those of the given line, and then those of the inner ones
abbrev pub MsvcRowsShareWords : Type 0
MsvcRowsShareWords =
    (is_clang : Bool) (directory : List ℕ) (view : Viewed) (environment : List (List ℕ)) (e : ExpandedWords) →
    let r = read_by is_clang directory view environment e in
    words_given (msvc_rows r) ≡ r.outer.words ++ r.xclang.words ++ r.clang.words
