-- Where the words of options go.
use Rattle.std.specs.Prelude.{ℕ, Bool, ◌||◌, List, codes, if◌then◌else◌}
use Rattle.std.specs.Str.{bytes_eq}
use Rattle.scl_values.specs.declared.argument.NormalizedDisposition.{NormalizedDisposition}
use Rattle.scl_values.specs.declared.argument.NormalizedDisposition.TheVariants as side
use Rattle.scl_args.specs.Options.{list}
use Rattle.scl_values.specs.Seen.{Seen, Raw, Unknown, Known}
use Rattle.scl_msvc_reading.specs.contracts.msvc.place.PlacePartialEq.TheImpl.{ghosts}
use Rattle.scl_msvc_reading.specs.declared.msvc.data.Kind.{Kind}
use Rattle.scl_msvc_reading.specs.declared.msvc.data.Kind.TheVariants as kind
use Rattle.scl_msvc_reading.specs.declared.msvc.place.Place.{Place}
use Rattle.scl_msvc_reading.specs.declared.msvc.place.Place.TheVariants as places

abbrev pub place : Kind → Place
place kind.TooHardFlag = places.Refused
place kind.TooHard = places.Refused
place kind.TooHardPath = places.Refused
place kind.SuppressCompilation = places.Nowhere
place kind.DoCompilation = places.Nowhere
place kind.Output = places.Nowhere
place kind.CInput = places.Nowhere
place kind.CxxInput = places.Nowhere
place kind.ClangLanguage = places.Common
place kind.ClangModuleFile = places.Common
place kind.ClangModuleOutput = places.Common
place kind.ExtraHashFile = places.Common
place kind.DebugInfo = places.Common
place kind.ProgramDatabase = places.Common
place kind.DepFile = places.Nowhere
place kind.ShowIncludes = places.Dependency
place kind.PreprocessorArgument = places.Preprocessor
place kind.PreprocessorArgumentPath = places.Preprocessor
place kind.ExternalIncludePath = places.Common
place kind.PassThrough = places.Common
place kind.PassThroughWithPath = places.Common
place kind.PassThroughWithSuffix = places.Common
place kind.XClang = places.Nowhere
place kind.Clang = places.Nowhere
place kind.Ignore = places.Nowhere
place kind.IgnoreWithSuffix = places.Nowhere

abbrev pub place_of : Seen Kind → Place
place_of (Raw w) = places.Nowhere
place_of (Unknown w) = places.Common
place_of (Known f k v how) = place k

abbrev pub goes_to : Place → Seen Kind → Bool
goes_to there o = ghosts.eq (place_of o) there

-- the flags of folders of external includes are apart from their values, all others are joined to theirs
abbrev pub side_of_flag : List ℕ → NormalizedDisposition
side_of_flag flag = if bytes_eq flag (codes "-external:I") || bytes_eq flag (codes "/external:I") then side.Separated else side.Concatenated

-- the words of the options of this place, in order, each on the side of its flag
abbrev pub words_at : Place → List (Seen Kind) → List (List ℕ)
words_at there os = list side_of_flag (goes_to there) os
