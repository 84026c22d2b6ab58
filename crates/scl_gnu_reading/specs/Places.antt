-- Where the words of options go.
use Rattle.std.specs.Prelude.{ℕ, Bool, List}
use Rattle.scl_values.specs.Seen.{Seen, Raw, Unknown, Known}
use Rattle.scl_args.specs.Options.{list, side_of_flag}
use Rattle.scl_gnu_reading.specs.declared.gcc.data.Kind.{Kind}
use Rattle.scl_gnu_reading.specs.declared.gcc.data.Kind.TheVariants as kind
use Rattle.scl_gnu_reading.specs.contracts.gcc.place.PlacePartialEq.TheImpl.{ghosts}
use Rattle.scl_gnu_reading.specs.declared.gcc.place.Place.{Place}
use Rattle.scl_gnu_reading.specs.declared.gcc.place.Place.TheVariants as places

-- where the words of options of the kind go: of outer options, and of inner ones, after `-Xclang`
abbrev pub places_of : Kind → Place × Place
places_of kind.TooHardFlag = (places.Refused, places.Refused)
places_of kind.TooHard = (places.Refused, places.Refused)
places_of kind.DiagnosticsColor = (places.Nowhere, places.Common)
places_of kind.DiagnosticsColorFlag = (places.Nowhere, places.Common)
places_of kind.NoDiagnosticsColorFlag = (places.Common, places.Common)
places_of kind.Arch = (places.Arch, places.Common)
places_of kind.Coverage = (places.Common, places.Refused)
places_of kind.TestCoverage = (places.Common, places.Refused)
places_of kind.DepArgumentPath = (places.Dependency, places.Dependency)
places_of kind.DepTarget = (places.Nowhere, places.Dependency)
places_of kind.NeedDepTarget = (places.Dependency, places.Dependency)
places_of kind.DoCompilation = (places.Nowhere, places.Refused)
places_of kind.ExtraHashFile = (places.Common, places.Common)
places_of kind.ExtraHashFileClangModuleFile = (places.Common, places.Common)
places_of kind.Language = (places.Nowhere, places.Refused)
places_of kind.SplitDwarf = (places.Common, places.Refused)
places_of kind.Output = (places.Nowhere, places.Refused)
places_of kind.PassThrough = (places.Common, places.Common)
places_of kind.PassThroughFlag = (places.Common, places.Common)
places_of kind.PassThroughPath = (places.Common, places.Common)
places_of kind.PreprocessorArgument = (places.Preprocessor, places.Preprocessor)
places_of kind.PreprocessorArgumentFlag = (places.Preprocessor, places.Preprocessor)
places_of kind.PreprocessorArgumentPath = (places.Preprocessor, places.Preprocessor)
places_of kind.ProfileGenerate = (places.Common, places.Refused)
places_of kind.ClangProfileUse = (places.Common, places.Refused)
places_of kind.SerializeDiagnostics = (places.Nowhere, places.Common)
places_of kind.UnhashedFlag = (places.Unhashed, places.Unhashed)
places_of kind.Unhashed = (places.Unhashed, places.Unhashed)
places_of kind.PedanticFlag = (places.Common, places.Refused)
places_of kind.Standard = (places.Common, places.Refused)
places_of kind.XClang = (places.Nowhere, places.Refused)
places_of kind.ModuleOnlyFlag = (places.Common, places.Refused)
places_of kind.ClangModuleOutput = (places.Common, places.Refused)
places_of kind.IntegratedAs = (places.Common, places.Refused)
places_of kind.NoIntegratedAs = (places.Common, places.Refused)

abbrev pub place : Kind → Place
place k = (places_of k).0

abbrev pub place_of : Seen Kind → Place
place_of (Raw w) = places.Nowhere
place_of (Unknown w) = places.Common
place_of (Known f k v how) = place k

abbrev pub goes_to : Place → Seen Kind → Bool
goes_to there o = ghosts.eq (place_of o) there

-- the words of the options of this place, in order, each on the side of its flag
abbrev pub words_at : Place → List (Seen Kind) → List (List ℕ)
words_at there os = list side_of_flag (goes_to there) os
