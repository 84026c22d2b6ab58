-- Inner command lines: where the words of inner options go, and the verdict of each.
use Rattle.std.specs.Prelude.{ℕ, Bool, List, ◌++◌, Option, None, codes}
use Rattle.std.specs.List.{flat_map}
use Rattle.scl_args.specs.Options.{list, side_of_flag}
use Rattle.scl_values.specs.Seen.{Seen, Raw, Unknown, Known}
use Rattle.scl_args.specs.Wrapped.{wrapped_apart, wrapped_joined}
use Rattle.scl_text.specs.Records.{Verdict}
use Rattle.scl_gnu_reading.specs.declared.gcc.data.Kind.{Kind}
use Rattle.scl_gnu_reading.specs.declared.gcc.data.Kind.TheVariants as kind
use Rattle.scl_msvc_reading.specs.contracts.msvc.place.PlacePartialEq.TheImpl.{ghosts}
use Rattle.scl_msvc_reading.specs.declared.msvc.place.Place.{Place}
use Rattle.scl_msvc_reading.specs.declared.msvc.place.Place.TheVariants as places
use Rattle.scl_msvc_reading.specs.Verdicts.{flag_verdict}

-- the options of the two inner command lines
pub record BothInner : Type 0 where
  pub xclang : List (Seen Kind)
  pub clang : List (Seen Kind)

-- ---- places

abbrev pub inner_place : Kind → Place
inner_place kind.TooHardFlag = places.Refused
inner_place kind.TooHard = places.Refused
inner_place kind.DiagnosticsColor = places.Common
inner_place kind.DiagnosticsColorFlag = places.Common
inner_place kind.NoDiagnosticsColorFlag = places.Common
inner_place kind.Arch = places.Common
inner_place kind.Coverage = places.Refused
inner_place kind.TestCoverage = places.Refused
inner_place kind.DepArgumentPath = places.Dependency
inner_place kind.DepTarget = places.Dependency
inner_place kind.NeedDepTarget = places.Dependency
inner_place kind.DoCompilation = places.Refused
inner_place kind.ExtraHashFile = places.Common
inner_place kind.ExtraHashFileClangModuleFile = places.Refused
inner_place kind.Language = places.Refused
inner_place kind.SplitDwarf = places.Refused
inner_place kind.Output = places.Refused
inner_place kind.PassThrough = places.Common
inner_place kind.PassThroughFlag = places.Common
inner_place kind.PassThroughPath = places.Common
inner_place kind.PreprocessorArgument = places.Preprocessor
inner_place kind.PreprocessorArgumentFlag = places.Preprocessor
inner_place kind.PreprocessorArgumentPath = places.Preprocessor
inner_place kind.ProfileGenerate = places.Common
inner_place kind.ClangProfileUse = places.Common
inner_place kind.SerializeDiagnostics = places.Common
inner_place kind.UnhashedFlag = places.Unhashed
inner_place kind.Unhashed = places.Unhashed
inner_place kind.PedanticFlag = places.Common
inner_place kind.Standard = places.Common
inner_place kind.XClang = places.Refused
inner_place kind.ModuleOnlyFlag = places.Refused
inner_place kind.ClangModuleOutput = places.Refused
inner_place kind.IntegratedAs = places.Refused
inner_place kind.NoIntegratedAs = places.Refused

abbrev pub inner_place_of : Seen Kind → Place
inner_place_of (Raw w) = places.Common
inner_place_of (Unknown w) = places.Common
inner_place_of (Known f k v how) = inner_place k

abbrev pub goes_inside_to : Place → Seen Kind → Bool
goes_inside_to there o = ghosts.eq (inner_place_of o) there

-- the words of the inner options of this place, in order, each on the side of its flag
abbrev pub inner_list : Place → List (Seen Kind) → List (List ℕ)
inner_list there inner = list side_of_flag (goes_inside_to there) inner

-- those of the options after `-Xclang`, each word after one; then those of the options after `-clang:`, each word joined to
-- one
abbrev pub inner_words_at : Place → BothInner → List (List ℕ)
inner_words_at there inner =
    flat_map (wrapped_apart (codes "-Xclang")) (inner_list there inner.xclang) ++ flat_map (wrapped_joined (codes "-clang:")) (inner_list there inner.clang)

-- ---- verdicts

-- the verdict of an inner option, whatever is before it; a word without an owner is passed on unchanged
abbrev pub inner_verdict : List (Seen Kind) → Seen Kind → Option Verdict
inner_verdict before (Raw w) = None
inner_verdict before (Unknown w) = None
inner_verdict before (Known f k v how) = flag_verdict (inner_place k) f
