-- The verdict of an option.
use Rattle.std.specs.Prelude.{ℕ, Bool, not, ◌||◌, List, Option, None, Some, codes}
use Rattle.std.specs.Str.{bytes_eq}
use Rattle.std.specs.Option.{option_or}
use Rattle.std.specs.Bool.{then_some}
use Rattle.scl_args.specs.Empties.{is_empty}
use Rattle.scl_values.specs.Seen.{Seen, Raw, Unknown, Known}
use Rattle.scl_text.specs.Reasons.{no_input_file}
use Rattle.scl_text.specs.Records.{Verdict, because, NotCompilation}
use Rattle.scl_msvc_reading.specs.declared.msvc.data.Kind.{Kind}
use Rattle.scl_msvc_reading.specs.declared.msvc.data.Kind.TheVariants as kind
use Rattle.scl_msvc_reading.specs.declared.msvc.place.Place.{Place}
use Rattle.scl_msvc_reading.specs.declared.msvc.place.Place.TheVariants as places
use Rattle.scl_msvc_reading.specs.Places.{place}

-- an option whose kind is refused is refused by its flag
abbrev pub flag_verdict : Place → List ℕ → Option Verdict
flag_verdict places.Refused flag = Some (because flag)
flag_verdict _ flag = None

-- the verdict of a flag of the kind with this value; only clang-cl has modules' files and languages of all inputs
abbrev pub value_verdict : Bool → List ℕ → Kind → List ℕ → Option Verdict
value_verdict is_clang flag kind.SuppressCompilation value = Some NotCompilation
value_verdict is_clang flag kind.Output value = then_some (bytes_eq value (codes "nul")) (because (codes "output to nul"))
value_verdict is_clang flag kind.CInput value = then_some (is_empty value) no_input_file
value_verdict is_clang flag kind.CxxInput value = then_some (is_empty value) no_input_file
value_verdict is_clang flag kind.ClangModuleFile value = then_some (not is_clang || is_empty value) (because flag)
value_verdict is_clang flag kind.ClangModuleOutput value = then_some (is_empty value) (because flag)
value_verdict is_clang flag kind.ClangLanguage value = then_some (not is_clang || not (bytes_eq value (codes "c++-module"))) (because flag)
value_verdict is_clang flag _ value = None

-- the verdict of an option with this flag and value: that of its kind, else that of its value
abbrev pub known_verdict : Bool → List ℕ → Kind → List ℕ → Option Verdict
known_verdict is_clang flag k value = option_or (flag_verdict (place k) flag) (value_verdict is_clang flag k value)

-- the verdict of an option, whatever is before it
abbrev pub verdict : Bool → List (Seen Kind) → Seen Kind → Option Verdict
verdict is_clang before (Raw w) = None
verdict is_clang before (Unknown w) = None
verdict is_clang before (Known f k v how) = known_verdict is_clang f k v
