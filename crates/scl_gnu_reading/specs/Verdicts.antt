-- The verdict of an option, given those before it.
use Rattle.std.specs.Prelude.{ℕ, Bool, not, ◌==◌, ◌&&◌, List, [], ◌∷◌, Option, None, Some, codes, if◌then◌else◌}
use Rattle.std.specs.Str.{bytes_eq}
use Rattle.std.specs.Option.{option_or}
use Rattle.scl_values.specs.Escaped.{escaped}
use Rattle.scl_values.specs.Seen.{Seen, Raw, Unknown, Known}
use Rattle.scl_args.specs.Options.{last_text, names_file}
use Rattle.scl_text.specs.declared.language.Language.{Language}
use Rattle.scl_text.specs.Languages.{language_of_gcc_text}
use Rattle.scl_text.specs.Reasons.{unexpanded_file}
use Rattle.scl_text.specs.Records.{Verdict, CannotCache, because}
use Rattle.scl_gnu_reading.specs.declared.gcc.data.Kind.{Kind}
use Rattle.scl_gnu_reading.specs.declared.gcc.data.Kind.TheVariants as kind
use Rattle.scl_gnu_reading.specs.declared.gcc.place.Place.{Place}
use Rattle.scl_gnu_reading.specs.declared.gcc.place.Place.TheVariants as places
use Rattle.scl_gnu_reading.specs.Kinds.{of}
use Rattle.scl_gnu_reading.specs.Places.{place}

abbrev pub refusal : List ℕ → Option Verdict
refusal reason = Some (because reason)

-- an option whose kind is refused is refused by its flag
abbrev pub flag_verdict : Place → List ℕ → Option Verdict
flag_verdict places.Refused flag = refusal flag
flag_verdict _ flag = None

-- a module's path follows =, or there is none; any other value is refused, and is beside the reason
abbrev pub module_output_verdict : List ℕ → Option Verdict
module_output_verdict [] = None
module_output_verdict (byte ∷ bytes) = if byte == 61 then None else Some (CannotCache (codes "unknown module output format") (Some (escaped (byte ∷ bytes))))

abbrev pub unread_language : Option Language → Option Verdict
unread_language None = refusal (codes "-x")
unread_language (Some language) = None

-- an architecture is refused if another one was before it and only one is allowed
abbrev pub arch_verdict : Bool → Option (List ℕ) → List ℕ → Option Verdict
arch_verdict multiarch None arch = None
arch_verdict multiarch (Some before) arch =
    if not multiarch && not (bytes_eq before arch) then refusal (codes "multiple different -arch, and SCCACHE_CACHE_MULTIARCH not set") else None

-- the verdict of a value of the kind, after this architecture
abbrev pub value_verdict : Bool → Option (List ℕ) → Kind → List ℕ → Option Verdict
value_verdict multiarch arch kind.ClangModuleOutput value = module_output_verdict value
value_verdict multiarch arch kind.Language value = unread_language (language_of_gcc_text value)
value_verdict multiarch arch kind.Arch value = arch_verdict multiarch arch value
value_verdict multiarch arch _ value = None

-- the verdict of a flag with a value of the kind, after this architecture
abbrev pub known_verdict : Bool → Option (List ℕ) → List ℕ → Kind → List ℕ → Option Verdict
known_verdict multiarch arch flag k value = option_or (flag_verdict (place k) flag) (value_verdict multiarch arch k value)

abbrev pub verdict_after : Bool → Option (List ℕ) → Seen Kind → Option Verdict
verdict_after multiarch arch (Raw w) = None
verdict_after multiarch arch (Unknown w) = None
verdict_after multiarch arch (Known f k v how) = known_verdict multiarch arch f k v

-- the verdict of an option after others, of which the last architecture counts; a value that names a file is refused first
abbrev pub verdict : Bool → List (Seen Kind) → Seen Kind → Option Verdict
verdict multiarch before o = if names_file o then Some unexpanded_file else verdict_after multiarch (last_text (of (kind.Arch ∷ [])) before) o
