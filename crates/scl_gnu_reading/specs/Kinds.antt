-- What kinds of options mean, and what the last of some options says.
use Rattle.std.specs.Prelude.{ℕ, Bool, false, not, ◌&&◌, ◌||◌, List, [], ◌∷◌, Option, None, Some, codes, if◌then◌else◌}
use Rattle.std.specs.List.{list_any}
use Rattle.std.specs.Option.{option_map}
use Rattle.std.specs.Str.{bytes_eq}
use Rattle.scl_values.specs.Seen.{Seen, Raw, Unknown, Known}
use Rattle.scl_args.specs.Options.{is_raw, is_dashes, of_kinds, last_by, last_flag}
use Rattle.scl_text.specs.declared.records.ColorMode.{ColorMode}
use Rattle.scl_text.specs.declared.records.ColorMode.TheVariants as colors
use Rattle.scl_gnu_reading.specs.declared.gcc.data.Kind.{Kind}
use Rattle.scl_gnu_reading.specs.declared.gcc.data.Kind.TheVariants as kind
use Rattle.scl_gnu_reading.specs.contracts.gcc.data.KindPartialEq.TheImpl.{ghosts}
use Rattle.scl_gnu_reading.specs.declared.gcc.hash_files.HashRole.{HashRole}
use Rattle.scl_gnu_reading.specs.declared.gcc.hash_files.HashRole.TheVariants as roles
use Rattle.scl_gnu_reading.specs.Hashes.{Hashed, hashed_as}

-- whether the option is of one of the kinds
abbrev pub of : List Kind → Seen Kind → Bool
of kinds o = of_kinds ghosts.eq kinds o

-- ---- what an option says

-- the colour mode that a value requests
abbrev pub color_named : List ℕ → ColorMode
color_named value = if bytes_eq value [] || bytes_eq value (codes "always") then colors.On else (if bytes_eq value (codes "never") then colors.Off else colors.Auto)

abbrev pub color : Kind → List ℕ → ColorMode
color kind.DiagnosticsColor value = color_named value
color kind.DiagnosticsColorFlag value = colors.On
color kind.NoDiagnosticsColorFlag value = colors.Off
color _ value = colors.Auto

abbrev pub color_of : Seen Kind → ColorMode
color_of (Raw w) = colors.Auto
color_of (Unknown w) = colors.Auto
color_of (Known f k v how) = color k v

abbrev pub is_hiding_flag : List ℕ → Bool
is_hiding_flag flag = bytes_eq flag (codes "-Wp") || bytes_eq flag (codes "-Xpreprocessor")

-- whether a cache of preprocessor runs can't see what the option requests of the preprocessor
abbrev pub is_hiding : Seen Kind → Bool
is_hiding (Raw w) = false
is_hiding (Unknown w) = false
is_hiding (Known f k v how) = ghosts.eq k kind.PreprocessorArgument && is_hiding_flag f

-- a raw word is an input, unless it is `--`
abbrev pub is_input : Seen Kind → Bool
is_input o = is_raw o && not (is_dashes o)

-- how an option names a file on whose contents the result depends
abbrev pub hash_role : Kind → Option HashRole
hash_role kind.ExtraHashFile = Some roles.File
hash_role kind.ExtraHashFileClangModuleFile = Some roles.Module
hash_role kind.ClangProfileUse = Some roles.Profile
hash_role _ = None

-- the files on whose contents the result depends, as the options name them
abbrev pub hashed : List (Seen Kind) → List Hashed
hashed os = hashed_as hash_role os

-- ---- what the last of some options says

-- whether there is such an option
abbrev pub any : List Kind → List (Seen Kind) → Bool
any kinds os = list_any (of kinds) os

-- the colour mode that is requested last
abbrev pub color_mode : List (Seen Kind) → Option ColorMode
color_mode os = option_map color_of (last_by (of (kind.DiagnosticsColor ∷ kind.DiagnosticsColorFlag ∷ kind.NoDiagnosticsColorFlag ∷ [])) os)

-- whether the assembler that is requested last is a separate program
abbrev pub external_assembler : List (Seen Kind) → Option Bool
external_assembler os = option_map (of (kind.NoIntegratedAs ∷ [])) (last_by (of (kind.IntegratedAs ∷ kind.NoIntegratedAs ∷ [])) os)

-- the flag that a cache of preprocessor runs can't see
abbrev pub hiding_flag : List (Seen Kind) → Option (List ℕ)
hiding_flag os = last_flag is_hiding os
