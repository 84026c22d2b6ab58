-- The settings of a description beside its request, and the lines that say it.
use Rattle.std.specs.Prelude.{ℕ, ◌++◌, ◌+◌, ◌-◌, ◌*◌, ◌^◌, ◌&&◌, ◌||◌, ◌==◌, not, Bool, true, false, List, [], ◌∷◌, map, fold, codes, Option, Some, None, nat_eq, nat_le, nat_lt, is_some, unwrap_or, if◌then◌else◌, option_and_then}
use Rattle.std.specs.List.{filter_map, list_any, starts_with}
use Rattle.std.specs.Option.{option_map}
use Rattle.std.specs.Str.{bytes_eq}
use Rattle.scl_base_dirs.specs.Bases.{trimmed}
use Rattle.scl_files.specs.Characters.{backslash, slash, space}
use Rattle.scl_files.specs.Decoding.{utf8_text}
use Rattle.scl_description.specs.Fields.{field_of}
use Rattle.scl_description.specs.Lines.{cut_at}
use Rattle.scl_description.specs.Names.{part_of}
use Rattle.scl_description.specs.declared.names.Part.{Part}
use Rattle.scl_files.specs.Within.{standard}
use Rattle.scl_files.specs.declared.expand.Limits.{Limits}
use Rattle.scl_reader.specs.declared.runs.RunOptions.{RunOptions}
use Rattle.scl_describe.specs.declared.wants.Wants.{Wants}
use Rattle.scl_describe.specs.Wants.{everything, nothing_more, with_part}

-- what the runs of the preprocessor are for; the text of the compiler's version, if it is known; how much a command line may have, once its response files are put in place; which parts are wanted, if a line says so; the base directories by which keys are told; and whether macros that the runs show stay where they are in the key
pub record Settings : Type 0 where
  pub runs : RunOptions
  pub version : Option (List ℕ)
  pub limits : Limits
  pub wants : Option Wants
  pub bases : List (List ℕ)
  pub keeps_shown : Bool

-- where no line sets them
abbrev pub no_settings : Settings
no_settings = record { runs = record { may_dist = false; rewrite_includes_only = false; cache_mode = false }; version = None; limits = standard; wants = None; bases = []; keeps_shown = false }

-- the parts that are wanted: all, where no line names one
abbrev pub wanted : Settings → Wants
wanted s = unwrap_or s.wants everything

pub data Setting : Type 0 where
  MayDist : Setting
  RewriteIncludesOnly : Setting
  CacheMode : Setting
  Version : (text : List ℕ) → Setting
  Words : (words : ℕ) → Setting
  Bytes : (bytes : ℕ) → Setting
  Wanted : (part : Part) → Setting
  Base : (dir : List ℕ) → Setting
  KeepShown : Setting

abbrev pub with_setting : Settings → Setting → Settings
with_setting s MayDist = record s { runs = record s.runs { may_dist = true } }
with_setting s RewriteIncludesOnly = record s { runs = record s.runs { rewrite_includes_only = true } }
with_setting s CacheMode = record s { runs = record s.runs { cache_mode = true } }
with_setting s (Version text) = record s { version = Some text }
with_setting s (Words words) = record s { limits = record { words = words; bytes = s.limits.bytes } }
with_setting s (Bytes bytes) = record s { limits = record { words = s.limits.words; bytes = bytes } }
with_setting s (Base dir) = record s { bases = s.bases ++ dir ∷ [] }
with_setting s KeepShown = record s { keeps_shown = true }
with_setting s (Wanted part) = record s { wants = Some (with_part (unwrap_or s.wants nothing_more) part) }

-- ---- lines

-- a number and one more decimal digit, below 2^64
abbrev pub with_digit : ℕ → ℕ → Option ℕ
with_digit n digit = if nat_le 0x30 digit && nat_le digit 0x39 && nat_lt (10 * n + (digit - 0x30)) (2 ^ 64) then Some (10 * n + (digit - 0x30)) else None

abbrev pub number_from : Option ℕ → List ℕ → Option ℕ
number_from n digits = fold (λ number digit. option_and_then (λ m. with_digit m digit) number) n digits

-- the number below 2^64 that decimal digits write
abbrev pub number_of : List ℕ → Option ℕ
number_of [] = None
number_of (digit ∷ digits) = number_from (Some 0) (digit ∷ digits)

-- the setting of this name
abbrev pub setting_alone : List ℕ → Option Setting
setting_alone name =
    if bytes_eq name (codes "may-dist") then Some MayDist
    else (if bytes_eq name (codes "rewrite-includes-only") then Some RewriteIncludesOnly
    else (if bytes_eq name (codes "cache-mode") then Some CacheMode
    else (if bytes_eq name (codes "keep-shown") then Some KeepShown else None)))

-- the text in UTF-8 that a field stands for, if it stands for one
abbrev pub field_text : List ℕ → Option (List ℕ)
field_text field = option_and_then utf8_text (field_of field)

-- a directory that begins with a separator, or with a drive and one
abbrev pub is_absolute : List ℕ → Bool
is_absolute [] = false
is_absolute (first ∷ rest) = first == slash || (first == backslash || (starts_with nat_eq rest (codes ":/") || starts_with nat_eq rest (codes ":\\")))

-- a base directory is absolute and has no NUL
abbrev pub base_if : List ℕ → Option (List ℕ)
base_if dir = if is_absolute dir && not (list_any (λ byte. byte == 0) dir) then Some dir else None

-- the base directory that a field stands for, if it stands for one
abbrev pub base_in : List ℕ → Option (List ℕ)
base_in field = option_and_then base_if (field_of field)

-- the setting of this name and value
abbrev pub setting_with : List ℕ → List ℕ → Option Setting
setting_with name value =
    if bytes_eq name (codes "bound") then option_map Words (number_of value)
    else (if bytes_eq name (codes "bytes") then option_map Bytes (number_of value)
    else (if bytes_eq name (codes "version") then option_map Version (field_text value)
    else (if bytes_eq name (codes "wants") then option_map Wanted (part_of value)
    else (if bytes_eq name (codes "base") then option_map Base (base_in value) else None))))

abbrev pub setting_in : List ℕ → Option (List ℕ × List ℕ) → Option Setting
setting_in text None = setting_alone text
setting_in text (Some parts) = setting_with parts.0 parts.1

abbrev pub setting_behind : Option (List ℕ × List ℕ) → Option Setting
setting_behind None = None
setting_behind (Some parts) = if bytes_eq parts.0 (codes "setting") then setting_in parts.1 (cut_at space parts.1) else None

-- the setting that a line says, if it says one
abbrev pub setting_of : List ℕ → Option Setting
setting_of line = setting_behind (cut_at space line)

abbrev pub settings_from : Settings → List (List ℕ) → Settings
settings_from s lines = fold with_setting s (filter_map setting_of lines)

-- with base directories that have no separator at their ends
abbrev pub with_trimmed_bases : Settings → Settings
with_trimmed_bases s = record s { bases = map trimmed s.bases }

-- the settings of lines: all the parts and base directories that they name, and of several others of one name the last
abbrev pub settings_in : List (List ℕ) → Settings
settings_in lines = with_trimmed_bases (settings_from no_settings lines)

-- a line that says a setting is blank to the request
abbrev pub blanked : List ℕ → List ℕ
blanked line = if is_some (setting_of line) then [] else line

abbrev pub request_lines : List (List ℕ) → List (List ℕ)
request_lines lines = map blanked lines
