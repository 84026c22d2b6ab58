-- The name of a program, from its path.
use Rattle.std.specs.Prelude.{ℕ, ◌-◌, ◌==◌, ◌||◌, ◌&&◌, nat_le, nat_lt, nat_eq, Bool, not, List, length, take, drop, codes, if◌then◌else◌}
use Rattle.std.specs.List.{suffix_len, list_all, list_any, ends_with, after_last}
use Rattle.std.specs.Str.{bytes_eq, str_to_ascii_lowercase}
use Rattle.scl_names.specs.declared.file_name.Mark.{Mark}
use Rattle.scl_names.specs.declared.file_name.Mark.TheVariants as marks

abbrev pub is_digit : ℕ → Bool
is_digit byte = nat_le 48 byte && nat_le byte 57

-- `/` and `\`; `-`; or all but digits
abbrev pub is_at : Mark → ℕ → Bool
is_at marks.Separator byte = byte == 47 || byte == 92
is_at marks.Dash byte = byte == 45
is_at marks.NoDigit byte = not (is_digit byte)

-- what follows the last `/` or `\`
abbrev pub file_name_of : List ℕ → List ℕ
file_name_of path = after_last (is_at marks.Separator) path

-- a name that ends in `.exe`, in any case, without that and in lower case
abbrev pub without_exe : List ℕ → List ℕ
without_exe name = if ends_with nat_eq (str_to_ascii_lowercase name) (codes ".exe") then take (length name - 4) (str_to_ascii_lowercase name) else name

-- digits and dots, with at least one digit
abbrev pub is_version : List ℕ → Bool
is_version text = list_any is_digit text && list_all (λ byte. is_digit byte || byte == 46) text

-- the position after the last dash; 0 if there is none
abbrev pub ending_at : List ℕ → ℕ
ending_at name = length name - suffix_len (λ byte. not (is_at marks.Dash byte)) name

-- a name without the digits at its end
abbrev pub without_number : List ℕ → List ℕ
without_number name = take (length name - suffix_len (λ byte. not (is_at marks.NoDigit byte)) name) name

-- how a compiler was built: the threads of MinGW, or by MacPorts
abbrev pub is_variant : List ℕ → Bool
is_variant text = bytes_eq text (codes "posix") || bytes_eq text (codes "win32") || bytes_eq text (codes "mp")

abbrev pub is_ending : List ℕ → Bool
is_ending text = is_version text || is_variant text

-- a name without the version or variant after its last dash, such as `-18.1` and `-posix`
abbrev pub without_ending : List ℕ → List ℕ
without_ending name = if nat_lt 0 (ending_at name) && is_ending (drop (ending_at name) name) then take (ending_at name - 1) name else name

-- the name of a program: without folders, `.exe`, version and variant, as in `gcc-10-posix` and `gcc-mp-13`
abbrev pub stem_of : List ℕ → List ℕ
stem_of program = without_ending (without_ending (without_exe (file_name_of program)))
