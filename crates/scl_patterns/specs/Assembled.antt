-- A text as an assembler reads it: what escapes stand for, and strings that stand side by side as one.
use Rattle.std.specs.Prelude.{ℕ, zero, suc, ◌+◌, ◌-◌, ◌*◌, ◌%◌, ◌==◌, ◌&&◌, ◌||◌, not, nat_eq, nat_le, Bool, List, [], ◌∷◌, ◌++◌, map, take, drop, codes, Option, None, Some, if◌then◌else◌}
use Rattle.std.specs.List.{list_any, prefix_len, starts_with}
use Rattle.std.specs.Option.{option_map_or, option_to_list}
use Rattle.scl_readings.specs.Lines.{is_space}
use Rattle.scl_readings.specs.Names.{is_name_byte}
use Rattle.scl_readings.specs.Quoted.{is_octal}
use Rattle.scl_readings.specs.Markers.{is_digit}
use Rattle.scl_patterns.specs.declared.assembled.Class.{Class}
use Rattle.scl_patterns.specs.declared.assembled.Class.TheVariants as classes
use Rattle.scl_patterns.specs.declared.assembled.Pass.{Pass}
use Rattle.scl_patterns.specs.declared.assembled.Pass.TheVariants as passes
use Rattle.scl_patterns.specs.declared.assembled.Stands.{Stands}

-- ---- bytes

abbrev pub is_hex : ℕ → Bool
is_hex byte = is_digit byte || ((nat_le 0x61 byte && nat_le byte 0x66) || (nat_le 0x41 byte && nat_le byte 0x46))

-- what may stand between the parts of a directive: neither visible ASCII nor the end of a line
abbrev pub is_gap : ℕ → Bool
is_gap byte = not (byte == 0xa || (nat_le 0x21 byte && nat_le byte 0x7e))

abbrev pub is_in : Class → ℕ → Bool
is_in classes.White byte = byte == 0xa || is_space byte
is_in classes.Space byte = is_space byte
is_in classes.Gap byte = is_gap byte
is_in classes.Hex byte = is_hex byte
is_in classes.Zero byte = byte == 0x30
is_in classes.Octal byte = is_octal byte
is_in classes.Name byte = is_name_byte byte

-- how many bytes of a class a text begins with
abbrev pub run_length : Class → List ℕ → ℕ
run_length class text = prefix_len (is_in class) text

abbrev pub digit : ℕ → ℕ
digit byte = if is_digit byte then byte - 0x30 else (if nat_le 0x61 byte && nat_le byte 0x66 then byte - 0x57 else (if nat_le 0x41 byte && nat_le byte 0x46 then byte - 0x37 else 0))

-- the value of digits, as a byte
abbrev pub value_from : (base value : ℕ) → List ℕ → ℕ
value_from base value [] = value
value_from base value (byte ∷ digits) = value_from base ((value * base + digit byte) % 256) digits

-- ---- what stands for other bytes

-- a byte or none, in place of the first byte and some more
abbrev pub stands : Option ℕ → (more : ℕ) → Stands
stands byte more = record { byte = byte; more = more }

-- a text is read from its first byte on; so many bytes are passed over before
abbrev pub read_from : (List ℕ → Option Stands) → (skip : ℕ) → List ℕ → List ℕ
read_from reading skip [] = []
read_from reading zero (byte ∷ text) = option_map_or (λ it. option_to_list it.byte ++ read_from reading it.more text) (reading (byte ∷ text)) (byte ∷ read_from reading zero text)
read_from reading (suc skip) (byte ∷ text) = read_from reading skip text

-- after a backslash: a letter that ends a statement, as white space does
abbrev pub letter_break : List ℕ → Option Stands
letter_break [] = None
letter_break (byte ∷ text) = if list_any (λ it. it == byte) (codes "abfrv") then Some (stands (Some 0xa) 1) else None

abbrev pub break_at : List ℕ → Option Stands
break_at [] = None
break_at (byte ∷ text) = if byte == 0x5c then letter_break text else (if byte == 0xc || byte == 0xd then Some (stands (Some 0xa) 0) else None)

-- after a quote: another, behind white space
abbrev pub closed_joint : List ℕ → Option Stands
closed_joint text =
    let count = run_length classes.White text in if starts_with nat_eq (drop count text) (codes "\"") then Some (stands None (count + 1)) else None

abbrev pub joint_at : List ℕ → Option Stands
joint_at [] = None
joint_at (byte ∷ text) = if byte == 0x22 then closed_joint text else None

-- 1 if it begins with the byte
abbrev pub has_first : ℕ → List ℕ → ℕ
has_first byte [] = 0
has_first byte (first ∷ text) = if first == byte then 1 else 0

-- after `\x`: digits, perhaps in braces
abbrev pub hex_in : List ℕ → Option Stands
hex_in text =
    let opening = has_first 0x7b text in
    let digits = drop opening text in
    let count = run_length classes.Hex digits in
    if count == 0 then None else Some (stands (Some (value_from 16 0 (take count digits))) (1 + opening + count + has_first 0x7d (drop count digits)))

-- after `\u` or `\U`: two digits after zeros
abbrev pub universal_in : List ℕ → Option Stands
universal_in text =
    let count = run_length classes.Hex text in
    if nat_le 2 count && nat_le count (run_length classes.Zero text + 2) then Some (stands (Some (value_from 16 0 (take count text))) (1 + count)) else None

-- after a backslash: up to three digits
abbrev pub octal_in : List ℕ → Option Stands
octal_in text =
    let all = run_length classes.Octal text in
    let count = if nat_le all 3 then all else 3 in
    if count == 0 then None else Some (stands (Some (value_from 8 0 (take count text))) count)

abbrev pub number_in : List ℕ → Option Stands
number_in [] = None
number_in (byte ∷ text) = if byte == 0x78 then hex_in text else (if byte == 0x75 || byte == 0x55 then universal_in text else octal_in (byte ∷ text))

abbrev pub escape_at : List ℕ → Option Stands
escape_at [] = None
escape_at (byte ∷ text) = if byte == 0x5c then number_in text else None

abbrev pub reading : Pass → List ℕ → Option Stands
reading passes.Breaks text = break_at text
reading passes.Joints text = joint_at text
reading passes.Escapes text = escape_at text

abbrev pub read : Pass → List ℕ → List ℕ
read pass text = read_from (reading pass) 0 text

-- ---- all of it, in small letters

abbrev pub small : ℕ → ℕ
small byte = if nat_le 0x41 byte && nat_le byte 0x5a then byte + 32 else byte

abbrev pub assembled : List ℕ → List ℕ
assembled text = map small (read passes.Escapes (read passes.Joints (read passes.Breaks text)))
