-- Targets of dependencies and objects, by which one names the other.
use Rattle.std.specs.Prelude.{ℕ, Bool, true, false, cond, not, ◌&&◌, nat_eq, List, drop, codes, Option, None, Some}
use Rattle.std.specs.List.{list_any, starts_with}
use Rattle.std.specs.Option.{option_or}
use Rattle.std.specs.Str.{bytes_eq}
use Rattle.scl_catalogue.specs.Found.{OptionSeen}
use Rattle.scl_catalogue.specs.declared.seen.Standing.{Standing}
use Rattle.scl_catalogue.specs.declared.seen.Standing.TheVariants as standing
use Rattle.scl_files.specs.Paths.{file_name, with_extension}

-- what follows a flag of three bytes in one word
abbrev pub behind : (flag : List ℕ) → List ℕ → Option (List ℕ)
behind flag word = cond (starts_with nat_eq word flag) (Some (drop 3 word)) None

-- the target that is joined to its flag
abbrev pub joined_target : List ℕ → Option (List ℕ)
joined_target word = option_or (behind (codes "-MT") word) (behind (codes "-MQ") word)

abbrev pub is_other : (object : List ℕ) → Option (List ℕ) → Bool
is_other object None = false
is_other object (Some target) = not (bytes_eq target object)

abbrev pub other_by : (object : List ℕ) → Standing → (name kind value : List ℕ) → Bool
other_by object standing.Raw name kind value = false
other_by object standing.Unknown name kind value = is_other object (joined_target name)
other_by object standing.Known name kind value = bytes_eq kind (codes "dep-target") && not (bytes_eq value object)

-- the option names a target that is not this object
abbrev pub names_other : (object : List ℕ) → OptionSeen → Bool
names_other object o = other_by object o.standing o.name o.kind o.value

abbrev pub has_other_target : (object : List ℕ) → List OptionSeen → Bool
has_other_target object options = list_any (names_other object) options

abbrev pub renamed_from : Option (List ℕ) → (object : List ℕ) → Bool
renamed_from None object = true
renamed_from (Some name) object = not (bytes_eq (with_extension name (codes "o")) object)

-- the object is not the input's file name with extension o
abbrev pub is_renamed : (input object : List ℕ) → Bool
is_renamed input object = renamed_from (file_name input) object
