-- Whether an object names the place where it is made, and what else may make it name one.
use Rattle.std.specs.Prelude.{ℕ, Bool, ◌&&◌, not, List, codes, if◌then◌else◌}
use Rattle.scl_shared_key.specs.declared.said.InObject.{InObject}
use Rattle.scl_shared_key.specs.declared.said.InObject.TheVariants.{No, Yes, Mapped}
use Rattle.scl_shared_key.specs.Maps.{debug_info_is_free, macros_are_free, maps_among}
use Rattle.scl_shared_key.specs.Objects.{Object, has_debug_info, maps_reach, may_name_anything}
use Rattle.scl_shared_key.specs.Usuals.{are_usual}

-- ---- whether it names one of the directories

abbrev pub in_object_name : InObject → List ℕ
in_object_name No = codes "no"
in_object_name Yes = codes "yes"
in_object_name Mapped = codes "mapped"

-- what debug information leaves of the directories
abbrev pub named_in_debug_info : List (List ℕ) → Object → InObject
named_in_debug_info dirs o = if maps_reach o && debug_info_is_free dirs (maps_among o.lexicon o.words) then Mapped else Yes

abbrev pub named_if_known : List (List ℕ) → Object → InObject
named_if_known dirs o = if has_debug_info o then named_in_debug_info dirs o else No

-- whether the object names one of the directories
abbrev pub named_in : List (List ℕ) → Object → InObject
named_in dirs o = if are_usual dirs && (o.is_of_shown_text && not (may_name_anything o)) then named_if_known dirs o else Yes

-- ---- what else may make it name one

-- What in a text makes an object of Gcc name a source, if maps free macros or do not. Of a directive `.loc` the assembler makes debug
-- information of its own, with its directory.
abbrev pub names_by_gcc : (free : Bool) → List ℕ
names_by_gcc free = if free then codes "\\.[Ll][Oo][Cc]([^A-Za-z0-9_]|$)|__builtin_dump_struct" else codes "\\.[Ll][Oo][Cc]([^A-Za-z0-9_]|$)|__builtin_(FILE|source_location|dump_struct)"

-- The same of Clang, whatever the maps are: it names types that have no name by their place.
abbrev pub names_by_clang : List ℕ
names_by_clang = codes "__builtin_(FILE|source_location|dump_struct)|__PRETTY_FUNCTION__"

abbrev pub names_shown : (gcc free : Bool) → List ℕ
names_shown gcc free = if gcc then names_by_gcc free else names_by_clang

-- What in a plan makes the object name a directory or a source: options that nobody gave. With the verdict `no` those of debug
-- information too.
abbrev pub names_planned : InObject → List ℕ
names_planned No = codes "[ \"'](-debug-info-kind|--?g([^0n]|$)|-f(profile|test-coverage|coverage-mapping|sanitize|lto|embed-bitcode|pseudo-probe|unique-internal|record)|-emit-llvm|-coverage-(data|notes)|-dwarf-debug-flags|-record-command-line)"
names_planned Yes = codes "[ \"'](-f(profile|test-coverage|coverage-mapping|sanitize|lto|embed-bitcode|pseudo-probe|unique-internal|record)|-emit-llvm|-coverage-(data|notes)|-dwarf-debug-flags|-record-command-line)"
names_planned Mapped = codes "[ \"'](-f(profile|test-coverage|coverage-mapping|sanitize|lto|embed-bitcode|pseudo-probe|unique-internal|record)|-emit-llvm|-coverage-(data|notes)|-dwarf-debug-flags|-record-command-line)"

-- ---- the verdict

-- what is said of an object
pub record Verdict : Type 0 where
  -- whether it names one of the directories
  pub in_object : InObject
  -- what in a text makes it name a source
  pub shown : List ℕ
  -- what in a plan makes it name a directory or a source
  pub planned : List ℕ

abbrev pub verdict : List (List ℕ) → Object → Verdict
verdict dirs o = record {
  in_object = named_in dirs o;
  shown = names_shown o.is_by_gcc (macros_are_free dirs (maps_among o.lexicon o.words));
  planned = names_planned (named_in dirs o);
}
