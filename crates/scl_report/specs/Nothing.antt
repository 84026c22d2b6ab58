-- Why a command line compiles nothing.
use Rattle.std.specs.Prelude.{ℕ, ◌&&◌, not, Bool, true, false, List, [], ◌∷◌, codes, find, Option, None, Some, is_some, unwrap_or, if◌then◌else◌}
use Rattle.std.specs.List.{list_any}
use Rattle.std.specs.Option.{option_map}
use Rattle.std.specs.Str.{bytes_eq}
use Rattle.scl_rows.specs.Rows.{Told}
use Rattle.scl_text.specs.Records.{Verdict, CannotCache, NotCompilation}

abbrev pub is_no_compilation : Option Verdict → Bool
is_no_compilation None = false
is_no_compilation (Some (CannotCache reason beside)) = false
is_no_compilation (Some NotCompilation) = true

-- the option asks for something else than to compile
unfoldable pub is_other_mode : Told → Bool
is_other_mode row = is_no_compilation row.refusal

abbrev pub begins_with : List ℕ → List (List ℕ) → Bool
begins_with word [] = false
begins_with word (first ∷ others) = bytes_eq first word

-- the option is `-S`, and the tables have none
unfoldable pub asks_for_assembly : Told → Bool
asks_for_assembly row = not (is_some row.flag) && begins_with (codes "-S") row.given

-- why no option asks to compile
abbrev pub why_none_asks : List Told → List ℕ
why_none_asks rows = if list_any asks_for_assembly rows then codes "-S" else codes "no flag says to compile and not to link"

-- the first flag that asks for something else, or that none asks to compile
abbrev pub why_nothing : List Told → List ℕ
why_nothing rows = unwrap_or (option_map (λ row. unwrap_or row.flag (codes "another mode")) (find is_other_mode rows)) (why_none_asks rows)
