-- The names of rows, and the part of a description that each is of.
use Rattle.std.specs.Prelude.{ℕ, List, [], ◌∷◌, map, codes, find, Option}
use Rattle.std.specs.Borrow.{Bor}
use Rattle.std.specs.Option.{option_map}
use Rattle.std.specs.Str.{bytes_eq}
use Prim.Native.String.{String}
use Rattle.scl_description.specs.declared.names.Part.{Part}
use Rattle.scl_description.specs.declared.names.Part.TheVariants.{Always, Runs, Key, Tables, Options, Questions}

-- the name of rows, and the part of the description that they are of
pub record PartRow : Type 0 where
  pub text : List ℕ
  pub part : Part

abbrev pub row : String → Part → PartRow
row text part = record { text = codes text; part = part }

abbrev pub rows_of : List (Bor (List ℕ) × Part) → List PartRow
rows_of rows = map (λ row. record { text = row.0.now; part = row.1 }) rows

unfoldable pub parts : List PartRow
parts =
    row "version" Always
    ∷ row "input" Always
    ∷ row "language" Always
    ∷ row "compilation-flag" Always
    ∷ row "output" Always
    ∷ row "depfile" Always
    ∷ row "preprocessor" Always
    ∷ row "dependency" Always
    ∷ row "arch" Always
    ∷ row "unhashed" Always
    ∷ row "common" Always
    ∷ row "hash" Always
    ∷ row "dist" Always
    ∷ row "environment" Always
    ∷ row "color" Always
    ∷ row "double-dash-input" Always
    ∷ row "external-assembler" Always
    ∷ row "show-includes" Always
    ∷ row "explicit-language" Always
    ∷ row "profile-generate" Always
    ∷ row "no-rewrite-includes-only" Always
    ∷ row "too-hard" Always
    ∷ row "reason" Always
    ∷ row "because" Always
    ∷ row "sentence" Always
    ∷ row "run" Runs
    ∷ row "key" Key
    ∷ row "direct" Key
    ∷ row "keep" Key
    ∷ row "directory-in-object" Key
    ∷ row "hazard" Tables
    ∷ row "reads" Tables
    ∷ row "reads-like" Tables
    ∷ row "writes" Tables
    ∷ row "writes-like" Tables
    ∷ row "loads" Tables
    ∷ row "loads-like" Tables
    ∷ row "asks" Tables
    ∷ row "at" Options
    ∷ row "option" Options
    ∷ row "wants" Questions
    ∷ []

abbrev pub part_in : List PartRow → List ℕ → Option Part
part_in rows name = option_map (λ row. row.part) (find (λ row. bytes_eq row.text name) rows)

-- the part that has rows of this name
abbrev pub part_of : List ℕ → Option Part
part_of name = part_in parts name
