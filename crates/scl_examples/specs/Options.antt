-- Rows of what words are cut into, of what options print, and of owners.
use Rattle.std.specs.Prelude.{◌≡◌, ℕ, true, false, List, [], ◌∷◌, codes, Option, None, Some}
use Prim.Native.String.{String}
use Rattle.std.specs.Option.{option_map}
use Rattle.scl_values.specs.Cuts.{Cut, Cutting, raw, unknown, flag, with_value, clean, dangling, cut}
use Rattle.scl_values.specs.Row.{Row, Shape, row, bare, apart, joined, either}
use Rattle.scl_values.specs.Spell.{spell_value, normal_how}
use Rattle.scl_values.specs.Tables.{is_table, owner, owner_in}
use Rattle.scl_values.specs.declared.argument.ArgDisposition.{ArgDisposition}
use Rattle.scl_values.specs.declared.argument.ArgDisposition.TheVariants as how
use Rattle.scl_values.specs.declared.argument.NormalizedDisposition.TheVariants as side
use Rattle.scl_examples.specs.Written.{equals, at_sign, words}

-- ---- printed

abbrev pub printed : ArgDisposition → List (List ℕ)
printed d = spell_value (codes "-foo") (codes "bar") d

-- how a value stands, and the words of its option
abbrev pub ValuesArePrinted : Type 0
ValuesArePrinted =
    (printed (how.Concatenated None) ≡ words "-foobar")
    × (printed (how.CanBeSeparated None) ≡ words "-foobar")
    × (printed (how.Concatenated (Some equals)) ≡ words "-foo=bar")
    × (printed (how.CanBeSeparated (Some equals)) ≡ words "-foo=bar")
    × (printed how.Separated ≡ words "-foo bar")
    × (printed (how.CanBeConcatenated (Some equals)) ≡ words "-foo bar")

-- only a value that may stand on either side is moved
abbrev pub ValuesAreMoved : Type 0
ValuesAreMoved =
    (normal_how side.Separated (how.CanBeSeparated None) ≡ how.Separated)
    × (normal_how side.Separated (how.CanBeConcatenated None) ≡ how.Separated)
    × (normal_how side.Concatenated (how.CanBeSeparated (Some equals)) ≡ how.Concatenated (Some equals))
    × (normal_how side.Concatenated (how.CanBeConcatenated (Some equals)) ≡ how.Concatenated (Some equals))
    × (normal_how side.Concatenated how.Separated ≡ how.Separated)
    × (normal_how side.Separated (how.Concatenated None) ≡ how.Concatenated None)

-- ---- cut

abbrev pub bar : Row ℕ
bar = row (codes "-bar") 0 bare

abbrev pub foo : Row ℕ
foo = row (codes "-foo") 1 apart

abbrev pub fuga : Row ℕ
fuga = row (codes "-fuga") 2 bare

abbrev pub hoge : Row ℕ
hoge = row (codes "-hoge") 3 (joined None)

abbrev pub plop : Row ℕ
plop = row (codes "-plop") 4 bare

abbrev pub qux : Row ℕ
qux = row (codes "-qux") 5 (either (Some equals))

abbrev pub zorglub : Row ℕ
zorglub = row (codes "-zorglub") 6 bare

-- a row of each shape
abbrev pub shapes : List (Row ℕ)
shapes = bar ∷ foo ∷ fuga ∷ hoge ∷ plop ∷ qux ∷ zorglub ∷ []

-- what the words are cut into by a table, with a clean end
abbrev pub cut_clean : List (Cut ℕ) → Cutting ℕ
cut_clean options = record { options = options; end = clean }

-- a last flag whose value is missing
abbrev pub cut_short : Cutting ℕ
cut_short = record { options = []; end = dangling }

-- where `--` ends the options, all words after it are raw
abbrev pub WordsAfterDashesAreRaw : Type 0
WordsAfterDashesAreRaw =
    cut (owner shapes) true (words "-nomatch -foo value -hoge value -hoge=value -hogevalue -zorglub -qux value -plop -quxbar -qux=value -- non_flag -flag")
    ≡ cut_clean
    (unknown (codes "-nomatch")
    ∷ with_value foo (codes "value") how.Separated
    ∷ with_value hoge [] (how.Concatenated None)
    ∷ raw (codes "value")
    ∷ with_value hoge (codes "=value") (how.Concatenated None)
    ∷ with_value hoge (codes "value") (how.Concatenated None)
    ∷ flag zorglub
    ∷ with_value qux (codes "value") (how.CanBeConcatenated (Some equals))
    ∷ flag plop
    ∷ unknown (codes "-quxbar")
    ∷ with_value qux (codes "value") (how.CanBeSeparated (Some equals))
    ∷ raw (codes "--")
    ∷ raw (codes "non_flag")
    ∷ raw (codes "-flag")
    ∷ [])

-- elsewhere options go on
abbrev pub WithoutDashesOptionsGoOn : Type 0
WithoutDashesOptionsGoOn = cut (owner shapes) false (words "-- -bar -") ≡ cut_clean (unknown (codes "--") ∷ flag bar ∷ unknown (codes "-") ∷ [])

-- what the flag of a row by itself is cut into
abbrev pub cut_alone : Row ℕ → Cutting ℕ
cut_alone only = cut (owner (only ∷ [])) false (words "-foo")

-- a last flag has no value, or the empty one where its row has an either shape without a delimiter
abbrev pub LastFlagsAreCut : Type 0
LastFlagsAreCut =
    (cut_alone foo ≡ cut_short)
    × (cut_alone (row (codes "-foo") 1 (either (Some equals))) ≡ cut_short)
    × (cut_alone (row (codes "-foo") 1 (either None)) ≡ cut_clean (with_value (row (codes "-foo") 1 (either None)) [] (how.Concatenated None) ∷ []))

-- ---- owners

-- flags that go on after one another, and the empty one
abbrev pub nested : List (Row ℕ)
nested =
    row [] 0 (joined (Some at_sign))
    ∷ row (codes "-a") 1 bare
    ∷ row (codes "-ab") 2 (joined None)
    ∷ row (codes "-abcd") 3 (either (Some equals))
    ∷ row (codes "-b") 4 bare
    ∷ []

-- the kind of the row that owns the word
abbrev pub found : List (List (Row ℕ)) → String → Option ℕ
found tables word = option_map (λ row. row.kind) (owner_in tables (codes word))

-- the row with the longest flag that fits owns the word
abbrev pub LongestFlagsAreFound : Type 0
LongestFlagsAreFound =
    (found (nested ∷ []) "@file" ≡ Some 0)
    × (found (nested ∷ []) "-a" ≡ Some 1)
    × (found (nested ∷ []) "-abc" ≡ Some 2)
    × (found (nested ∷ []) "-abcde" ≡ Some 2)
    × (found (nested ∷ []) "-abcd=e" ≡ Some 3)
    × (found (nested ∷ []) "-ac" ≡ None)
    × (found (nested ∷ []) "-" ≡ None)

abbrev pub include : List (Row ℕ)
include = row (codes "-include") 0 (joined None) ∷ []

abbrev pub include_pch : List (Row ℕ)
include_pch = row (codes "-include-pch") 1 (joined None) ∷ []

abbrev pub other_include : List (Row ℕ)
other_include = row (codes "-include") 2 (joined None) ∷ []

-- of several tables the longest flag wins, and of one length the last table's
abbrev pub LongestOfTablesAreFound : Type 0
LongestOfTablesAreFound =
    (found (include ∷ include_pch ∷ []) "-include" ≡ Some 0)
    × (found (include ∷ include_pch ∷ []) "-include-pch" ≡ Some 1)
    × (found (include_pch ∷ include ∷ []) "-include" ≡ Some 0)
    × (found (include_pch ∷ include ∷ []) "-include-pch" ≡ Some 1)
    × (found (include ∷ other_include ∷ []) "-include" ≡ Some 2)
    × (found (include ∷ include_pch ∷ other_include ∷ []) "-include" ≡ Some 2)
    × (found (include ∷ include_pch ∷ other_include ∷ []) "-include-pch" ≡ Some 1)
    × (found (include ∷ include_pch ∷ other_include ∷ []) "-inc" ≡ None)

-- without rows, or without tables, nothing is found
abbrev pub NothingIsFoundWithoutRows : Type 0
NothingIsFoundWithoutRows = (found [] "-include" ≡ None) × (found ([] ∷ []) "-abcd" ≡ None)

-- the row `-foo` of this shape by itself
abbrev pub foo_of : Shape → List (Row ℕ)
foo_of shape = row (codes "-foo") 1 shape ∷ []

-- a value that may stand on either side is joined after the delimiter only
abbrev pub DelimitersStandAfterFlags : Type 0
DelimitersStandAfterFlags =
    (found (foo_of (either (Some equals)) ∷ []) "-foo" ≡ Some 1)
    × (found (foo_of (either (Some equals)) ∷ []) "-foo=" ≡ Some 1)
    × (found (foo_of (either (Some equals)) ∷ []) "-foo=bar" ≡ Some 1)
    × (found (foo_of (either (Some equals)) ∷ []) "-foobar" ≡ None)
    × (found (foo_of (either (Some equals)) ∷ []) "-fo" ≡ None)

-- rows make a table if their flags rise by bytes and each delimiter is below 128
abbrev pub RisingRowsMakeATable : Type 0
RisingRowsMakeATable =
    (is_table shapes ≡ true)
    × (is_table (bar ∷ bar ∷ []) ≡ false)
    × (is_table (plop ∷ bar ∷ []) ≡ false)
    × (is_table (foo_of (joined (Some 127))) ≡ true)
    × (is_table (foo_of (joined (Some 128))) ≡ false)
