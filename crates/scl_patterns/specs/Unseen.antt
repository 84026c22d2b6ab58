-- What a source reads that no name in it says.
use Rattle.std.specs.Prelude.{ℕ, ◌==◌, ◌&&◌, ◌||◌, not, nat_eq, nat_le, Bool, true, false, List, [], ◌∷◌, codes}
use Rattle.std.specs.List.{list_any, starts_with}
use Rattle.std.specs.Option.{option_map_or}
use Rattle.scl_readings.specs.Lines.{lines}
use Rattle.scl_readings.specs.Markers.{after, skip}
use Rattle.scl_readings.specs.Names.{is_name_byte}
use Rattle.scl_readings.specs.Places.{has_word}
use Rattle.scl_patterns.specs.Assembled.{is_gap}
use Rattle.scl_patterns.specs.Patterns.{behind, other_than}
use Rattle.scl_patterns.specs.Sources.{asked, first_line}
use Rattle.scl_patterns.specs.declared.unseen.Next.{Next}
use Rattle.scl_patterns.specs.declared.unseen.Next.TheVariants as nexts

-- the word stands there, perhaps behind a gap
abbrev pub goes_on : (word : List ℕ) → List ℕ → Bool
goes_on word rest = starts_with nat_eq (skip is_gap rest) word

-- in a parenthesis: no name
abbrev pub is_no_name : List ℕ → Bool
is_no_name inner = other_than (codes "<\"\n") (skip is_gap inner)

-- after `__has_include`: a comment, or in the parenthesis no name
abbrev pub asks_by_macro : List ℕ → Bool
asks_by_macro rest = goes_on (codes "/") (asked rest) || option_map_or is_no_name (after (codes "(") (asked rest)) false

-- after `ragma`: it reads a file, or says that a name means another file
abbrev pub reads_by_pragma : List ℕ → Bool
reads_by_pragma rest =
    let line = first_line rest in
    has_word (codes "dependency") line || (has_word (codes "module") line || (has_word (codes "pch_preprocess") line || has_word (codes "include_alias") line))

-- after `%:`, which is `#`: a directive, or a comment before one
abbrev pub begins_directive : List ℕ → Bool
begins_directive [] = false
begins_directive (byte ∷ text) = byte == 0x2f || (nat_le 0x61 byte && nat_le byte 0x7a)

-- no parenthesis follows
abbrev pub is_no_call : List ℕ → Bool
is_no_call rest = not (goes_on (codes "(") rest)

abbrev pub has_gap : List ℕ → Bool
has_gap [] = false
has_gap (byte ∷ text) = is_gap byte

-- after `define`: a macro stands for `__has_include`
abbrev pub renames_asking : List ℕ → Bool
renames_asking rest = has_gap rest && list_any is_no_call (behind (codes "__has_include") (first_line rest))

-- ---- signs: a word, and what follows it

abbrev pub follows : Next → List ℕ → Bool
follows nexts.Anything rest = true
follows nexts.Hash rest = goes_on (codes "#") rest
follows nexts.Comment rest = goes_on (codes "/*") rest
follows nexts.Embed rest = goes_on (codes "embed") rest
follows nexts.Directive rest = begins_directive (skip is_gap rest)
follows nexts.Reading rest = reads_by_pragma rest
follows nexts.NoName rest = asks_by_macro rest
follows nexts.Renaming rest = renames_asking rest

-- signs of what no name says: words, and what stands behind them
abbrev pub signs : List (List ℕ × Next)
signs =
    -- the time
    (codes "__DATE__", nexts.Anything)
    ∷ (codes "__TIME__", nexts.Anything)
    ∷ (codes "__TIMESTAMP__", nexts.Anything)
    -- the bytes of a file
    ∷ (codes "__has_embed", nexts.Anything)
    ∷ (codes "#", nexts.Embed)
    -- trigraphs of a backslash and of `#`, and the digraph of `#`
    ∷ (codes "??/", nexts.Anything)
    ∷ (codes "??=", nexts.Anything)
    ∷ (codes "%:", nexts.Directive)
    -- a comment before a directive, or within it
    ∷ (codes "*/", nexts.Hash)
    ∷ (codes "#", nexts.Comment)
    -- a file by a pragma, or by a macro
    ∷ (codes "ragma", nexts.Reading)
    ∷ (codes "__has_include", nexts.NoName)
    ∷ (codes "define", nexts.Renaming)
    -- a byte that is in no text
    ∷ (0 ∷ [], nexts.Anything)
    ∷ []

abbrev pub has_sign : List ℕ → (List ℕ × Next) → Bool
has_sign text sign = list_any (follows sign.1) (behind sign.0 text)

-- ---- an included name that is a macro

-- a macro, or a comment
abbrev pub begins_macro : List ℕ → Bool
begins_macro [] = false
begins_macro (byte ∷ text) = is_name_byte byte || (byte == 0x24 || byte == 0x2f)

abbrev pub includes_by : (word : List ℕ) → List ℕ → Bool
includes_by word directive = option_map_or (λ rest. begins_macro (asked rest)) (after word directive) false

abbrev pub includes_by_macro : List ℕ → Bool
includes_by_macro directive = includes_by (codes "include") directive || includes_by (codes "import") directive

-- the line is such a directive
abbrev pub is_macro_line : List ℕ → Bool
is_macro_line line = option_map_or (λ directive. includes_by_macro (skip is_gap directive)) (after (codes "#") (skip is_gap line)) false

-- ---- all of it

abbrev pub reads_unseen : List ℕ → Bool
reads_unseen text = list_any (has_sign text) signs || list_any is_macro_line (lines text)
