-- What words of a command line do beside compiling, as far as a key has to answer for it.
use Rattle.std.specs.Prelude.{ℕ, Bool, true, false, nat_eq, ◌-◌, ◌||◌, List, [], ◌∷◌, ◌++◌, codes, map, if◌then◌else◌}
use Rattle.std.specs.List.{flat_map, starts_with}
use Rattle.std.specs.Str.{bytes_eq}
use Rattle.scl_catalogue.specs.Lookup.{Lexicon, doing_of}
use Rattle.scl_catalogue.specs.declared.entry.Doing.{Doing}
use Rattle.scl_catalogue.specs.declared.entry.Doing.TheVariants.{Plain, Exact, Macros, WritesUnnamed, TextHides, ReadsCounts, ReadsSamples}

-- a word, and what it does
pub record Judged : Type 0 where
  pub word : List ℕ
  pub doing : Doing

abbrev pub judged : List ℕ → Doing → Judged
judged word doing = record { word = word; doing = doing }

-- the words, each with what it does
abbrev pub judged_in : Lexicon → List (List ℕ) → List Judged
judged_in l words = map (λ word. judged word (doing_of l word)) words

-- a word for the assembler by which it writes a file that no row names
abbrev pub writes_by_assembler : List ℕ → Bool
writes_by_assembler word =
    starts_with nat_eq word (codes "-o") || (starts_with nat_eq word (codes "-MD") || starts_with nat_eq word (codes "--listing"))

-- ---- tests of what words do

abbrev pub is_plain : Doing → Bool
is_plain Plain = true
is_plain Exact = false
is_plain Macros = false
is_plain WritesUnnamed = false
is_plain TextHides = false
is_plain ReadsCounts = false
is_plain ReadsSamples = false

abbrev pub keeps_macros : Doing → Bool
keeps_macros Plain = false
keeps_macros Exact = false
keeps_macros Macros = true
keeps_macros WritesUnnamed = false
keeps_macros TextHides = false
keeps_macros ReadsCounts = false
keeps_macros ReadsSamples = false

-- ---- words for the assembler

abbrev pub is_comma : ℕ → Bool
is_comma byte = nat_eq byte 44

-- what stands after each such byte of a text
abbrev pub suffixes : ℕ → List ℕ → List (List ℕ)
suffixes mark [] = []
suffixes mark (byte ∷ bytes) = if nat_eq byte mark then bytes ∷ suffixes mark bytes else suffixes mark bytes

-- what stands before the first such byte of a text
abbrev pub until : ℕ → List ℕ → List ℕ
until mark [] = []
until mark (byte ∷ bytes) = if nat_eq byte mark then [] else byte ∷ until mark bytes

-- what stands after each such byte of a text: all after the first ones, as many as `whole`, and after the others what stands before the next
abbrev pub pieces : (mark whole : ℕ) → List ℕ → List (List ℕ)
pieces mark whole [] = []
pieces mark whole (byte ∷ bytes) =
    if nat_eq byte mark then (if nat_eq whole 0 then until mark bytes else bytes) ∷ pieces mark (whole - 1) bytes else pieces mark whole bytes

-- the words that a word passes to the assembler
abbrev pub handed_words : List ℕ → List (List ℕ)
handed_words word = if starts_with nat_eq word (codes "-Wa,") then pieces 44 0 word else []

-- the words after each word that is this flag
abbrev pub behind : (flag : List ℕ) → (is_behind : Bool) → List (List ℕ) → List (List ℕ)
behind flag is_behind [] = []
behind flag true (word ∷ words) = word ∷ behind flag false words
behind flag false (word ∷ words) = behind flag (bytes_eq word flag) words

-- the words for the assembler among words of a command
abbrev pub assembler_words : List (List ℕ) → List (List ℕ)
assembler_words words = flat_map handed_words words ++ behind (codes "-Xassembler") false words
