-- Requests and answers as they are written.
use Rattle.std.specs.Prelude.{ℕ, ◌<◌, ◌≡◌, Bool, true, false, List, [], ◌∷◌, ◌++◌, map, codes, Some, None, MatchOption, length, take, slice_index_or, ◌+◌}
use Rattle.std.specs.List.{flat_map, filter_map}
use Rattle.scl_text.specs.declared.records.Cacheable.{Cacheable}
use Rattle.scl_files.specs.Characters.{tab, line_feed}
use Rattle.scl_reader.specs.declared.compiler.Compiler.{Compiler}
use Rattle.scl_description.specs.Lines.{cut_at, line, lines_of}
use Rattle.scl_values.specs.Each.{Each}
use Rattle.scl_values.specs.Escaped.{escaped}
use Rattle.scl_description.specs.Fields.{AreBytes, AreAllBytes, ArePrintable, field_of}
use Rattle.scl_reader.specs.Compilers.{name_of, compiler_named}
use Rattle.scl_cl.specs.declared.keyword.Keyword.{Keyword}
use Rattle.scl_cl.specs.Sayings.{Saying, said, keyword_named}
use Rattle.scl_cl.specs.Sayings as sayings
use Rattle.scl_cl.specs.Requests.{gathered, breaks, first_broken}
use Rattle.scl_cl.specs.AnswerTexts.{text_of, cacheable_text}
use Rattle.scl_reader.specs.Answers.{compiled}

-- it can be written: its byte strings are bytes
abbrev pub CanBeWritten : Saying → Type 0
CanBeWritten sayings.Blank = Unit {0}
CanBeWritten (sayings.Compiler compiler) = Unit {0}
CanBeWritten (sayings.Directory directory) = AreBytes directory
CanBeWritten (sayings.Word word) = AreBytes word
CanBeWritten (sayings.File path bytes) = AreBytes path × AreBytes bytes
CanBeWritten (sayings.ViewedDirectory path) = AreBytes path
CanBeWritten (sayings.Existing path) = AreBytes path
CanBeWritten (sayings.Variable key value) = AreBytes key × AreBytes value
CanBeWritten sayings.Multiarch = Unit {0}

abbrev pub AllCanBeWritten : List Saying → Type 0
AllCanBeWritten = Each CanBeWritten

-- the line for this
abbrev pub written : Saying → List ℕ
written sayings.Blank = []
written (sayings.Compiler compiler) = codes "compiler " ++ name_of compiler
written (sayings.Directory directory) = codes "cwd " ++ escaped directory
written (sayings.Word word) = codes "word " ++ escaped word
written (sayings.File path bytes) = codes "file " ++ escaped path ++ tab ∷ escaped bytes
written (sayings.ViewedDirectory path) = codes "dir " ++ escaped path
written (sayings.Existing path) = codes "exists " ++ escaped path
written (sayings.Variable key value) = codes "env " ++ escaped key ++ tab ∷ escaped value
written sayings.Multiarch = codes "multiarch"

-- A field that is written is read back.
abbrev pub FieldReadsBack : Type 0
FieldReadsBack = (bytes : List ℕ) → AreBytes bytes → field_of (escaped bytes) ≡ Some bytes

-- A field that is written is printable.
abbrev pub FieldIsPrintable : Type 0
FieldIsPrintable = (bytes : List ℕ) → AreBytes bytes → ArePrintable (escaped bytes)

-- A line that is written says what it was written for.
abbrev pub LineReadsBack : Type 0
LineReadsBack = (s : Saying) → CanBeWritten s → said (written s) ≡ Some s

-- The lines of a request that is written say what they were written for.
abbrev pub RequestReadsBack : Type 0
RequestReadsBack = (all : List Saying) → AllCanBeWritten all → filter_map said (lines_of (flat_map (λ s. line (written s)) all)) ≡ all

-- A line ends at the first LF; bytes without one are one line.
abbrev pub LinesEndAtFeeds : Type 0
LinesEndAtFeeds = (line rest : List ℕ) → cut_at line_feed line ≡ None → lines_of (line ++ line_feed ∷ rest) ≡ line ∷ lines_of rest

-- The lines of the text of a command are `ok`, one line for each word, and whether its result can be cached.
abbrev pub AnswerHasLines : Type 0
AnswerHasLines = (words : List (List ℕ)) (kept : Cacheable) → AreAllBytes words
    → lines_of (text_of (compiled words kept)) ≡ (codes "ok" ∷ map (λ word. codes "arg " ++ escaped word) words) ++ cacheable_text kept ∷ []

-- The k-th line breaks a rule, given the lines before it.
abbrev pub breaks_at : List (List ℕ) → ℕ → Bool
breaks_at lines k = breaks (gathered (filter_map said (take k lines))) (said (slice_index_or lines k []))

-- The bad line breaks a rule, and none before it does; if there is no bad line, no line does.
abbrev pub BadLineIsFirst : Type 0
BadLineIsFirst = (lines : List (List ℕ)) → MatchOption (first_broken 1 [] lines)
    ((k : ℕ) → k < length lines → breaks_at lines k ≡ false)
    (λ n. (k : ℕ) × (n ≡ k + 1) × (k < length lines) × (breaks_at lines k ≡ true) × ((j : ℕ) → j < k → breaks_at lines j ≡ false))

-- A compiler is found by its name, and a keyword by its text.
abbrev pub NamesReadBack : Type 0
NamesReadBack = ((compiler : Compiler) → compiler_named (name_of compiler) ≡ Some compiler) × ((keyword : Keyword) → keyword_named (sayings.keyword_text keyword) ≡ Some keyword)
