-- What a catalogue says of a word of a command.
use Rattle.std.specs.Prelude.{ℕ, cond, false, List, [], ◌∷◌, ◌++◌, length, Option, None, Some, find, flat_map, unwrap_or}
use Rattle.std.specs.List.{list_any}
use Rattle.std.specs.Option.{option_map}
use Rattle.scl_catalogue.specs.Form.{Pattern, Text, Test, Relation, Condition, Case, Tells, Hazard, Effect, Plain, Key, Run, Names, Brings, Entry, Catalogue}
use Rattle.scl_catalogue.specs.Found.{OptionSeen, fits, is_of, one_fits, serves}
use Rattle.scl_catalogue.specs.Keyed.{first_group}
use Rattle.scl_catalogue.specs.Speaking.{relation_at, speaks_of}
use Rattle.scl_catalogue.specs.declared.case.Compiler.{Compiler}
use Rattle.scl_catalogue.specs.declared.case.Version.{Version}
use Rattle.scl_catalogue.specs.declared.entry.Brings as code
use Rattle.scl_catalogue.specs.declared.entry.Doing.{Doing}
use Rattle.scl_catalogue.specs.declared.entry.Doing.TheVariants as doing
use Rattle.scl_catalogue.specs.declared.entry.Naming.{Naming}
use Rattle.scl_catalogue.specs.declared.entry.Naming.TheVariants as naming
use Rattle.scl_catalogue.specs.declared.lookup.Brought.{Brought}
use Rattle.scl_catalogue.specs.declared.seen.Standing.TheVariants as standing
use Rattle.scl_catalogue.specs.declared.speaking.Level.TheVariants as level
use Rattle.scl_catalogue.specs.declared.text.How.{How}
use Rattle.scl_catalogue.specs.declared.text.How.TheVariants as how

-- what an entry states of words, and the entry
pub record Said (A : Type 0) : Type 0 where
  pub says : A
  pub entry : Entry

abbrev pub key_says : Tells → Option Doing
key_says (Hazard d) = None
key_says (Effect v file) = None
key_says Plain = None
key_says (Key d) = Some d
key_says (Run d) = None
key_says (Names n) = None
key_says (Brings b) = None

abbrev pub run_says : Tells → Option Doing
run_says (Hazard d) = None
run_says (Effect v file) = None
run_says Plain = None
run_says (Key d) = None
run_says (Run d) = Some d
run_says (Names n) = None
run_says (Brings b) = None

abbrev pub names_says : Tells → Option Naming
names_says (Hazard d) = None
names_says (Effect v file) = None
names_says Plain = None
names_says (Key d) = None
names_says (Run d) = None
names_says (Names n) = Some n
names_says (Brings b) = None

abbrev pub said_by : {A : Type 0} → Entry → Option A → List (Said A)
said_by e None = []
said_by e (Some a) = record { says = a; entry = e } ∷ []

abbrev pub said : {A : Type 0} → (Tells → Option A) → Entry → List (Said A)
said says e = said_by e (says e.tells)

-- the entries that state such a thing, in their order
abbrev pub all_said : {A : Type 0} → (Tells → Option A) → List Entry → List (Said A)
all_said says es = flat_map (said says) es

-- ---- words of the preprocessor

-- what words bring in, and which words
pub record Flagged : Type 0 where
  pub brings : code.Brings
  pub words : Text

abbrev pub tests_at : Option Relation → List Test
tests_at None = []
tests_at (Some r) = (first_group r).tests

-- the tests of which an option of the line has to pass one
abbrev pub tests_asked : Condition → List Test
tests_asked c = cond c.is_denied [] (tests_at (relation_at level.Outer c.question))

-- the words of a test that a word may pass of which it is only known how it is written
abbrev pub flagged_by : code.Brings → Test → List Flagged
flagged_by brings t = cond (is_of t.class standing.Unknown) (record { brings = brings; words = t.names } ∷ []) []

abbrev pub flagged_condition : code.Brings → Condition → List Flagged
flagged_condition brings c = flat_map (flagged_by brings) (tests_asked c)

abbrev pub flagged_case : Compiler → Option Version → code.Brings → Case → List Flagged
flagged_case compiler version brings c = cond (list_any (serves compiler version) c.served) (flat_map (flagged_condition brings) c.conditions) []

abbrev pub flagged_told : Compiler → Option Version → List Case → Tells → List Flagged
flagged_told compiler version cs (Hazard d) = []
flagged_told compiler version cs (Effect v file) = []
flagged_told compiler version cs Plain = []
flagged_told compiler version cs (Key d) = []
flagged_told compiler version cs (Run d) = []
flagged_told compiler version cs (Names n) = []
flagged_told compiler version cs (Brings b) = flat_map (flagged_case compiler version b) cs

-- the words of which an entry says what they bring in
abbrev pub flagged_in : Compiler → Option Version → Entry → List Flagged
flagged_in compiler version e = flagged_told compiler version e.cases e.tells

abbrev pub front_by : How → List ℕ → ℕ
front_by how.Is text = 0
front_by how.Begins text = length text
front_by how.Ends text = 0
front_by how.Holds text = 0

-- how many bytes stand before the value of a word that one of these fits: those of the first that does
abbrev pub first_front : List Pattern → List ℕ → Option ℕ
first_front ps word = option_map (λ p. front_by p.how p.text) (find (λ p. fits p word) ps)

abbrev pub front_of : Text → List ℕ → Option ℕ
front_of t word = cond (one_fits t.but word) None (first_front t.any word)

abbrev pub brought_or : code.Brings → Option ℕ → Option Brought → Option Brought
brought_or brings None other = other
brought_or brings (Some front) other = Some (record { brings = brings; front = front })

abbrev pub first_brought : List Flagged → List ℕ → Option Brought
first_brought [] word = None
first_brought (f ∷ fs) word = brought_or f.brings (front_of f.words word) (first_brought fs word)

-- ---- all of it

-- what a catalogue says of the words of one compiler's command: for a key, of a run, of what the object names, and of what is brought in
pub record Lexicon : Type 0 where
  pub compiler : Compiler
  pub version : Option Version
  pub key : List (Said Doing)
  pub run : List (Said Doing)
  pub names : List (Said Naming)
  pub brings : List Flagged

abbrev pub lexicon_of_entries : Compiler → Option Version → List Entry → Lexicon
lexicon_of_entries compiler version es = record {
  compiler = compiler;
  version = version;
  key = all_said key_says es;
  run = all_said run_says es;
  names = all_said names_says es;
  brings = flat_map (flagged_in compiler version) es;
}

abbrev pub lexicon_in : Catalogue → Compiler → Option Version → Lexicon
lexicon_in c compiler version = lexicon_of_entries compiler version c.entries

-- the lexicon with what one entry more states
abbrev pub with_entry : Lexicon → Entry → Lexicon
with_entry l e = record l { key = l.key ++ said key_says e; run = l.run ++ said run_says e; names = l.names ++ said names_says e; brings = l.brings ++ flagged_in l.compiler l.version e }

abbrev pub with_flagged : Lexicon → List Flagged → Lexicon
with_flagged l fs = record l { brings = l.brings ++ fs }

-- what the first of these entries states that speaks of the word
abbrev pub first_said : {A : Type 0} → Compiler → Option Version → OptionSeen → List (Said A) → Option A
first_said compiler version o all = option_map (λ s. s.says) (find (λ s. speaks_of compiler version level.Outer o s.entry) all)

-- a word of a command, as an option that no row fits
abbrev pub word_seen : List ℕ → OptionSeen
word_seen word = record {
  standing = standing.Unknown;
  name = word;
  kind = [];
  value = [];
  marks = record { stays = false; is_apart = false; is_joined = false; is_delimiter_dropped = false; has_hidden_value = false };
}

-- what a word does that a key has to answer for; one that no entry knows may have anything of the sources that a text does not show
unfoldable pub doing_of : Lexicon → List ℕ → Doing
doing_of l word = unwrap_or (first_said l.compiler l.version (word_seen word) l.key) doing.Exact

-- what a word does in a run of the preprocessor; by one that no entry knows it may read more
unfoldable pub running_of : Lexicon → List ℕ → Doing
running_of l word = unwrap_or (first_said l.compiler l.version (word_seen word) l.run) doing.Exact

-- what a word makes the object name; one that no entry knows may make it name anything
unfoldable pub naming_of : Lexicon → List ℕ → Naming
naming_of l word = unwrap_or (first_said l.compiler l.version (word_seen word) l.names) naming.Anything

-- what a word brings in, where it is one of the preprocessor
abbrev pub brought_by : Lexicon → List ℕ → Option Brought
brought_by l word = first_brought l.brings word
