-- The words of the preprocessor, cut into what belongs together: what each brings in.
use Rattle.std.specs.Prelude.{ℕ, Bool, true, false, ◌&&◌, ◌==◌, not, List, [], ◌∷◌, ◌++◌, Option, Some, None, is_some, map, filter, drop, length, if◌then◌else◌}
use Rattle.std.specs.Option.{option_to_list}
use Rattle.scl_catalogue.specs.Lookup.{Lexicon, brought_by}
use Rattle.scl_catalogue.specs.contracts.entry.BringsPartialEq.TheImpl.{ghosts}
use Rattle.scl_catalogue.specs.declared.entry.Brings.{Brings}
use Rattle.scl_catalogue.specs.declared.entry.Brings.TheVariants.{Folder, Header, MacroFile, Other, Dependencies, Unknown}
use Rattle.scl_catalogue.specs.declared.lookup.Brought.{Brought}
use Rattle.scl_key.specs.Made.{handed_file}

-- a word, the flag before it whose value it is, if it is one, and what they bring in
pub record Given : Type 0 where
  pub brings : Brings
  pub flag : Option (List ℕ)
  pub word : List ℕ
  pub value : List ℕ

abbrev pub given : Brings → (word value : List ℕ) → Given
given brings word value = record { brings = brings; flag = None; word = word; value = value }

-- a word of which a lexicon says nothing is unknown
abbrev pub given_or : List ℕ → Option Brought → Given
given_or word None = given Unknown word word
given_or word (Some b) = given b.brings word (drop b.front word)

-- what a word brings in; a file of dependencies is an output, and a run writes it too
abbrev pub given_by : Lexicon → List ℕ → Given
given_by l word = if is_some (handed_file word) then given Dependencies word word else given_or word (brought_by l word)

-- a word of which nothing is the value is a flag, which has its value in the next word
abbrev pub awaits : Given → Bool
awaits g = not (is_some g.flag) && (not (length g.word == 0) && length g.value == 0)

-- what a word brings in, with the flag before it that awaits a value
abbrev pub given_next : Lexicon → (flag : Option Given) → List ℕ → Given
given_next l None word = given_by l word
given_next l (Some flag) word = record { brings = flag.brings; flag = Some flag.word; word = word; value = word }

-- a flag without its value is unknown
abbrev pub given_last : (flag : Option Given) → List Given
given_last None = []
given_last (Some flag) = given Unknown flag.word [] ∷ []

abbrev pub given_behind : Lexicon → (flag : Option Given) → List (List ℕ) → List Given
given_behind l flag [] = given_last flag
given_behind l flag (word ∷ words) =
    if awaits (given_next l flag word) then given_behind l (Some (given_next l flag word)) words else given_next l flag word ∷ given_behind l None words

-- what the words of the preprocessor bring in
abbrev pub given_in : Lexicon → List (List ℕ) → List Given
given_in l words = given_behind l None words

-- the words
abbrev pub given_words : Given → List (List ℕ)
given_words g = option_to_list g.flag ++ g.word ∷ []

-- the text of a run has it
abbrev pub is_known : Brings → Bool
is_known Folder = true
is_known Header = true
is_known MacroFile = true
is_known Other = true
is_known Dependencies = true
is_known Unknown = false

-- the values among these that bring in this
abbrev pub values_among : Brings → List Given → List (List ℕ)
values_among brings gs = map (λ g. g.value) (filter (λ g. ghosts.eq g.brings brings) gs)
