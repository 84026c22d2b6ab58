-- Commands of Diab and TaskingVX that are read again.
use Rattle.std.specs.Prelude.{◌≡◌, ℕ, Bool, true, false, List, [], ◌∷◌, codes, Option, Result, Ok, IfSome, is_some}
use Rattle.scl_values.specs.Cuts.{cut}
use Rattle.scl_values.specs.Row.{Row}
use Rattle.scl_values.specs.Seen as plain
use Rattle.scl_values.specs.Tables.{owner_in}
use Rattle.scl_args.specs.Commands.{CommandList, Parts, IsReadAgain}
use Rattle.scl_args.specs.Promises.{Line, HasNoEmpty, said_by}
use Rattle.scl_text.specs.Commands.{object_of}
use Rattle.scl_text.specs.Records.{Parsed, Verdict}
use Rattle.scl_small.specs.Command.{command_words}
use Rattle.scl_small.specs.Places.{goes_to}
use Rattle.scl_small.specs.declared.place.Place.{Place}
use Rattle.scl_small.specs.declared.place.Place.TheVariants as places

-- every kind passes the checks, whether lists carry it or not
abbrev pub every_kind : {K : Type 0} → K → Bool
every_kind k = true

-- what words are cut into by these tables; there are no inner command lines
abbrev pub line_of : {K : Type 0} → List (List (Row K)) → List (List ℕ) → Line K K
line_of tables words = record { options = (cut (owner_in tables) false words).options; handed_on = [] }

module _ {K : Type 0} (place : K → Place) (compile output : K) where
  -- the list of the options of this place
  abbrev pub list_of : Place → CommandList K K
  list_of there = record { carries = goes_to place there; carries_inner = λ o. false; added = [] }

  -- the parts of a record's command with this object file: the compile flag, the input, the object file, and two lists
  abbrev pub parts : Parsed → List ℕ → Parts K K
  parts p object = record {
    front = plain.flag p.compilation_flag compile ∷ plain.raw p.input ∷ plain.value (codes "-o") output object ∷ [];
    lists = list_of places.Preprocessor ∷ list_of places.Common ∷ [];
    back = [];
  }

  -- if words have a record, by these tables and this reading, its command is read again
  abbrev pub CommandsAreReadAgain : List (List (Row K)) → ((List ℕ → Option (Row K)) → List (List ℕ) → Result Parsed Verdict) → Type 0
  CommandsAreReadAgain tables reading = (words : List (List ℕ)) (p : Parsed) (object : List ℕ) → reading (owner_in tables) words ≡ Ok p →
      IsReadAgain tables false [] (said_by (line_of tables words)) (parts p object) (command_words p object)

  -- what it means for the words of a record's command that they are read again, if the command line has these words, by these
  -- tables
  abbrev pub CommandIsReadAgain : List (List (Row K)) → List (List ℕ) → Parsed → List (List ℕ) → Type 0
  CommandIsReadAgain tables words p command = IfSome (object_of p) (λ object. IsReadAgain tables false [] (said_by (line_of tables words)) (parts p object) command)

-- ---- records

-- if words have a record, by these tables and this reading, it has an object
abbrev pub RecordsHaveObjects : {K : Type 0} → List (List (Row K)) → ((List ℕ → Option (Row K)) → List (List ℕ) → Result Parsed Verdict) → Type 0
RecordsHaveObjects tables reading = (words : List (List ℕ)) (p : Parsed) → reading (owner_in tables) words ≡ Ok p → is_some (object_of p) ≡ true

-- if words have a record, no option of an either row in their line has an empty value
abbrev pub LinesHaveNoEmpty : {K : Type 0} → List (List (Row K)) → ((List ℕ → Option (Row K)) → List (List ℕ) → Result Parsed Verdict) → Type 0
LinesHaveNoEmpty tables reading = (words : List (List ℕ)) (p : Parsed) → reading (owner_in tables) words ≡ Ok p → HasNoEmpty (line_of tables words)
