-- What is promised of a command: it is read again, and it names no response file of its own.
use Rattle.std.specs.Prelude.{ℕ, Bool, List, map}
use Rattle.scl_values.specs.Cuts.{Cut}
use Rattle.scl_values.specs.Each.{Each}
use Rattle.scl_values.specs.Row.{Row}
use Rattle.scl_values.specs.Seen.{shown}
use Rattle.scl_args.specs.Commands.{Inner, Said, Parts, IsReadAgain}
use Rattle.scl_args.specs.NoFiles.{NamesNoFileOfItsOwn}
use Rattle.scl_args.specs.Origins.{IsClear}

-- words that are passed to an inner command line, each as the value of an option with this flag and kind, and what they are
-- cut into
pub record HandedOn (K J : Type 0) : Type 0 where
  pub flag : List ℕ
  pub kind : K
  pub options : List (Cut J)

-- what a command line is cut into, and the words that it passes to inner command lines
pub record Line (K J : Type 0) : Type 0 where
  pub options : List (Cut K)
  pub handed_on : List (HandedOn K J)

module _ {K J : Type 0} where
  abbrev pub inner_of : HandedOn K J → Inner K J
  inner_of h = record { flag = h.flag; kind = h.kind; options = map shown h.options }

  -- what the command line says
  abbrev pub said_by : Line K J → Said K J
  said_by line = record { options = map shown line.options; inners = map inner_of line.handed_on }

  -- no option of an either row, outer or inner, has an empty value: true of each line that is not refused
  pub record HasNoEmpty (line : Line K J) : Type 0 where
    pub outer : Each IsClear line.options
    pub inner : Each (λ h. Each IsClear h.options) line.handed_on

  -- the words of the command are read again, and they name no response file if neither the command line nor the object does
  pub record IsFaithful (tables : List (List (Row K))) (dashes : Bool) (inner_tables : List (List (Row J))) (line : Line K J) (parts : Parts K J) (object : List ℕ) (words : List (List ℕ)) : Type 0 where
    pub again : IsReadAgain tables dashes inner_tables (said_by line) parts words
    pub no_file : NamesNoFileOfItsOwn (said_by line) object words
