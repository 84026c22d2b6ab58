-- The form of a catalogue: groups of options, and entries that speak of them.
use Rattle.std.specs.Prelude.{ℕ, Bool, List, Option}
use Rattle.scl_catalogue.specs.declared.case.Served.{Served}
use Rattle.scl_catalogue.specs.declared.condition.Fact.{Fact}
use Rattle.scl_catalogue.specs.declared.condition.Place.{Place}
use Rattle.scl_catalogue.specs.declared.entry.Brings as declared
use Rattle.scl_catalogue.specs.declared.entry.Danger.{Danger}
use Rattle.scl_catalogue.specs.declared.entry.Doing.{Doing}
use Rattle.scl_catalogue.specs.declared.entry.Naming.{Naming}
use Rattle.scl_catalogue.specs.declared.entry.Verb.{Verb}
use Rattle.scl_catalogue.specs.declared.numbers.NumberSet.{NumberSet}
use Rattle.scl_catalogue.specs.declared.seen.Mark.{Mark}
use Rattle.scl_catalogue.specs.declared.test.Class.{Class}
use Rattle.scl_catalogue.specs.declared.text.How.{How}

-- a text, and how words are compared with it
pub record Pattern : Type 0 where
  pub how : How
  pub text : List ℕ

-- the words that one of the first patterns fits, and none of the others
pub record Text : Type 0 where
  pub any : List Pattern
  pub but : List Pattern

-- what is asked of an option beside its name: a mark, or a text of its value or of a part of it between commas
pub data Demand : Type 0 where
  Marked : Mark → Demand
  Value : Text → Demand
  Part : Text → Demand

-- the options of a class with one of the names that meet each demand
pub record Test : Type 0 where
  pub class : Class
  pub names : Text
  pub demands : List Demand

-- the options that pass one of the tests; a group without a name stands where it is used
pub record Group : Type 0 where
  pub name : List ℕ
  pub tests : List Test

-- which options stand, and in what order
pub data Relation : Type 0 where
  Any : Group → Relation
  Two : Group → Relation
  Before : Group → Group → Relation
  Unfollowed : Group → Group → Relation
  Last : Group → Group → Relation

-- what is asked of a line: a fact, a text at a place, or a relation of its options, or of the inner ones
pub data Question : Type 0 where
  Is : Fact → Question
  At : Place → Text → Question
  Given : Relation → Question
  Inner : Relation → Question

-- a question, and whether the answer is to be no
pub record Condition : Type 0 where
  pub is_denied : Bool
  pub question : Question

-- the compilers that are meant, and what must hold
pub record Case : Type 0 where
  pub served : List Served
  pub conditions : List Condition

-- what an entry states: a hazard and what becomes of it; something that is read, written, asked or loaded; that nothing of the kind is
-- done; what a key has to answer for, in a compilation or in a run of the preprocessor; what the object names; or what is brought in
pub data Tells : Type 0 where
  Hazard : Danger → Tells
  Effect : Verb → List ℕ → Tells
  Plain : Tells
  Key : Doing → Tells
  Run : Doing → Tells
  Names : Naming → Tells
  Brings : declared.Brings → Tells

pub record Entry : Type 0 where
  pub tells : Tells
  pub name : List ℕ
  pub says : List ℕ
  pub cases : List Case
  -- the numbers of the options of which they speak
  pub numbers : NumberSet

pub record Catalogue : Type 0 where
  pub groups : List Group
  pub entries : List Entry
