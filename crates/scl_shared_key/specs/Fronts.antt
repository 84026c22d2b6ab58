-- When what stands before the first `/` of a word tells what it makes the object name.
use Rattle.std.specs.Prelude.{◌≡◌, Bool, true, false, not, ◌&&◌, ◌||◌, List, [], ◌∷◌, Option, None, Some}
use Rattle.std.specs.List.{list_all}
use Rattle.scl_base_dirs.specs.Cuts.{has_none}
use Rattle.scl_catalogue.specs.Form.{Pattern, Text, Test, Group, Relation, Condition, Case}
use Rattle.scl_catalogue.specs.Found.{is_of}
use Rattle.scl_catalogue.specs.Keyed.{first_group}
use Rattle.scl_catalogue.specs.Lookup.{Lexicon, Said}
use Rattle.scl_catalogue.specs.Numbered.{numbers_in}
use Rattle.scl_catalogue.specs.Speaking.{relation_at}
use Rattle.scl_catalogue.specs.declared.entry.Naming.{Naming}
use Rattle.scl_catalogue.specs.declared.seen.Standing.TheVariants as standing
use Rattle.scl_catalogue.specs.declared.speaking.Level.TheVariants as level
use Rattle.scl_catalogue.specs.declared.text.How.{How}
use Rattle.scl_catalogue.specs.declared.text.How.TheVariants as how

-- a word is compared from its first byte on
abbrev pub is_from_front : How → Bool
is_from_front how.Is = true
is_from_front how.Begins = true
is_from_front how.Ends = false
is_from_front how.Holds = false

abbrev pub is_pattern_of_fronts : Pattern → Bool
is_pattern_of_fronts p = is_from_front p.how && has_none 0x2f p.text

abbrev pub is_text_of_fronts : Text → Bool
is_text_of_fronts t = list_all is_pattern_of_fronts t.any && list_all is_pattern_of_fronts t.but

-- no word passes it, or its names are such
abbrev pub is_test_of_fronts : Test → Bool
is_test_of_fronts t = not (is_of t.class standing.Unknown) || is_text_of_fronts t.names

abbrev pub is_group_of_fronts : Group → Bool
is_group_of_fronts g = list_all is_test_of_fronts g.tests

abbrev pub asks_by_fronts : Option Relation → Bool
asks_by_fronts None = true
asks_by_fronts (Some r) = is_group_of_fronts (first_group r)

abbrev pub is_condition_of_fronts : Condition → Bool
is_condition_of_fronts c = asks_by_fronts (relation_at level.Outer c.question)

abbrev pub is_case_of_fronts : Case → Bool
is_case_of_fronts c = list_all is_condition_of_fronts c.conditions

-- it speaks of words by such names
abbrev pub is_said_by_fronts : Said Naming → Bool
is_said_by_fronts s = list_all is_case_of_fronts s.entry.cases

-- the numbers of each entry are those of its cases, as they are of an entry that is read
abbrev pub AreNumbered : List (Said Naming) → Type 0
AreNumbered [] = Unit {0}
AreNumbered (s ∷ ss) = (s.entry.numbers ≡ numbers_in s.entry.cases) × AreNumbered ss

-- Where it is said what words make the object name, it is said of their beginnings or whole texts, without a `/`.
abbrev pub NamesHaveNoSlash : Lexicon → Type 0
NamesHaveNoSlash l = (list_all is_said_by_fronts l.names ≡ true) × AreNumbered l.names
