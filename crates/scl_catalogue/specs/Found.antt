-- When a condition holds of a command line, and which entries of a catalogue are there.
use Rattle.std.specs.Prelude.{ℕ, nat_eq, nat_lt, ◌==◌, Bool, true, false, cond, not, ◌&&◌, ◌||◌, List, [], ◌∷◌, filter, Option, None, Some}
use Rattle.std.specs.List.{list_any, list_all, starts_with, ends_with, slice_split}
use Rattle.std.specs.Str.{bytes_eq}
use Rattle.scl_catalogue.specs.Form.{Pattern, Text, Demand, Marked, Value, Part, Test, Group, Relation, Any, Two, Before, Unfollowed, Last, Question, Is, At, Given, Inner, Condition, Case, Entry, Catalogue}
use Rattle.scl_catalogue.specs.contracts.case.CompilerPartialEq.TheImpl as compilers
use Rattle.scl_catalogue.specs.declared.case.Compiler.{Compiler}
use Rattle.scl_catalogue.specs.declared.case.Served.{Served}
use Rattle.scl_catalogue.specs.declared.case.Version.{Version}
use Rattle.scl_catalogue.specs.declared.condition.Fact.{Fact}
use Rattle.scl_catalogue.specs.declared.condition.Fact.TheVariants as fact
use Rattle.scl_catalogue.specs.declared.condition.Place.{Place}
use Rattle.scl_catalogue.specs.declared.condition.Place.TheVariants as place
use Rattle.scl_catalogue.specs.declared.line.Facts.{Facts}
use Rattle.scl_catalogue.specs.declared.seen.Mark.{Mark}
use Rattle.scl_catalogue.specs.declared.seen.Mark.TheVariants as mark
use Rattle.scl_catalogue.specs.declared.seen.Marks.{Marks}
use Rattle.scl_catalogue.specs.declared.seen.Standing.{Standing}
use Rattle.scl_catalogue.specs.declared.seen.Standing.TheVariants as standing
use Rattle.scl_catalogue.specs.declared.test.Class.{Class}
use Rattle.scl_catalogue.specs.declared.test.Class.TheVariants as class
use Rattle.scl_catalogue.specs.declared.text.How.{How}
use Rattle.scl_catalogue.specs.declared.text.How.TheVariants as how

-- ---- a command line as conditions see it

-- an option: how it stands in the tables, its word or flag, the name of its kind, its value, and what else is known of it
pub record OptionSeen : Type 0 where
  pub standing : Standing
  pub name : List ℕ
  pub kind : List ℕ
  pub value : List ℕ
  pub marks : Marks

-- a line that has a record: who reads it, what is known of it, its options and inner options, and the words at each place
pub record LineSeen : Type 0 where
  pub compiler : Compiler
  pub version : Option Version
  pub facts : Facts
  pub options : List OptionSeen
  pub inner : List OptionSeen
  pub words : List (List ℕ)
  pub files : List (List ℕ)
  pub environment : List (List ℕ)
  pub language : List ℕ
  pub input : List ℕ
  pub extension : Option (List ℕ)
  pub object : List ℕ

-- ---- words

-- the word holds the text
abbrev pub holds : List ℕ → List ℕ → Bool
holds [] text = false
holds (byte ∷ bytes) text = starts_with nat_eq (byte ∷ bytes) text || holds bytes text

-- what stands after the first `=`
abbrev pub behind_equals : List ℕ → List ℕ
behind_equals [] = []
behind_equals (byte ∷ bytes) = cond (byte == 61) bytes (behind_equals bytes)

abbrev pub compared : How → List ℕ → List ℕ → Bool
compared how.Is text word = bytes_eq text word
compared how.Begins text word = starts_with nat_eq word text
compared how.Ends text word = ends_with nat_eq word text
compared how.Holds text word = holds word text

abbrev pub fits : Pattern → List ℕ → Bool
fits p word = compared p.how p.text word

abbrev pub one_fits : List Pattern → List ℕ → Bool
one_fits ps word = list_any (λ p. fits p word) ps

-- one of the first patterns fits, and none of the others
unfoldable pub passes : Text → List ℕ → Bool
passes t word = one_fits t.any word && not (one_fits t.but word)

-- ---- options

abbrev pub has_mark : Marks → Mark → Bool
has_mark m mark.Stays = m.stays
has_mark m mark.Apart = m.is_apart
has_mark m mark.Joined = m.is_joined
has_mark m mark.DelimiterDropped = m.is_delimiter_dropped
has_mark m mark.HiddenValue = m.has_hidden_value

abbrev pub is_of : Class → Standing → Bool
is_of class.Option s = true
is_of class.Raw standing.Raw = true
is_of class.Raw standing.Unknown = false
is_of class.Raw standing.Known = false
is_of class.Unknown standing.Raw = false
is_of class.Unknown standing.Unknown = true
is_of class.Unknown standing.Known = false
is_of class.Flag standing.Raw = false
is_of class.Flag standing.Unknown = false
is_of class.Flag standing.Known = true
is_of class.Kind standing.Raw = false
is_of class.Kind standing.Unknown = false
is_of class.Kind standing.Known = true

-- the name by which a test of the class knows an option
abbrev pub name_by : Class → OptionSeen → List ℕ
name_by class.Option o = o.name
name_by class.Raw o = o.name
name_by class.Unknown o = o.name
name_by class.Flag o = o.name
name_by class.Kind o = o.kind

abbrev pub is_comma : ℕ → Bool
is_comma byte = byte == 44

abbrev pub is_met : OptionSeen → Demand → Bool
is_met o (Marked m) = has_mark o.marks m
is_met o (Value text) = passes text o.value
is_met o (Part text) = list_any (passes text) (slice_split is_comma o.value)

unfoldable pub test_passes : Test → OptionSeen → Bool
test_passes t o = is_of t.class o.standing && (passes t.names (name_by t.class o) && list_all (is_met o) t.demands)

-- it passes one of the tests
unfoldable pub in_group : Group → OptionSeen → Bool
in_group g o = list_any (λ t. test_passes t o) g.tests

-- ---- the order of options

-- what stands after the first option that passes
abbrev pub behind : (OptionSeen → Bool) → List OptionSeen → List OptionSeen
behind p [] = []
behind p (o ∷ os) = cond (p o) os (behind p os)

-- an option that passes the first test stands before one that passes the second
abbrev pub is_before : (OptionSeen → Bool) → (OptionSeen → Bool) → List OptionSeen → Bool
is_before p q os = list_any q (behind p os)

abbrev pub first_is : (OptionSeen → Bool) → List OptionSeen → Bool
first_is p [] = false
first_is p (o ∷ os) = p o

-- an option that passes the first test stands last, or right before one that does not pass the second
abbrev pub is_unfollowed : (OptionSeen → Bool) → (OptionSeen → Bool) → List OptionSeen → Bool
is_unfollowed p q [] = false
is_unfollowed p q (o ∷ os) = (p o && not (first_is q os)) || is_unfollowed p q os

-- an option passes the first test, and each after it that passes the second passes the first too
abbrev pub is_last : (OptionSeen → Bool) → (OptionSeen → Bool) → List OptionSeen → Bool
is_last p q [] = false
is_last p q (o ∷ os) = (p o && not (list_any (λ other. q other && not (p other)) os)) || is_last p q os

abbrev pub relates : Relation → List OptionSeen → Bool
relates (Any g) os = list_any (in_group g) os
relates (Two g) os = is_before (in_group g) (in_group g) os
relates (Before g h) os = is_before (in_group g) (in_group h) os
relates (Unfollowed g h) os = is_unfollowed (in_group g) (in_group h) os
relates (Last g h) os = is_last (in_group g) (in_group h) os

-- ---- lines

abbrev pub has_fact : Facts → Fact → Bool
has_fact f fact.Plusplus = f.is_plusplus
has_fact f fact.Apple = f.is_apple
has_fact f fact.Preprocessed = f.is_preprocessed
has_fact f fact.OtherLanguage = f.is_other_language
has_fact f fact.SplitOtherwise = f.is_split_otherwise
has_fact f fact.EnvironmentSplitOtherwise = f.is_environment_split_otherwise
has_fact f fact.HiddenInput = f.is_input_hidden
has_fact f fact.HiddenObject = f.is_object_hidden
has_fact f fact.OtherTarget = f.has_other_target
has_fact f fact.RenamedObject = f.is_object_renamed
has_fact f fact.PrecompiledHeader = f.has_precompiled_header

abbrev pub one_or_none : Option (List ℕ) → List (List ℕ)
one_or_none None = []
one_or_none (Some word) = word ∷ []

abbrev pub words_at : Place → LineSeen → List (List ℕ)
words_at place.Word l = l.words
words_at place.File l = l.files
words_at place.Environment l = l.environment
words_at place.Language l = l.language ∷ []
words_at place.Input l = l.input ∷ []
words_at place.Extension l = one_or_none l.extension
words_at place.Object l = l.object ∷ []

abbrev pub is_so : LineSeen → Question → Bool
is_so l (Is f) = has_fact l.facts f
is_so l (At p text) = list_any (passes text) (words_at p l)
is_so l (Given r) = relates r l.options
is_so l (Inner r) = relates r l.inner

abbrev pub condition_holds : LineSeen → Condition → Bool
condition_holds l c = cond c.is_denied (not (is_so l c.question)) (is_so l c.question)

-- ---- entries

abbrev pub is_lower : Version → Version → Bool
is_lower a b = nat_lt a.major b.major || (a.major == b.major && nat_lt a.minor b.minor)

abbrev pub is_since : Version → Option Version → Bool
is_since version None = true
is_since version (Some since) = not (is_lower version since)

abbrev pub is_until : Version → Option Version → Bool
is_until version None = true
is_until version (Some until) = is_lower version until

-- the version is meant, and each is where none is known
abbrev pub is_version : Served → Option Version → Bool
is_version s None = true
is_version s (Some version) = is_since version s.since && is_until version s.until

abbrev pub serves : Compiler → Option Version → Served → Bool
serves compiler version s = compilers.ghosts.eq s.compiler compiler && is_version s version

-- the compiler is served, and each condition holds
abbrev pub case_holds : LineSeen → Case → Bool
case_holds l c = list_any (serves l.compiler l.version) c.served && list_all (condition_holds l) c.conditions

-- one of the cases holds
abbrev pub is_there : LineSeen → Entry → Bool
is_there l e = list_any (case_holds l) e.cases

-- the entries that are there, in their order
abbrev pub found : Catalogue → LineSeen → List Entry
found c l = filter (is_there l) c.entries
