-- Of which options an entry speaks, whether it is there or not.
use Rattle.std.specs.Prelude.{Bool, false, not, ◌&&◌, Option, None, Some}
use Rattle.std.specs.List.{list_any}
use Rattle.scl_catalogue.specs.Form.{Relation, Question, Is, At, Given, Inner, Condition, Case, Entry}
use Rattle.scl_catalogue.specs.Found.{OptionSeen, in_group, serves}
use Rattle.scl_catalogue.specs.Keyed.{first_group}
use Rattle.scl_catalogue.specs.Numbered.{may_have, numbers_of}
use Rattle.scl_catalogue.specs.declared.case.Compiler.{Compiler}
use Rattle.scl_catalogue.specs.declared.case.Version.{Version}
use Rattle.scl_catalogue.specs.declared.speaking.Level.{Level}
use Rattle.scl_catalogue.specs.declared.speaking.Level.TheVariants as level

-- what is asked of the options of a command line, or of those of its inner one
abbrev pub relation_at : Level → Question → Option Relation
relation_at level.Outer (Is f) = None
relation_at level.Outer (At p text) = None
relation_at level.Outer (Given r) = Some r
relation_at level.Outer (Inner r) = None
relation_at level.Inner (Is f) = None
relation_at level.Inner (At p text) = None
relation_at level.Inner (Given r) = None
relation_at level.Inner (Inner r) = Some r

abbrev pub begins_with : OptionSeen → Option Relation → Bool
begins_with o None = false
begins_with o (Some r) = in_group (first_group r) o

-- the option is of the group that must have one that stands
abbrev pub asks_for : Level → OptionSeen → Condition → Bool
asks_for level o c = not c.is_denied && begins_with o (relation_at level c.question)

-- the compiler is served, and one of the conditions asks for the option
abbrev pub case_speaks_of : Compiler → Option Version → Level → OptionSeen → Case → Bool
case_speaks_of compiler version level o c = list_any (serves compiler version) c.served && list_any (asks_for level o) c.conditions

-- one of the cases speaks of the option; one whose numbers the entry has not is passed over
unfoldable pub speaks_of : Compiler → Option Version → Level → OptionSeen → Entry → Bool
speaks_of compiler version level o e = may_have e.numbers (numbers_of o) && list_any (case_speaks_of compiler version level o) e.cases
