-- Which catalogues can be written as a text.
use Rattle.std.specs.Prelude.{◌≡◌, ℕ, nat_lt, ◌==◌, Bool, true, false, not, ◌&&◌, ◌||◌, List, [], ◌∷◌, ◌++◌, Option, None, Some, Ok}
use Rattle.std.specs.Char.{is_ascii_control}
use Rattle.std.specs.List.{list_all, list_any}
use Rattle.std.specs.Str.{bytes_eq}
use Rattle.scl_catalogue.specs.Form.{Pattern, Text, Demand, Marked, Value, Part, Test, Group, Relation, Any, Two, Before, Unfollowed, Last, Question, Is, At, Given, Inner, Condition, Case, Tells, Hazard, Effect, Plain, Key, Run, Names, Brings, Entry, Catalogue}
use Rattle.scl_catalogue.specs.Numbered.{numbers_in}
use Rattle.scl_catalogue.specs.declared.case.Served.{Served}
use Rattle.scl_catalogue.specs.declared.case.Version.{Version}
use Rattle.scl_catalogue_text.specs.Files.{file_read, has_its_options}
use Rattle.scl_catalogue_text.specs.Reading.{group_named}

abbrev pub has_one : {A : Type 0} → List A → Bool
has_one [] = false
has_one (x ∷ xs) = true

-- none of the marks is among the bytes, and no control character
abbrev pub lacks : List ℕ → List ℕ → Bool
lacks marks bs = list_all (λ b. not (list_any (λ m. b == m) marks || is_ascii_control b)) bs

-- a word without blanks
abbrev pub is_plain_word : List ℕ → Bool
is_plain_word bs = has_one bs && lacks (32 ∷ []) bs

-- one that can stand before a colon, and in a condition
abbrev pub is_group_name : List ℕ → Bool
is_group_name bs = has_one bs && lacks (32 ∷ 58 ∷ 59 ∷ 62 ∷ []) bs

abbrev pub is_bytes : List ℕ → Bool
is_bytes bs = list_all (λ b. nat_lt b 256) bs

abbrev pub are_patterns : List Pattern → Bool
are_patterns ps = list_all (λ p. is_bytes p.text) ps

abbrev pub is_text : Text → Bool
is_text t = has_one t.any && (are_patterns t.any && are_patterns t.but)

abbrev pub is_demand : Demand → Bool
is_demand (Marked m) = true
is_demand (Value text) = is_text text
is_demand (Part text) = is_text text

abbrev pub is_test : Test → Bool
is_test t = is_text t.names && list_all is_demand t.demands

abbrev pub are_tests : List Test → Bool
are_tests ts = has_one ts && list_all is_test ts

-- a group that a condition can ask for, by its tests or by the name of one of these
abbrev pub IsNamedOr : List Group → List ℕ → Group → Type 0
IsNamedOr gs [] g = are_tests g.tests ≡ true
IsNamedOr gs (b ∷ bs) g = (is_group_name (b ∷ bs) ≡ true) × (group_named gs (b ∷ bs) ≡ Some g)

abbrev pub CanBeAsked : List Group → Group → Type 0
CanBeAsked gs g = IsNamedOr gs g.name g

abbrev pub IsRelation : List Group → Relation → Type 0
IsRelation gs (Any g) = CanBeAsked gs g
IsRelation gs (Two g) = CanBeAsked gs g
IsRelation gs (Before g h) = CanBeAsked gs g × CanBeAsked gs h
IsRelation gs (Unfollowed g h) = CanBeAsked gs g × CanBeAsked gs h
IsRelation gs (Last g h) = CanBeAsked gs g × CanBeAsked gs h

abbrev pub IsQuestion : List Group → Question → Type 0
IsQuestion gs (Is f) = Unit {0}
IsQuestion gs (At p text) = is_text text ≡ true
IsQuestion gs (Given r) = IsRelation gs r
IsQuestion gs (Inner r) = IsRelation gs r

abbrev pub AreConditions : List Group → List Condition → Type 0
AreConditions gs [] = Unit {0}
AreConditions gs (c ∷ cs) = IsQuestion gs c.question × AreConditions gs cs

abbrev pub is_bound : Option Version → Bool
is_bound None = true
is_bound (Some v) = nat_lt v.major 4294967296 && nat_lt v.minor 4294967296

abbrev pub is_served : Served → Bool
is_served s = is_bound s.since && is_bound s.until

pub record IsCase (gs : List Group) (c : Case) : Type 0 where
  pub served : (has_one c.served && list_all is_served c.served) ≡ true
  pub some : has_one c.conditions ≡ true
  pub conditions : AreConditions gs c.conditions

abbrev pub AreCases : List Group → List Case → Type 0
AreCases gs [] = Unit {0}
AreCases gs (c ∷ cs) = IsCase gs c × AreCases gs cs

-- a file is a word whose names in braces are known
abbrev pub HasWords : Tells → Type 0
HasWords (Hazard d) = Unit {0}
HasWords (Effect v file) = (is_plain_word file ≡ true) × (file_read file ≡ Ok tt)
HasWords Plain = Unit {0}
HasWords (Key d) = Unit {0}
HasWords (Run d) = Unit {0}
HasWords (Names n) = Unit {0}
HasWords (Brings b) = Unit {0}

pub record IsEntry (gs : List Group) (e : Entry) : Type 0 where
  pub name : is_plain_word e.name ≡ true
  pub tells : HasWords e.tells
  pub says : lacks [] e.says ≡ true
  pub cases : AreCases gs e.cases
  pub options : list_all (has_its_options e.tells) e.cases ≡ true
  pub numbers : e.numbers ≡ numbers_in e.cases

-- each has another name than those above
abbrev pub AreEntries : List Group → List Entry → List Entry → Type 0
AreEntries gs above [] = Unit {0}
AreEntries gs above (e ∷ es) = IsEntry gs e × (list_any (λ other. bytes_eq other.name e.name) above ≡ false) × AreEntries gs (above ++ e ∷ []) es

abbrev pub AreGroups : List Group → List Group → Type 0
AreGroups above [] = Unit {0}
AreGroups above (g ∷ gs) = (is_group_name g.name ≡ true) × (are_tests g.tests ≡ true) × (group_named above g.name ≡ None) × AreGroups (above ++ g ∷ []) gs

-- names are words, each used once; no name, file or sentence has a control character; groups, tests and cases have something in them; bytes and versions are such; a value is one of options that a case asks for; numbers are those of the cases
pub record CanBeWritten (c : Catalogue) : Type 0 where
  pub groups : AreGroups [] c.groups
  pub entries : AreEntries c.groups [] c.entries
