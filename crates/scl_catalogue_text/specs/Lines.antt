-- How the lines of a catalogue's text are read.
use Rattle.std.specs.Prelude.{ℕ, ◌+◌, ◌==◌, Bool, false, cond, not, ◌||◌, List, [], ◌∷◌, ◌++◌, codes, Option, None, Some, Result, Ok, Err}
use Rattle.std.specs.Char.{is_ascii_control}
use Rattle.std.specs.List.{list_any}
use Rattle.std.specs.Option.{option_map}
use Rattle.std.specs.Str.{bytes_eq}
use Rattle.scl_catalogue.specs.Form.{Group, Case, Tells, Hazard, Effect, Plain, Key, Run, Names, Brings, Entry, Catalogue}
use Rattle.scl_catalogue.specs.Numbered.{entry_with}
use Rattle.scl_catalogue_text.specs.Cutting.{first_word, from_mark, is_word, other_words, parts, until_mark, words}
use Rattle.scl_catalogue_text.specs.Files.{file_read, has_its_options}
use Rattle.scl_catalogue_text.specs.Names.{brings_named, danger_named, doing_named, kind_named, naming_named, verb_named}
use Rattle.scl_catalogue_text.specs.Outcome.{after, after_line, at_end, at_line, or_mistake}
use Rattle.scl_catalogue_text.specs.Reading.{case_read, group_named, tests_read}
use Rattle.scl_catalogue_text.specs.declared.mistake.BadLine.{BadLine}
use Rattle.scl_catalogue_text.specs.declared.mistake.Mistake.{Mistake}
use Rattle.scl_catalogue_text.specs.declared.mistake.Mistake.TheVariants as mistake
use Rattle.scl_catalogue_text.specs.declared.names.Kind.{Kind}
use Rattle.scl_catalogue_text.specs.declared.names.Kind.TheVariants as kind

-- what a line says
pub data Said : Type 0 where
  Nothing : Said
  NewGroup : Group → Said
  NewEntry : Tells → List ℕ → Said
  Says : List ℕ → Said
  NewCase : Case → Said

unfoldable pub effect_read : List (List ℕ) → Result Said Mistake
effect_read [] = Err mistake.WrongEntry
effect_read (name ∷ []) = Err mistake.WrongEntry
effect_read (name ∷ verb ∷ []) = Err mistake.WrongEntry
effect_read (name ∷ verb ∷ file ∷ []) = after (or_mistake mistake.UnknownVerb (verb_named verb)) (λ v. after (file_read file) (λ _. Ok (NewEntry (Effect v file) name)))
effect_read (name ∷ verb ∷ file ∷ other ∷ more) = Err mistake.WrongEntry

-- what an entry of the kind states that has this word
abbrev pub tells_named : Kind → List ℕ → Option Tells
tells_named kind.Hazard what = option_map Hazard (danger_named what)
tells_named kind.Key what = option_map Key (doing_named what)
tells_named kind.Run what = option_map Run (doing_named what)
tells_named kind.Names what = option_map Names (naming_named what)
tells_named kind.Brings what = option_map Brings (brings_named what)

-- what is wrong with a word that is none of the list
abbrev pub mistake_of : Kind → Mistake
mistake_of kind.Hazard = mistake.UnknownDanger
mistake_of kind.Key = mistake.UnknownDoing
mistake_of kind.Run = mistake.UnknownDoing
mistake_of kind.Names = mistake.UnknownNaming
mistake_of kind.Brings = mistake.UnknownBrings

abbrev pub told_by : Kind → List ℕ → Result Tells Mistake
told_by k what = or_mistake (mistake_of k) (tells_named k what)

-- a name, and one word of a list
unfoldable pub kind_read : Kind → List (List ℕ) → Result Said Mistake
kind_read k [] = Err mistake.WrongEntry
kind_read k (name ∷ []) = Err mistake.WrongEntry
kind_read k (name ∷ what ∷ []) = after (told_by k what) (λ tells. Ok (NewEntry tells name))
kind_read k (name ∷ what ∷ other ∷ more) = Err mistake.WrongEntry

-- only a name, of an entry that states this
unfoldable pub name_read : Tells → List (List ℕ) → Result Said Mistake
name_read tells [] = Err mistake.WrongEntry
name_read tells (name ∷ []) = Ok (NewEntry tells name)
name_read tells (name ∷ other ∷ more) = Err mistake.WrongEntry

abbrev pub unused : {A : Type 0} → Option Group → Result A Mistake → Result A Mistake
unused None r = r
unused (Some g) r = Err mistake.NameTwice

unfoldable pub group_line_by : List Group → List ℕ → List ℕ → Result Said Mistake
group_line_by gs [] rest = Err mistake.WrongGroup
group_line_by gs (b ∷ name) [] = Err mistake.NoColon
group_line_by gs (b ∷ name) (colon ∷ rest) = unused (group_named gs (b ∷ name)) (after (tests_read rest) (λ tests. Ok (NewGroup (record { name = b ∷ name; tests = tests }))))

unfoldable pub group_line_read : List Group → List ℕ → Result Said Mistake
group_line_read gs bs = after (at_end (other_words (until_mark 58 bs)) (first_word (until_mark 58 bs))) (λ name. group_line_by gs name (from_mark 58 bs))

abbrev pub without_first : List ℕ → List ℕ
without_first [] = []
without_first (b ∷ bs) = bs

abbrev pub is_comment : List ℕ → Bool
is_comment [] = false
is_comment (b ∷ bs) = b == 35

-- an entry of this kind, or a case
abbrev pub line_of_kind : List Group → Option Kind → List ℕ → List ℕ → Result Said Mistake
line_of_kind gs None others line = after (case_read gs line) (λ c. Ok (NewCase c))
line_of_kind gs (Some k) others line = kind_read k (words others)

unfoldable pub line_by : List Group → List ℕ → List ℕ → List ℕ → Result Said Mistake
line_by gs word others line = cond (bytes_eq word (codes "says")) (Ok (Says (without_first others)))
    (cond (bytes_eq word (codes "group")) (group_line_read gs others)
    (cond (bytes_eq word (codes "effect")) (effect_read (words others))
    (cond (bytes_eq word (codes "plain")) (name_read Plain (words others))
    (line_of_kind gs (kind_named word) others line))))

unfoldable pub line_read : List Group → List ℕ → Result Said Mistake
line_read gs line = cond (not (is_word (first_word line)) || is_comment line) (Ok Nothing) (line_by gs (first_word line) (other_words line) line)

-- ---- texts

-- an entry that may go on
pub record Open : Type 0 where
  pub tells : Tells
  pub name : List ℕ
  pub says : List ℕ
  pub cases : List Case

-- what is read so far
pub record SoFar : Type 0 where
  pub groups : List Group
  pub entries : List Entry
  pub last : Option Open

-- the entry, which does not go on
abbrev pub entry_of_open : Open → Entry
entry_of_open o = entry_with o.tells o.name o.says o.cases

abbrev pub with_last : List Entry → Option Open → List Entry
with_last es None = es
with_last es (Some o) = es ++ entry_of_open o ∷ []

-- the last entry does not go on
abbrev pub closed : SoFar → SoFar
closed s = record { groups = s.groups; entries = with_last s.entries s.last; last = None }

abbrev pub catalogue_so_far : SoFar → Catalogue
catalogue_so_far s = record { groups = s.groups; entries = with_last s.entries s.last }

abbrev pub goes_on : SoFar → Option Open → (Open → Result Open Mistake) → Result SoFar Mistake
goes_on s None f = Err mistake.NoEntry
goes_on s (Some o) f = after (f o) (λ changed. Ok (record s { last = Some changed }))

abbrev pub with_sentence : List ℕ → List ℕ → Open → Result Open Mistake
with_sentence [] says o = Ok (record o { says = says })
with_sentence (b ∷ bs) says o = Err mistake.SaysTwice

abbrev pub with_case : Case → Open → Result Open Mistake
with_case c o = cond (has_its_options o.tells c) (Ok (record o { cases = o.cases ++ c ∷ [] })) (Err mistake.NoOption)

abbrev pub added : SoFar → Said → Result SoFar Mistake
added s Nothing = Ok s
added s (NewGroup g) = Ok (record s { groups = s.groups ++ g ∷ [] })
added s (NewEntry tells name) = cond (list_any (λ e. bytes_eq e.name name) (closed s).entries) (Err mistake.NameTwice)
    (Ok (record (closed s) { last = Some (record { tells = tells; name = name; says = []; cases = [] }) }))
added s (Says says) = goes_on s s.last (λ o. with_sentence o.says says o)
added s (NewCase c) = goes_on s s.last (with_case c)

-- what is read so far, with this line, in which no byte is a control character
abbrev pub with_line : SoFar → List ℕ → Result SoFar Mistake
with_line s line = cond (list_any is_ascii_control line) (Err mistake.ControlByte) (after (line_read s.groups line) (added s))

abbrev pub lines_read : ℕ → SoFar → List (List ℕ) → Result Catalogue BadLine
lines_read n s [] = Ok (catalogue_so_far s)
lines_read n s (line ∷ lines) = after_line (at_line n (with_line s line)) (λ next. lines_read (n + 1) next lines)

-- the catalogue of a text, or its first line that is wrong
unfoldable pub read : List ℕ → Result Catalogue BadLine
read text = lines_read 1 (record { groups = []; entries = []; last = None }) (parts 10 text)
