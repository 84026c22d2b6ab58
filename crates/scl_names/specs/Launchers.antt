-- The words before the program of a command line.
use Rattle.std.specs.Prelude.{ℕ, ◌+◌, ◌==◌, ◌||◌, ◌&&◌, nat_eq, nat_le, Bool, true, false, not, List, [], ◌∷◌, length, take, slice_index, position, codes, find, Option, None, Some, if◌then◌else◌}
use Rattle.std.specs.List.{list_all, list_any, starts_with}
use Rattle.std.specs.Option.{is_some, option_map}
use Rattle.std.specs.Str.{bytes_eq}
use Rattle.scl_names.specs.FileNames.{is_digit, stem_of}
use Rattle.scl_names.specs.declared.options.Standing.{Standing}
use Rattle.scl_names.specs.declared.options.Standing.TheVariants.{Alone, Next, Joined}

abbrev pub launchers : List (List ℕ)
launchers =
    codes "ccache" ∷ codes "sccache" ∷ codes "distcc" ∷ codes "icecc" ∷ codes "recc" ∷ codes "buildcache" ∷ codes "env" ∷ codes "nice" ∷ codes "time" ∷ []

abbrev pub is_one_of : List (List ℕ) → List ℕ → Bool
is_one_of texts stem = list_any (λ text. bytes_eq text stem) texts

abbrev pub is_text : List ℕ → List ℕ → Bool
is_text stem text = bytes_eq text stem

abbrev pub launcher_named : List ℕ → Option (List ℕ)
launcher_named stem = find (is_text stem) launchers

-- a launcher of this name: a known one, or one of further names, which has no options
abbrev pub launcher_among : List (List ℕ) → List ℕ → Option (List ℕ) → Option (List ℕ)
launcher_among more stem (Some launcher) = Some launcher
launcher_among more stem None = if is_one_of more stem then Some [] else None

abbrev pub launcher_in : List (List ℕ) → List ℕ → Option (List ℕ)
launcher_in more stem = launcher_among more stem (launcher_named stem)

-- ---- options of launchers

-- an option of a launcher: without a value, before its value, or with its value joined to it
pub record LauncherOption : Type 0 where
  pub launcher : List ℕ
  pub text : List ℕ
  pub standing : Standing

abbrev pub option : List ℕ → List ℕ → Standing → LauncherOption
option launcher text standing = record { launcher = launcher; text = text; standing = standing }

abbrev pub options : List LauncherOption
options =
    option (codes "env") (codes "-u") Next
    ∷ option (codes "env") (codes "--unset") Next
    ∷ option (codes "nice") (codes "-n") Next
    ∷ option (codes "nice") (codes "--adjustment") Next
    ∷ option (codes "nice") (codes "-n") Joined
    ∷ option (codes "nice") (codes "--adjustment=") Joined
    ∷ option (codes "nice") (codes "-1") Joined
    ∷ option (codes "nice") (codes "-2") Joined
    ∷ option (codes "nice") (codes "-3") Joined
    ∷ option (codes "nice") (codes "-4") Joined
    ∷ option (codes "nice") (codes "-5") Joined
    ∷ option (codes "nice") (codes "-6") Joined
    ∷ option (codes "nice") (codes "-7") Joined
    ∷ option (codes "nice") (codes "-8") Joined
    ∷ option (codes "nice") (codes "-9") Joined
    ∷ option (codes "time") (codes "-a") Alone
    ∷ option (codes "time") (codes "--append") Alone
    ∷ option (codes "time") (codes "-p") Alone
    ∷ option (codes "time") (codes "--portability") Alone
    ∷ option (codes "time") (codes "-q") Alone
    ∷ option (codes "time") (codes "--quiet") Alone
    ∷ option (codes "time") (codes "-v") Alone
    ∷ option (codes "time") (codes "--verbose") Alone
    ∷ option (codes "time") (codes "-f") Next
    ∷ option (codes "time") (codes "--format") Next
    ∷ option (codes "time") (codes "--format=") Joined
    ∷ option (codes "time") (codes "-o") Next
    ∷ option (codes "time") (codes "--output") Next
    ∷ option (codes "time") (codes "--output=") Joined
    ∷ []

abbrev pub stands : Standing → List ℕ → List ℕ → Bool
stands Alone text word = bytes_eq word text
stands Next text word = bytes_eq word text
stands Joined text word = starts_with nat_eq word text

-- the word is this option of this launcher
abbrev pub is_option : List ℕ → List ℕ → LauncherOption → Bool
is_option launcher word it = bytes_eq it.launcher launcher && stands it.standing it.text word

-- how the option of this launcher stands that the word is
abbrev pub standing_of : List ℕ → List ℕ → Option Standing
standing_of launcher word = option_map (λ it. it.standing) (find (is_option launcher word) options)

abbrev pub takes_next : Standing → Bool
takes_next Alone = false
takes_next Next = true
takes_next Joined = false

-- the variables of which a compiler takes words: no launcher may take them away
abbrev pub with_words : List (List ℕ)
with_words = codes "CL" ∷ codes "_CL_" ∷ []

-- letters, digits and `_`
abbrev pub is_in_name : ℕ → Bool
is_in_name byte = nat_le 97 byte && nat_le byte 122 || nat_le 65 byte && nat_le byte 90 || is_digit byte || byte == 95

-- the name of a variable, by a shell's rules
abbrev pub is_name : List ℕ → Bool
is_name text = not (length text == 0) && not (is_digit (slice_index text 0)) && list_all is_in_name text

-- the position of the `=` of a word, if a name is before it
abbrev pub behind_name : List ℕ → Option ℕ → Option ℕ
behind_name word None = None
behind_name word (Some at) = if is_name (take at word) then Some at else None

-- the position of the first `=` of `NAME=..`
abbrev pub assignment_at : List ℕ → Option ℕ
assignment_at word = behind_name word (position (λ byte. byte == 61) word)

abbrev pub is_assignment : List ℕ → Bool
is_assignment word = is_some (assignment_at word)

-- ---- the words before a program

-- the last launcher, if there is one, and whether its last option takes the next word
pub record Front : Type 0 where
  pub launcher : List ℕ
  pub awaits_value : Bool

abbrev pub front : List ℕ → Bool → Front
front launcher awaits_value = record { launcher = launcher; awaits_value = awaits_value }

abbrev pub behind_option : Front → Option Standing → Option Front
behind_option f None = None
behind_option f (Some standing) = Some (front f.launcher (takes_next standing))

abbrev pub behind_launcher : Front → List ℕ → Option (List ℕ) → Option Front
behind_launcher f word None = behind_option f (standing_of f.launcher word)
behind_launcher f word (Some launcher) = Some (front launcher false)

abbrev pub behind_word : List (List ℕ) → Front → List ℕ → List ℕ → Option Front
behind_word more f word stem = if is_assignment word then Some f else behind_launcher f word (launcher_in more stem)

abbrev pub behind_value : Front → List ℕ → Option Front
behind_value f word = if is_one_of with_words word then None else Some (front f.launcher false)

-- the front with one more word, if that may stand before a program: a value that is awaited, an assignment, a launcher, or an
-- option of the last launcher
abbrev pub step : List (List ℕ) → Front → List ℕ → Option Front
step more f word = if f.awaits_value then behind_value f word else behind_word more f word (stem_of word)

abbrev pub program_or : ℕ → Option Front → (Front → Option ℕ) → Option ℕ
program_or at None go = Some at
program_or at (Some f) go = go f

-- the index of the first word that may not stand before a program, from an index on
abbrev pub program_from : List (List ℕ) → Front → ℕ → List (List ℕ) → Option ℕ
program_from more f at [] = None
program_from more f at (word ∷ words) = program_or at (step more f word) (λ g. program_from more g (at + 1) words)

-- the same, where programs of further names are launchers too
abbrev pub program_behind : List (List ℕ) → List (List ℕ) → Option ℕ
program_behind more words = program_from more (front [] false) 0 words

abbrev pub program_at : List (List ℕ) → Option ℕ
program_at words = program_behind [] words
