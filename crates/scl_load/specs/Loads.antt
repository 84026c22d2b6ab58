-- What looking for paths on a disk finds, and how a load ends.
use Rattle.std.specs.Prelude.{◌≡◌, ◌+◌, ◌<◌, ◌≤◌, ◌⊎◌, ℕ, Bool, true, false, List, Some, is_some, Result, Ok, Err}
use Rattle.std.specs.List.{Contains, filter_map}
use Rattle.scl_values.specs.Words.{words_of}
use Rattle.scl_values.specs.Each.{Each}
use Rattle.scl_files.specs.ResponseFiles.{arguments, named}
use Rattle.scl_files.specs.Views.{Viewed, empty_view, bytes_at, exists, is_directory}
use Rattle.scl_files.specs.declared.expand.ExpansionKind.{ExpansionKind}
use Rattle.scl_files.specs.declared.expand.Limits.{Limits}
use Rattle.scl_text.specs.Commands.{pairs_of}
use Rattle.scl_reader.specs.Questions.{Questions, Extends, HasNoneOf, questions_of}
use Rattle.scl_reader.specs.CommandLines.{Request, asked}
use Rattle.scl_reader.specs.Within.{has_at_most}
use Rattle.scl_load.specs.declared.loader.DiskLine.{DiskLine}
use Rattle.scl_load.specs.declared.loader.LoadError.{LoadError}
use Rattle.scl_load.specs.declared.loader.LoadError.TheVariants as errors
use Rattle.scl_load.specs.declared.look.Sought.{Sought}
use Rattle.scl_load.specs.declared.look.Sought.TheVariants as kinds

-- ---- looks

-- the thing to look for is at the path
abbrev pub is_there : Sought → List ℕ → Viewed → Bool
is_there kinds.File path disk = is_some (bytes_at path disk.files)
is_there kinds.Directory path disk = is_directory path disk
is_there kinds.Existing path disk = exists path disk

abbrev pub IsAbsent : Sought → List ℕ → Viewed → Type 0
IsAbsent sought path disk = is_there sought path disk ≡ false

abbrev pub AreAbsent : Sought → List (List ℕ) → Viewed → Type 0
AreAbsent sought paths disk = Each (λ path. IsAbsent sought path disk) paths

-- of the thing to look for at the path, the view has what the disk has
abbrev pub IsSame : Sought → List ℕ → Viewed → Viewed → Type 0
IsSame kinds.File path disk view = bytes_at path disk.files ≡ bytes_at path view.files
IsSame kinds.Directory path disk view = is_directory path disk ≡ is_directory path view
IsSame kinds.Existing path disk view = exists path disk ≡ exists path view

abbrev pub AreSame : Sought → List (List ℕ) → Viewed → Viewed → Type 0
AreSame sought paths disk view = Each (λ path. IsSame sought path disk view) paths

-- Looking on a disk, with a view that has only what the disk has. The new view also has only what the disk has, and all that
-- it had. What was looked for is the same in it as on the disk. If nothing was found, the view is unchanged and the disk has
-- none of it; otherwise the disk has some.
pub record IsLook (has_none : Viewed → Type 0) (are_same : Viewed → Viewed → Type 0) (disk before after : Viewed) (found : Bool) : Type 0 where
  pub extends : Extends disk after
  pub keeps : Extends after before
  pub same : are_same disk after
  pub none_found : found ≡ false → (after ≡ before) × has_none disk
  pub some_found : found ≡ true → ¬ has_none disk

-- so it is on each disk of which this holds; if nothing was found the view is unchanged, on any disk
abbrev pub IsLookedFor : (Viewed → Type 0) → (Viewed → Type 0) → (Viewed → Viewed → Type 0) → Viewed → Viewed → Bool → Type 0
IsLookedFor holds has_none are_same before after found = (found ≡ false → after ≡ before) × ((disk : Viewed) → holds disk → Extends disk before → IsLook has_none are_same disk before after found)

-- the same for all that is in question
abbrev pub AreAllSame : Questions → Viewed → Viewed → Type 0
AreAllSame q disk view = AreSame kinds.File q.files disk view × AreSame kinds.Directory q.directories disk view × AreSame kinds.Existing q.existing disk view

abbrev pub HasNoneAsked : Questions → Viewed → Type 0
HasNoneAsked q disk = HasNoneOf disk q

-- ---- loads

-- a command line on a disk, as a request with this view
abbrev pub asked_on : DiskLine → Viewed → Request
asked_on line view = asked line.compiler (words_of line.words.now) line.directory.now (pairs_of line.environment.now) view

-- what is loaded: the request for a view; whether several architectures are allowed; the limits of an
-- expansion; and the limit on rounds
pub record Load : Type 0 where
  pub asks : Viewed → Request
  pub is_multiarch : Bool
  pub most : Limits
  pub most_rounds : ℕ

abbrev pub load_of : DiskLine → Limits → ℕ → Load
load_of line most rounds = record { asks = asked_on line; is_multiarch = line.multiarch; most = most; most_rounds = rounds }

abbrev pub first_view : Bool → Viewed
first_view multiarch = record empty_view { is_multiarch = multiarch }

-- the paths of the response files that words name
abbrev pub paths_named : ExpansionKind → List ℕ → List (List ℕ) → List (List ℕ)
paths_named kind directory words = filter_map (named kind directory) words

-- words inside a file of the view name a response file with this path
abbrev pub IsInside : Load → Viewed → List ℕ → List ℕ → Type 0
IsInside load view file path = (kind : ExpansionKind) × (bytes : List ℕ) × (words : List (List ℕ)) × (bytes_at file view.files ≡ Some bytes) × (arguments kind bytes ≡ Some words)
    × Contains (paths_named kind (load.asks view).directory words) path

-- Looks that make the view from nothing, with the number of readings that found something. Each look is for a response file
-- that words inside a file that was found name. Or it is for all of a reading's questions, if no command line is too long, and
-- finds some of it.
pub data AreLooks (disk : Viewed) (load : Load) : ℕ → Viewed → Type 0 where
  none : AreLooks disk load 0 (first_view load.is_multiarch)
  file : (n : ℕ) (before after : Viewed) (from path : List ℕ) (found : Bool) → AreLooks disk load n before → IsInside load before from path
      → IsLook (IsAbsent kinds.File path) (IsSame kinds.File path) disk before after found → AreLooks disk load n after
  asked_all : (n : ℕ) (before after : Viewed) → AreLooks disk load n before → has_at_most load.most (load.asks before) ≡ true
      → IsLook (HasNoneAsked (questions_of (load.asks before))) (AreAllSame (questions_of (load.asks before))) disk before after true
      → AreLooks disk load (n + 1) after

-- A path that is reached in n steps. It is a question of a reading, after n readings that found something; or it is named by a
-- file of the disk that is reached in one step less.
pub data IsChain (disk : Viewed) (load : Load) : ℕ → List ℕ → Type 0 where
  asked_file : (n : ℕ) (view : Viewed) (path : List ℕ) → AreLooks disk load n view → Contains (questions_of (load.asks view)).files path → IsChain disk load n path
  inside : (n : ℕ) (from path : List ℕ) → IsChain disk load n from → IsInside load disk from path → IsChain disk load (n + 1) path

-- the view was made with fewer readings that found something than the limit on rounds
pub record IsMade (disk : Viewed) (load : Load) (view : Viewed) : Type 0 where
  pub readings : ℕ
  pub are_looks : AreLooks disk load readings view
  pub are_allowed : readings < load.most_rounds

-- it was made, no command line is too long, and the disk has none of the questions
pub record IsLoaded (disk : Viewed) (load : Load) (view : Viewed) : Type 0 where
  pub is_made : IsMade disk load view
  pub extends : Extends disk view
  pub is_within : has_at_most load.most (load.asks view) ≡ true
  pub has_none : HasNoneOf disk (questions_of (load.asks view))

-- with what was loaded, a command line is too long
pub record IsTooLong (disk : Viewed) (load : Load) : Type 0 where
  pub view : Viewed
  pub is_made : IsMade disk load view
  pub is_longer : has_at_most load.most (load.asks view) ≡ false

-- a file of the disk is the last of a chain with as many files as the limit on rounds
pub record IsDeep (disk : Viewed) (load : Load) : Type 0 where
  pub depth : ℕ
  pub path : List ℕ
  pub is_chain : IsChain disk load depth path
  pub is_there : is_there kinds.File path disk ≡ true
  pub is_deep : load.most_rounds ≤ depth + 1

-- as many readings as the limit on rounds found something
pub record IsUnended (disk : Viewed) (load : Load) : Type 0 where
  pub view : Viewed
  pub are_looks : AreLooks disk load load.most_rounds view

-- how a load ends, except by a failed read
abbrev pub IsEnd : {E : Type 0} → Viewed → Load → Result Viewed (LoadError E) → Type 0
IsEnd disk load (Ok view) = IsLoaded disk load view
IsEnd disk load (Err errors.TooManyWords) = IsTooLong disk load
IsEnd disk load (Err errors.TooManyRounds) = IsDeep disk load ⊎ IsUnended disk load
IsEnd disk load (Err (errors.Disk error)) = Unit {0}

-- if the error of a load is the disk's, it is one with which the disk fails
abbrev pub IsDiskError : {E : Type 0} → (E → Type 0) → LoadError E → Type 0
IsDiskError fails (errors.Disk error) = fails error
IsDiskError fails errors.TooManyWords = Unit {0}
IsDiskError fails errors.TooManyRounds = Unit {0}
