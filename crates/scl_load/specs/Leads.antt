-- Response files that words name, followed from file to file.
use Rattle.std.specs.Prelude.{◌≡◌, ℕ, Bool, true, false, List, [], ◌∷◌, ◌++◌, map, Option, None, Some, Result, Ok, Err, if◌then◌else◌}
use Rattle.std.specs.List.{flat_map}
use Rattle.scl_files.specs.ResponseFiles.{arguments, named}
use Rattle.scl_files.specs.Views.{Viewed, bytes_at}
use Rattle.scl_files.specs.contracts.expand.ExpansionKindPartialEq.TheImpl.{ghosts}
use Rattle.scl_files.specs.declared.expand.ExpansionKind.{ExpansionKind}
use Rattle.scl_files.specs.declared.expand.ExpansionKind.TheVariants as expansions
use Rattle.scl_files.specs.declared.expand.Limits.{Limits}
use Rattle.scl_reader.specs.Questions.{Extends, questions_of}
use Rattle.scl_reader.specs.Reads.{Lacked, files_lacked, read_of}
use Rattle.scl_reader.specs.Within.{has_at_most}
use Rattle.scl_reader.specs.declared.reading.Reading.{Reading}
use Rattle.scl_values.specs.Each.{Each}
use Rattle.scl_load.specs.Loads.{AreAllSame, AreLooks, HasNoneAsked, IsChain, IsDeep, IsInside, IsLookedFor, Load, asked_on, is_there}
use Rattle.scl_load.specs.declared.leads.Lead as code
use Rattle.scl_load.specs.declared.leads.Leads as all
use Rattle.scl_load.specs.declared.loader.DiskLine.{DiskLine}
use Rattle.scl_load.specs.declared.loader.LoadError.{LoadError}
use Rattle.scl_load.specs.declared.loader.LoadError.TheVariants as errors
use Rattle.scl_load.specs.declared.look.Sought.TheVariants as kinds

-- a response file that words name: the compiler's kind, its path, and the number of files in the chain before it
pub record Lead : Type 0 where
  pub kind : ExpansionKind
  pub path : List ℕ
  pub depth : ℕ

abbrev pub lead_of : code.Lead → Lead
lead_of lead = record { kind = lead.kind; path = lead.path.items; depth = lead.depth }

-- response files to look for, in order: the directory in which words name them, and the limit on the files of a chain
pub record Leads : Type 0 where
  pub directory : List ℕ
  pub rounds : ℕ
  pub ahead : List Lead

abbrev pub leads_of : all.Leads → Leads
leads_of leads = record { directory = leads.directory.now; rounds = leads.rounds; ahead = map lead_of leads.ahead.items }

-- others after them
abbrev pub with_more : Leads → List Lead → Leads
with_more leads more = record leads { ahead = leads.ahead ++ more }

-- the one with this path, if there is a path
abbrev pub lead_from : ExpansionKind → ℕ → Option (List ℕ) → List Lead
lead_from kind depth None = []
lead_from kind depth (Some path) = record { kind = kind; path = path; depth = depth } ∷ []

-- the one that a word names, if it names one
abbrev pub lead_at : ExpansionKind → List ℕ → ℕ → List ℕ → List Lead
lead_at kind directory depth word = lead_from kind depth (named kind directory word)

-- those that words name
abbrev pub leads_named : ExpansionKind → List ℕ → List (List ℕ) → ℕ → List Lead
leads_named kind directory words depth = flat_map (lead_at kind directory depth) words

abbrev pub leads_in : ExpansionKind → List ℕ → Option (List (List ℕ)) → ℕ → List Lead
leads_in kind directory None depth = []
leads_in kind directory (Some words) depth = leads_named kind directory words depth

-- those that the words of a file with these bytes name; words in Msvc's files name none
abbrev pub leads_inside : ExpansionKind → List ℕ → List ℕ → ℕ → List Lead
leads_inside kind directory bytes depth = if ghosts.eq kind expansions.Msvc then [] else leads_in kind directory (arguments kind bytes) depth

abbrev pub leads_from : ExpansionKind → List ℕ → Option (List ℕ) → ℕ → List Lead
leads_from kind directory None depth = []
leads_from kind directory (Some bytes) depth = leads_inside kind directory bytes depth

-- those that a file names, if the view has it
abbrev pub file_leads : Viewed → List ℕ → ℕ → Lacked → List Lead
file_leads view directory depth file = leads_from file.kind directory (bytes_at file.path view.files) depth

-- those that are named by the files which a reading lacked and the view has
abbrev pub leads_found : Reading → Viewed → List ℕ → ℕ → List Lead
leads_found reading view directory depth = flat_map (file_leads view directory depth) (files_lacked reading)

-- ---- on a disk

-- it is one of a load that made the view
pub record IsLead (disk : Viewed) (load : Load) (view : Viewed) (lead : Lead) : Type 0 where
  pub is_chain : IsChain disk load lead.depth lead.path
  pub is_named : (from : List ℕ) × IsInside load view from lead.path

-- each reading of a load is in the directory
abbrev pub AsksIn : List ℕ → Load → Type 0
AsksIn directory load = (view : Viewed) → (load.asks view).directory ≡ directory

-- a load on the disk made the view with n readings, and these are left to look for
pub record IsLed (disk : Viewed) (load : Load) (readings : ℕ) (view : Viewed) (leads : Leads) : Type 0 where
  pub are_looks : AreLooks disk load readings view
  pub extends : Extends disk view
  pub asks_in : AsksIn leads.directory load
  pub most_rounds : load.most_rounds ≡ leads.rounds
  pub are_leads : Each (IsLead disk load view) leads.ahead

-- how a load goes on, on each disk of which this holds
abbrev pub GoesOn : (Viewed → Type 0) → (before after : Viewed) → (leads leads' : Leads) → Type 0
GoesOn holds before after leads leads' = (disk : Viewed) (load : Load) (readings : ℕ) → holds disk → IsLed disk load readings before leads → IsLed disk load readings after leads'

-- it is a lead of such a load, and the disk has its file
abbrev pub IsFound : (Viewed → Type 0) → (before after : Viewed) → Leads → Lead → Type 0
IsFound holds before after leads lead = (disk : Viewed) (load : Load) (readings : ℕ) → holds disk → IsLed disk load readings before leads
    → IsLead disk load after lead × (is_there kinds.File lead.path disk ≡ true)

-- the next one that the disk has and the view did not have was found, or there is none; or the disk fails
abbrev pub IsFoundNext : {E : Type 0} → (Viewed → Type 0) → (E → Type 0) → (leads leads' : Leads) → (before after : Viewed) → Result (Option code.Lead) E → Type 0
IsFoundNext holds fails leads leads' before after (Ok (Some lead)) = GoesOn holds before after leads leads' × IsFound holds before after leads (lead_of lead)
IsFoundNext holds fails leads leads' before after (Ok None) = GoesOn holds before after leads leads'
IsFoundNext holds fails leads leads' before after (Err error) = fails error

-- a load went on; or the disk fails; or a chain has as many files as the limit on rounds
abbrev pub AreFollowed : {R E : Type 0} → (Viewed → Type 0) → (E → Type 0) → (leads leads' : Leads) → (before after : Viewed) → Result R (LoadError E) → Type 0
AreFollowed holds fails leads leads' before after (Ok _) = GoesOn holds before after leads leads'
AreFollowed holds fails leads leads' before after (Err (errors.Disk error)) = fails error
AreFollowed holds fails leads leads' before after (Err errors.TooManyWords) = ⊥
AreFollowed holds fails leads leads' before after (Err errors.TooManyRounds) = (disk : Viewed) (load : Load) (readings : ℕ) → holds disk → IsLed disk load readings before leads → IsDeep disk load

-- ---- a reading

-- No command line was too long, and the reading's questions were looked for. Or a command line was too long, or the disk fails.
abbrev pub IsReadOnce : {E : Type 0} → (Viewed → Type 0) → (E → Type 0) → DiskLine → (most : Limits) → (before after : Viewed) → Result (Reading × Bool) (LoadError E) → Type 0
IsReadOnce holds fails line most before after (Ok both) = let request = asked_on line before in
    (has_at_most most request ≡ true) × (both.0 ≡ read_of request) × IsLookedFor holds (HasNoneAsked (questions_of request)) (AreAllSame (questions_of request)) before after both.1
IsReadOnce holds fails line most before after (Err (errors.Disk error)) = fails error
IsReadOnce holds fails line most before after (Err errors.TooManyWords) = has_at_most most (asked_on line before) ≡ false
IsReadOnce holds fails line most before after (Err errors.TooManyRounds) = ⊥
