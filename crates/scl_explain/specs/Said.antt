-- What is said of a command line on a disk.
use Rattle.std.specs.Prelude.{◌≡◌, List, [], Err}
use Rattle.scl_catalogue.specs.Form.{Catalogue}
use Rattle.scl_values.specs.Words.{words_of}
use Rattle.scl_files.specs.Views.{Viewed}
use Rattle.scl_text.specs.Commands.{pairs_of}
use Rattle.scl_hazards.specs.Hazards.{Hazard}
use Rattle.scl_reader.specs.CommandLines.{Request, asked}
use Rattle.scl_reader.specs.Answers.{Answer, answer_to, reading_by}
use Rattle.scl_reader.specs.Questions.{Extends, HasNoneOf, questions_of}
use Rattle.scl_describe.specs.Descriptions.{told_for}
use Rattle.scl_describe.specs.Hazards.{known_by, told_by}
use Rattle.scl_describe.specs.OptionRows.{rows_by}
use Rattle.scl_describe.specs.SettingsRead.{settings_by}
use Rattle.scl_load.specs.Loads.{Load, IsDiskError, IsEnd}
use Rattle.scl_load.specs.declared.loader.LoadError.{LoadError}
use Rattle.scl_explain.specs.Endings.{are_named, ending_of}
use Rattle.scl_explain.specs.Replies.{IsChecked, command_written, is_barred}
use Rattle.scl_explain.specs.declared.case.Case.{Case}
use Rattle.scl_explain.specs.declared.commanded.CommandForm.{CommandForm}
use Rattle.scl_explain.specs.declared.reply.Form.{Form}
use Rattle.scl_explain.specs.declared.reply.Reply.{Reply}
use Rattle.scl_explain.specs.declared.status.Ending.TheVariants as ending

-- the request about a command line in a view
abbrev pub request_of : Case → Viewed → Request
request_of case view = asked case.compiler (words_of case.words.items) case.cwd.items (pairs_of case.env_vars.items) view

-- so it is in each view of which this holds, and in which several architectures are allowed as for the case
abbrev pub InEach : (Viewed → Type 0) → Case → (Viewed → Type 0) → Type 0
InEach holds case is = (held : Viewed) → holds held → held.is_multiarch ≡ case.multiarch → is held

-- the answer to a case is this on each disk that has what the view has, and none of the questions of its answer
abbrev pub Decides : Viewed → Case → Answer → Type 0
Decides view case answer = (disk : Viewed) → Extends disk view → HasNoneOf disk (questions_of (request_of case view)) → answer_to (request_of case disk) ≡ answer

-- what is reported of a case on each disk of which this holds is what is reported of it in the view: the answer, the record or
-- why there is none, the rows, and what the catalogue reports
pub record IsDecided (catalogue : Catalogue) (holds : Viewed → Type 0) (case : Case) (view : Viewed) : Type 0 where
  pub answer : InEach holds case (λ held. answer_to (request_of case held) ≡ answer_to (request_of case view))
  pub outcome : InEach holds case (λ held. reading_by case.compiler (request_of case held) ≡ reading_by case.compiler (request_of case view))
  pub rows : InEach holds case (λ held. rows_by (request_of case held) ≡ rows_by (request_of case view))
  pub told : let known = known_by catalogue (settings_by case.settings).version in
      InEach holds case (λ held. told_by known (request_of case held) ≡ told_by known (request_of case view))

-- of a view that decides what is reported on such disks, this is said of the answer and of the hazards, as they are wanted
pub record IsSaid (catalogue : Catalogue) (holds : Viewed → Type 0) (case : Case) (says : Answer → List Hazard → Type 0) : Type 0 where
  pub loaded : Viewed
  pub decided : IsDecided catalogue holds case loaded
  pub said : let request = request_of case loaded in says (answer_to request) (told_for catalogue (settings_by case.settings) request).hazards

-- what is loaded for a command line: it may have as many words, with its response files in place, and open files as often as its
-- limit says, and fewer than 2^12 files may name each the next
abbrev pub load_for : Case → Load
load_for case = record { asks = request_of case; is_multiarch = case.multiarch; most = case.settings.limits; most_rounds = 4096 }

-- a load for a command line ends by this error, on each disk of which this holds
abbrev pub IsNotLoaded : {E : Type 0} → (Viewed → Type 0) → Case → LoadError E → Type 0
IsNotLoaded holds case error = InEach holds case (λ held. IsEnd held (load_for case) (Err error))

-- a reply that is nothing but that a file can't be read
pub record IsFailure (reply : Reply) : Type 0 where
  pub ending : reply.ending ≡ ending.FileFailed
  pub output : reply.output.items ≡ []

-- the reply to a load that ends by an error, which is one of the disk's where it is of the disk
pub record IsUnread {E : Type 0} (holds : Viewed → Type 0) (fails : E → Type 0) (case : Case) (reply : Reply) : Type 0 where
  pub error : LoadError E
  pub is_not_loaded : IsNotLoaded holds case error
  pub is_disk_error : IsDiskError fails error
  pub is_failure : IsFailure reply

-- a reply with the command to run, where there is one and it is not barred
pub record IsCommanded (form : CommandForm) (case : Case) (reply : Reply) (answer : Answer) (hazards : List Hazard) : Type 0 where
  pub ending : reply.ending ≡ ending_of case.program.items answer (is_barred form.is_strict hazards)
  pub output : reply.output.items ≡ command_written form.words case.program.items answer (is_barred form.is_strict hazards)

-- a reply with the hazards
pub record IsCheckedReply (form : Form) (case : Case) (reply : Reply) (answer : Answer) (hazards : List Hazard) : Type 0 where
  pub ending : reply.ending ≡ ending_of case.program.items answer (are_named hazards)
  pub output : IsChecked form hazards reply.output.items
