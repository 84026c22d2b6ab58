-- What is known of a load, or of its error, makes the reply.
use Rattle.std.proofs.Common.{◌⊎◌, List, Result, Ok, Err, IfOk, inr, ap, subst}
use Rattle.std.specs.declared.alloc.AllocError.{AllocError}
use Rattle.scl_catalogue.specs.Form.{Catalogue}
use Rattle.scl_describe.specs.Descriptions.{told_for}
use Rattle.scl_describe.specs.DescriptionsGiven.{AreOf}
use Rattle.scl_describe.specs.SettingsRead.{settings_by}
use Rattle.scl_describe.specs.declared.described.Description.{Description}
use Rattle.scl_files.specs.Views.{Viewed}
use Rattle.scl_hazards.specs.Hazards.{Hazard}
use Rattle.scl_load.specs.Loads.{IsDiskError}
use Rattle.scl_load.specs.declared.loader.LoadError.{LoadError}
use Rattle.scl_reader.specs.Answers.{Answer}
use Rattle.scl_reader.specs.AnswersGiven.{answer_of}
use Rattle.scl_explain.specs.Said.{IsDecided, IsFailure, IsNotLoaded, IsSaid, IsUnread, request_of}
use Rattle.scl_explain.specs.declared.case.Case.{Case}
use Rattle.scl_explain.specs.declared.reply.Reply.{Reply}

pub is_unread : {E : Type 0} (holds : Viewed → Type 0) (fails : E → Type 0) (case : Case) (error : LoadError E) (reply : Reply)
    → IsNotLoaded holds case error → IsDiskError fails error → IsFailure reply → IsUnread holds fails case reply
is_unread holds fails case error reply ends of_disk failure = record { error = error; is_not_loaded = ends; is_disk_error = of_disk; is_failure = failure }

pub is_said : (catalogue : Catalogue) (holds : Viewed → Type 0) (case : Case) (says : Answer → List Hazard → Type 0) (view : Viewed) (described : Description) → IsDecided catalogue holds case view
    → AreOf catalogue (settings_by case.settings) (request_of case view) described → says (answer_of described.answer) described.told.hazards.items → IsSaid catalogue holds case says
is_said catalogue holds case says view described decided of said = record {
  loaded = view;
  decided = decided;
  said = subst (λ answer. says answer (told_for catalogue (settings_by case.settings) (request_of case view)).hazards) of.answer (subst (says (answer_of described.answer)) (ap (λ told. told.hazards) of.told) said);
}

-- so it is of what a reply says, if there is one
pub said_reply : (U : Reply → Type 0) (catalogue : Catalogue) (holds : Viewed → Type 0) (case : Case) (says : Reply → Answer → List Hazard → Type 0) (view : Viewed) (described : Description)
    (r : Result Reply AllocError) → IsDecided catalogue holds case view → AreOf catalogue (settings_by case.settings) (request_of case view) described
    → IfOk r (λ reply. says reply (answer_of described.answer) described.told.hazards.items) → IfOk r (λ reply. U reply ⊎ IsSaid catalogue holds case (says reply))
said_reply U catalogue holds case says view described (Ok reply) decided of said = inr (is_said catalogue holds case (says reply) view described decided of said)
said_reply U catalogue holds case says view described (Err e) decided of said = tt
