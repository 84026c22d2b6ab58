-- What is loaded decides what is reported.
use Rattle.scl_catalogue.specs.Form.{Catalogue}
use Rattle.scl_describe.proofs.DecidedLaws.{rows-decided, telling-decided}
use Rattle.scl_describe.specs.Hazards.{known_by}
use Rattle.scl_describe.specs.SettingsRead.{settings_by}
use Rattle.scl_files.specs.Views.{Viewed}
use Rattle.scl_load.specs.Loads.{IsLoaded}
use Rattle.scl_reader.proofs.QuestionLaws.{are-decided, readings-decided}
use Rattle.scl_explain.specs.Said.{InEach, IsDecided, load_for, request_of}
use Rattle.scl_explain.specs.declared.case.Case.{Case}

pub is_decided : (catalogue : Catalogue) (holds : Viewed → Type 0) (case : Case) (view : Viewed) → InEach holds case (λ held. IsLoaded held (load_for case) view) → IsDecided catalogue holds case view
is_decided catalogue holds case view loaded = record {
  answer = λ held h m. let there = loaded held h m in are-decided (request_of case view) held there.extends there.has_none;
  outcome = λ held h m. let there = loaded held h m in readings-decided (request_of case view) held there.extends there.has_none;
  rows = λ held h m. let there = loaded held h m in rows-decided (request_of case view) held there.extends there.has_none;
  told = λ held h m. let there = loaded held h m in telling-decided (known_by catalogue (settings_by case.settings).version) (request_of case view) held there.extends there.has_none;
}
