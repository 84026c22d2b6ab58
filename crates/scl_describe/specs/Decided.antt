-- What is reported of a request is the same on each disk of which its view has enough.
use Rattle.std.specs.Prelude.{◌≡◌}
use Rattle.scl_files.specs.Views.{Viewed}
use Rattle.scl_hazards.specs.Hazards.{Known}
use Rattle.scl_reader.specs.CommandLines.{Request}
use Rattle.scl_reader.specs.Questions.{Extends, HasNoneOf, on_disk, questions_of}
use Rattle.scl_describe.specs.Hazards.{told_by}
use Rattle.scl_describe.specs.OptionRows.{rows_by}

abbrev pub RowsAreDecided : Type 0
RowsAreDecided = (r : Request) (disk : Viewed) → Extends disk r.view → HasNoneOf disk (questions_of r) → rows_by (on_disk r disk) ≡ rows_by r

abbrev pub TellingIsDecided : Type 0
TellingIsDecided = (known : Known) (r : Request) (disk : Viewed) → Extends disk r.view → HasNoneOf disk (questions_of r) → told_by known (on_disk r disk) ≡ told_by known r
