-- A load goes on, and how it ends.
use Rattle.std.proofs.Common.{◌≡◌, ◌+◌, ◌<◌, ℕ, true, false, List, [], Ok, Contains, map, refl, sym, ap, subst, ◌∙◌}
use Rattle.scl_files.specs.Views.{Viewed}
use Rattle.scl_files.specs.declared.expand.Limits.{Limits}
use Rattle.scl_values.specs.Each.{Each}
use Rattle.scl_reader.specs.Answers.{answer_to, reading_by}
use Rattle.scl_reader.specs.CommandLines.{Given, Request, asked_for}
use Rattle.scl_reader.specs.Questions.{Questions, Extends, HasNoneOf, questions_in, questions_of}
use Rattle.scl_reader.specs.Reads.{files_lacked, outcome_in, read_of}
use Rattle.scl_reader.specs.Within.{has_at_most}
use Rattle.scl_reader.specs.declared.compiler.Compiler.{Compiler}
use Rattle.scl_reader.specs.declared.reading.Reading.{Reading}
use Rattle.scl_reader.proofs.QuestionLaws.{are-decided, readings-decided}
use Rattle.scl_reader.proofs.ReadLaws.{readings-say}
use Rattle.scl_load.specs.Leads.{AreFollowed, AsksIn, IsLead, IsLed, IsReadOnce, Leads, file_leads, leads_found, with_more}
use Rattle.scl_load.specs.Loads.{AreAllSame, AreLooks, HasNoneAsked, IsLoaded, IsLookedFor, Load, asked_all, asked_file, asked_on, first_view, load_of, none}
use Rattle.scl_load.specs.declared.loader.DiskLine.{DiskLine}
use Rattle.scl_load.proofs.ExtendLaws.{extends-empty}
use Rattle.scl_load.proofs.LeadLaws.{each-both, each-flat, each-in, each-inside, each-mapped, each-so, leads-kept}

module _ (holds : Viewed → Type 0) (load : Load) where
  -- on each disk of which this holds: n readings found something, the view was made, and these are left to look for
  abbrev pub IsUnderWay : ℕ → Viewed → Leads → Type 0
  IsUnderWay readings view leads = (held : Viewed) → holds held → held.is_multiarch ≡ load.is_multiarch → IsLed held load readings view leads

  pub last-reading : (readings : ℕ) (before after : Viewed) (leads : Leads) (q : Questions) → readings < load.most_rounds → IsUnderWay readings before leads
      → has_at_most load.most (load.asks before) ≡ true → q ≡ questions_of (load.asks before) → IsLookedFor holds (HasNoneAsked q) (AreAllSame q) before after false
      → (held : Viewed) → holds held → held.is_multiarch ≡ load.is_multiarch → IsLoaded held load after
  last-reading readings before after leads q allowed way within is looked held h m =
      let here = way held h m in
      let found = (looked.1 held h here.extends).none_found refl in
      subst (λ view. IsLoaded held load view) (sym found.0) (record {
        is_made = record { readings = readings; are_looks = here.are_looks; are_allowed = allowed };
        extends = here.extends;
        is_within = within;
        has_none = subst (HasNoneOf held) is found.1;
      })

-- the questions of a reading of a line are those of the line's request
pub asks-so : (compiler : Compiler) (line : Given) (request : Request) (most : Limits) (reading : Reading) (asked : Questions) → asked_for compiler line ≡ request
    → (has_at_most most (asked_for compiler line) ≡ true) × (reading ≡ read_of (asked_for compiler line)) → asked ≡ questions_in line reading
    → (has_at_most most request ≡ true) × (reading ≡ read_of request) × (asked ≡ questions_of request)
asks-so compiler line request most reading asked is read asks =
    subst (λ r. (has_at_most most r ≡ true) × (reading ≡ read_of r) × (asked ≡ questions_of r)) is (read.0, read.1, asks ∙ ap (questions_in line) read.1)

-- if the disk has none of a reading's questions, the reading decides the record and the answer
module _ (holds : Viewed → Type 0) (line : DiskLine) (most : Limits) (most_rounds readings : ℕ) (before after : Viewed) (leads : Leads) (q : Questions)
    (way : IsUnderWay holds (load_of line most most_rounds) readings before leads) (is : q ≡ questions_of (asked_on line before))
    (looked : IsLookedFor holds (HasNoneAsked q) (AreAllSame q) before after false) where
  pub same-answer : (held : Viewed) → holds held → held.is_multiarch ≡ line.multiarch → answer_to (asked_on line held) ≡ answer_to (asked_on line after)
  same-answer held h m =
      let here = way held h m in
      let found = (looked.1 held h here.extends).none_found refl in
      are-decided (asked_on line before) held here.extends (subst (HasNoneOf held) is found.1) ∙ ap (λ view. answer_to (asked_on line view)) (sym found.0)

  pub same-record : (reading : Reading) → reading ≡ read_of (asked_on line before)
      → (held : Viewed) → holds held → held.is_multiarch ≡ line.multiarch → reading_by line.compiler (asked_on line held) ≡ outcome_in reading
  same-record reading e held h m =
      let here = way held h m in
      let found = (looked.1 held h here.extends).none_found refl in
      readings-decided (asked_on line before) held here.extends (subst (HasNoneOf held) is found.1)
      ∙ sym ((readings-say (asked_on line before)).outcome) ∙ ap outcome_in (sym e)

-- ---- a load goes on

module _ (disk : Viewed) (line : DiskLine) (most : Limits) (most_rounds : ℕ) where
  abbrev load : Load
  load = load_of line most most_rounds

  pub led-first : disk.is_multiarch ≡ line.multiarch → IsLed disk load 0 (first_view line.multiarch) (record { directory = line.directory.now; rounds = most_rounds; ahead = [] })
  led-first m = record {
    are_looks = none;
    extends = extends-empty disk line.multiarch m;
    asks_in = λ _. refl;
    most_rounds = refl;
    are_leads = tt;
  }

  -- what is named by the files that a reading lacked and that were found
  found-leads : (directory : List ℕ) → AsksIn directory load → (readings : ℕ) (before after : Viewed) → AreLooks disk load readings before → Extends disk after
      → Each (IsLead disk load after) (leads_found (read_of (asked_on line before)) after directory (readings + 1))
  found-leads directory asks readings before after looks extends =
      let lacked = files_lacked (read_of (asked_on line before)) in
      let paths = map (λ file. file.path) lacked in
      each-flat (IsLead disk load after) (file_leads after directory (readings + 1)) lacked
      (each-so (λ file. Contains paths file.path) (λ file. Each (IsLead disk load after) (file_leads after directory (readings + 1) file)) lacked
      (λ file has. each-inside disk load after directory asks extends file.kind file.path readings (asked_file readings before file.path looks has))
      (each-mapped (Contains paths) (λ file. file.path) lacked (each-in (Contains paths) paths (λ path has. has))))

  pub led-more : (readings : ℕ) (before after : Viewed) (leads : Leads) (holds : Viewed → Type 0) → holds disk → IsLed disk load readings before leads
      → has_at_most most (asked_on line before) ≡ true
      → IsLookedFor holds (HasNoneAsked (questions_of (asked_on line before))) (AreAllSame (questions_of (asked_on line before))) before after true
      → IsLed disk load (readings + 1) after (with_more leads (leads_found (read_of (asked_on line before)) after leads.directory (readings + 1)))
  led-more readings before after leads holds h led within looked =
      let look = looked.1 disk h led.extends in record {
        are_looks = asked_all readings before after led.are_looks within look;
        extends = look.extends;
        asks_in = led.asks_in;
        most_rounds = led.most_rounds;
        are_leads = each-both (IsLead disk load after) leads.ahead _ (leads-kept load leads.directory led.asks_in before after look.keeps disk leads.ahead led.are_leads)
            (found-leads leads.directory led.asks_in readings before after led.are_looks look.extends);
      }

module _ {E : Type 0} (holds : Viewed → Type 0) (fails : E → Type 0) (line : DiskLine) (most : Limits) (most_rounds readings : ℕ) (before after : Viewed) (leads more : Leads)
    (way : IsUnderWay holds (load_of line most most_rounds) readings before leads) where
  pub followed : {R : Type 0} (r : R) → AreFollowed {R = R} {E = E} holds fails leads more before after (Ok r) → IsUnderWay holds (load_of line most most_rounds) readings after more
  followed r on held h m = on held (load_of line most most_rounds) readings h (way held h m)

  pub read-more : (reading : Reading) → IsReadOnce holds fails line most before after (Ok (reading, true)) → more ≡ with_more leads (leads_found reading after leads.directory (readings + 1))
      → IsUnderWay holds (load_of line most most_rounds) (readings + 1) after more
  read-more reading once is held h m =
      subst (IsLed held (load_of line most most_rounds) (readings + 1) after) (sym (is ∙ ap (λ r. with_more leads (leads_found r after leads.directory (readings + 1))) once.1))
      (led-more held line most most_rounds readings before after leads holds h (way held h m) once.0 once.2)
